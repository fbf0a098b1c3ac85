-- Rule 7's parts in their order: what each that holds tells those after it.
-- Rests on Broken and Decided.
use Rattle.std.specs.Prelude.{ℕ, true, List, ◌≡◌}
use Rattle.rulebook.specs.declared.Sizes.{Sizes}
use Rattle.layout.specs.Places.{Spans}
use Rattle.layout.specs.Pool.{view_of}
use Rattle.rules.specs.Paced.{Paced}
use Rattle.theorems.specs.Terms.{all_to}
use Rattle.survey.specs.Broken.{facts_at, slot_sound, task_sound}
use Rattle.survey.proofs.Decided.{facts_decide, rows_decide, slots_decide}
use Rattle.audit.specs.Facts.{Known}
use Rattle.audit.specs.Fillers.{Facts}
use Rattle.survey.specs.Rules.{Rule2, Rule3, Rule6, shown}

module _ (d : Sizes) (p : List ℕ) (sp : Spans d p) (slots : all_to (slot_sound d p) d.h ≡ true) (rows : all_to (task_sound d p) d.t ≡ true) where
  -- every row is in its ranges
  pub part-paced : Paced (shown d p)
  unfolding view_of
  part-paced = record { tasks = ((rows_decide d p sp).yes rows).1; slots = ((slots_decide d p sp).yes slots).1 }

  pub part-known : Rule2 d p → Rule3 d p → Rule6 d p → Known d p
  part-known two three six = record { spans = sp; two = two; three = three; six = six; paced = part-paced }

  pub part-told : all_to (facts_at d p) d.t ≡ true → Facts d p
  part-told done = record { spans = sp; paced = part-paced; tasks = (facts_decide d p sp).yes done }
