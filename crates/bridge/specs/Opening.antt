-- An accepted open leaves a sound pool, which shows the machine's opened state; whatever the words were before.
-- Rests on layout's laws of open and on the rules of an opened state.
use Rattle.std.specs.Prelude.{◌<◌, ℕ, ◌&&◌, false, true, List, ◌≡◌, get_or, length, if◌then◌else◌}
use Rattle.std.proofs.Common.{true≢false, ◌∙◌, ap, sym, arith}
use Rattle.std.proofs.Math.Path.{refl, subst⁻¹}
use Rattle.std.proofs.Math.Dec.{eqb}
use Rattle.rulebook.specs.declared.Sizes.{Sizes}
use Rattle.rulebook.specs.declared.Slot.{Slot}
use Rattle.rulebook.specs.declared.Task.{Task}
use Rattle.rulebook.specs.Codes.{code_of, stage_from, stage_of}
use Rattle.layout.specs.Header.{sizes_of}
use Rattle.layout.specs.Opened.{open-header, open_not, open-reply, open_rows, open_view}
use Rattle.layout.specs.Parts.{get_or-part}
use Rattle.layout.specs.Places.{slot_part, task_part}
use Rattle.layout.specs.Pool.{lie_of, open_in, view_of}
use Rattle.layout.specs.Rows.{task_read}
use Rattle.rulebook.specs.Lists.{any_replicate, replicate_get}
use Rattle.rulebook.specs.Sizes.{control_words, opens}
use Rattle.rulebook.specs.Starts.{Lie, opened, opening}
use Rattle.rulebook.specs.State.{State, fills, freed, idle, is_live, stood, task_at}
use Rattle.rulebook.specs.Tests.{by_test}
use Rattle.rules.proofs.Calls.{paced-opened}
use Rattle.rules.proofs.Kept.{rules-opened}
use Rattle.rules.specs.Paced.{Paced}
use Rattle.rules.specs.Rules.{Rules}
use Rattle.bridge.specs.Asked.{Bridged}
use Rattle.bridge.specs.Sound.{Sound}

module _ (p : List ℕ) (n h t : ℕ) (o : opens n h t (length p) ≡ true) where
  abbrev d : Sizes
  d = sizes_of n h t (length p)

  abbrev q : List ℕ
  q = (open_in p n h t).0

  abbrev lie : Lie
  lie = lie_of d p

  slot-word : (j : ℕ) → j < h → get_or (slot_part q j) 1 0 ≡ 0
  unfolding slot_part control_words
  slot-word j l = get_or-part q _ _ 1 (omega arith) ∙ open_rows p n h t o _ (omega arith) (omega arith)

  task-word : (j : ℕ) → j < t → get_or (task_part q d j) 0 0 ≡ 0
  unfolding task_part control_words
  task-word j l = get_or-part q _ _ 0 (omega arith) ∙ open_rows p n h t o _ (omega arith) (omega arith)

  code-zero : (w : List ℕ) → get_or w 0 0 ≡ 0 → code_of (task_read w).stage ≡ get_or w 0 0
  unfolding task_read stage_from stage_of code_of
  code-zero w e = rw e

  not_stood : (k : ℕ) → stood (opened n h t (length p) lie) k ≡ false
  unfolding stood opened
  not_stood k = any_replicate (λ (x : Slot). is_live x.status && eqb x.block k) h (freed 0) refl

  all-idle : (j : ℕ) → task_at (opened n h t (length p) lie) j ≡ idle
  unfolding opened
  all-idle j = replicate_get t idle j

  pub open-sound : Sound (sizes_of n h t (length p)) (open_in p n h t).0
  open-sound = record {
    header = open-header p n h t o;
    statuses = λ j l. let z = slot-word j l in omega arith;
    codes = λ j l. code-zero _ (task-word j l);
    rules = subst⁻¹ Rules state (rules-opened n h t (length p) lie);
    paced = subst⁻¹ Paced state (paced-opened n h t (length p) lie o);
    stood_laid = λ k l e. absurd (true≢false (sym e ∙ ap (λ (z : State). stood z k) state ∙ not_stood k));
    filling_laid = λ j e. absurd (true≢false (sym e ∙ ap (λ (z : State). fills (task_at z j).stage) state ∙ ap (λ (k : Task). fills k.stage) (all-idle j)));
  }
    where
      state : view_of d q ≡ opened n h t (length p) lie
      state = open_view p n h t o

-- an open on a sound pool, accepted or refused
pub open_bridged : {d : Sizes} {p : List ℕ} → Sound d p → (n h t : ℕ)
    → Bridged (if opens n h t (length p) then sizes_of n h t (length p) else d) (open_in p n h t) (opening (view_of d p) n h t (length p) (lie_of (sizes_of n h t (length p)) p))
unfolding opening
open_bridged {d} {p} S n h t =
    by_test (opens n h t (length p))
    (λ o. rw o (record { state = open_view p n h t o; reply = open-reply p n h t o; sound = open-sound p n h t o }))
    (λ o. rw (o, open_not p n h t o) (record { state = refl; reply = refl; sound = S }))
