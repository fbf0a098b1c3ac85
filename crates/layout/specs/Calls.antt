-- Every call as a total function of the pool's words and the numbers: the answer, and the words that it leaves.
-- Rests on the plans and on what a plan does to the words.
use Rattle.std.specs.Prelude.{ℕ, List, None, Option, Some}
use Rattle.acts.specs.Acts.{Act}
use Rattle.rulebook.specs.declared.Reply.{Reply}
use Rattle.acts.specs.Looks.{sees_cell, sees_entry, sees_log, sees_report, sees_task, sees_version}
use Rattle.acts.specs.Plans.{plan_get, plan_new, plan_page, plan_release, plan_set}
use Rattle.acts.specs.StepPlans.{plan_step}
use Rattle.acts.specs.Sight.{Sight}
use Rattle.layout.specs.Header.{header_of}
use Rattle.layout.specs.Pool.{applied_in, sight}
use Rattle.rulebook.specs.declared.Reply.TheVariants as reply
use Rattle.rulebook.specs.declared.Sizes.{Sizes}

-- 1, or what the plan for what is seen does
unfoldable pub called_in : Option Sizes → List ℕ → (Sight → Act) → List ℕ × Reply
called_in None p f = (p, reply.Refused 1)
called_in (Some d) p f = applied_in p d (f (sight p d))

unfoldable pub start_new_in : List ℕ → ℕ → ℕ → List ℕ × Reply
start_new_in p t v = called_in (header_of p) p (λ e. plan_new e t v)

unfoldable pub start_get_in : List ℕ → ℕ → ℕ → ℕ → List ℕ × Reply
start_get_in p t h i = called_in (header_of p) p (λ e. plan_get e t h i)

unfoldable pub start_set_in : List ℕ → ℕ → ℕ → ℕ → ℕ → List ℕ × Reply
start_set_in p t h i v = called_in (header_of p) p (λ e. plan_set e t h i v)

unfoldable pub start_page_in : List ℕ → ℕ → ℕ → ℕ → ℕ → List ℕ × Reply
start_page_in p t h from m = called_in (header_of p) p (λ e. plan_page e t h from m)

unfoldable pub step_in : List ℕ → ℕ → List ℕ × Reply
step_in p t = called_in (header_of p) p (λ e. plan_step e t)

unfoldable pub release_in : List ℕ → ℕ → List ℕ × Reply
release_in p h = called_in (header_of p) p (λ e. plan_release e h)

-- ---- calls that only look

unfoldable pub seen_in : Option Sizes → List ℕ → (Sight → Reply) → Reply
seen_in None p f = reply.Refused 1
seen_in (Some d) p f = f (sight p d)

unfoldable pub look_version_in : List ℕ → ℕ → Reply
look_version_in p b = seen_in (header_of p) p (λ e. sees_version e b)

unfoldable pub look_cell_in : List ℕ → ℕ → ℕ → Reply
look_cell_in p b i = seen_in (header_of p) p (λ e. sees_cell e b i)

unfoldable pub look_log_in : List ℕ → ℕ → ℕ → Reply
look_log_in p b i = seen_in (header_of p) p (λ e. sees_log e b i)

unfoldable pub look_entry_in : List ℕ → ℕ → ℕ → ℕ → Reply
look_entry_in p b i j = seen_in (header_of p) p (λ e. sees_entry e b i j)

unfoldable pub look_task_in : List ℕ → ℕ → Reply
look_task_in p t = seen_in (header_of p) p (λ e. sees_task e t)

unfoldable pub report_in : List ℕ → Reply
report_in p = seen_in (header_of p) p sees_report
