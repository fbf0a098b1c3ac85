-- What holds of every history: whatever calls are made from an opened state, with any arguments and in any order of the tasks' steps.
-- Rests on the rule book's definitions and on Terms, which says what the words here mean; the proofs stand in the other modules.
use Rattle.std.specs.Prelude.{◌+◌, ◌<◌, ◌≤◌, ℕ, true, List, [], ◌≡◌}
use Rattle.rulebook.specs.Answers.{operation, refusal, words}
use Rattle.rulebook.specs.History.{Ended, IsOpened, Past, Value, past, run, sets_bound, table_of, work_code}
use Rattle.rulebook.specs.Machine.{Call, call}
use Rattle.rulebook.specs.State.{State, busy, live_handle, task_at}
use Rattle.rulebook.specs.Steps.{step}
use Rattle.theorems.specs.Notes.Calls.{notes-past}
use Rattle.theorems.specs.Notes.Step.{Notes}
use Rattle.theorems.proofs.Causes.{fits-call}
use Rattle.theorems.proofs.Follows.{kept_proof, store_proof}
use Rattle.theorems.proofs.Progress.{not_spent, progress-on}
use Rattle.theorems.specs.Proofs.Reads.{join_any_proof, join_proof, numbers_proof, order_proof, price_proof, reads_proof, sets_proof, spent_proof, steps_proof, tables_proof}
use Rattle.theorems.specs.Proofs.Ten.{ten_proof}
use Rattle.theorems.specs.Proofs.Valid.{valid_proof}
use Rattle.theorems.specs.Terms.{Ends, Every, Harmless, HasGiven, In, IsRead, Once, Spent, Valid, by_cell, causes, cells_of, due, on_version, price, shown, steps_in, up_to, values_of}

-- s is a state that an accepted open leads to, cs are the calls made since; p is what has happened, p.store the machine's state
module _ (s : State) (opening : IsOpened s) (cs : List Call) where
  abbrev p : Past
  p = past s cs

  abbrev N : ℕ
  N = p.store.sizes.n

  n : Notes p
  n = notes-past s opening cs

  -- what is noted follows the machine: the same calls lead to the same state
  pub machine : p.store ≡ (run s cs).0
  machine = store_proof s cs

  -- ---- valid

  -- rules 2 to 6 of the check hold between any two calls, and writers exclude each other
  pub valid : Valid p.store
  valid = valid_proof p.store n.told.inv

  -- ---- reads

  -- every value that a get has ended with, and every value that a page has handed out, is the functional array's value of that version at that cell
  pub reads : Every (IsRead p) p.gets × Every (IsRead p) p.pages
  reads = reads_proof s opening cs

  -- a get or a page that has ended has handed out its cells, each once, in rising order, and nothing else
  pub order : Every (λ (e : Ended). HasGiven p e.work e.given) p.ends
  order = order_proof s opening cs

  -- ---- pages

  -- where the pages on one version have handed out each cell once, their values ordered by cell are exactly that version's table
  pub join : (h : ℕ) → let l = by_cell (on_version h p.pages) in cells_of l ≡ up_to N → values_of l ≡ table_of p.versions h
  join h e = join_proof s opening cs h e

  -- the same for any choice of hand-outs of one version that covers each cell once: it may be paged twice, in parts, by several tasks
  pub join_any : (h : ℕ) (l : List Value) → Every (λ (r : Value). In r p.pages × (r.handle ≡ h)) l → cells_of l ≡ up_to N → values_of l ≡ table_of p.versions h
  join_any h l some e = join_any_proof s opening cs h l some e

  -- ---- tables

  -- what a live handle shows is its version's table, as the functional array's new and set have made it
  pub tables : (h : ℕ) → live_handle p.store h ≡ true → shown p.store h ≡ table_of p.versions h
  tables h l = tables_proof s opening cs h l

  -- no public number was given to two versions
  pub numbers : Once p.versions
  numbers = numbers_proof s opening cs

  -- no call changes what a live handle shows
  pub unchanged : (c : Call) (h : ℕ) → let x = (call c p.store).0 in live_handle p.store h ≡ true → live_handle x h ≡ true → shown x h ≡ shown p.store h
  unchanged c h l m = kept_proof p.store n.told.shape n.told.inv c h l m

  -- after a step refused 10 the task is idle, its slot free, every block as it was (so an exchange stays) and every table too
  pub ten : (t : ℕ) → let r = step p.store t in refusal r.1 ≡ 10 → Harmless p.store t r.0
  ten t e = ten_proof p.store n.told.shape n.told.inv t e

  -- ---- refusals

  -- each number is given exactly when document 01's table says, in its order; 0 where no row applies
  pub due-refusal : (c : Call) → refusal (call c p.store).1 ≡ due (causes c p.store)
  due-refusal c = (fits-call p.store c).is_due

  -- every refusal but 10 says its number and otherwise zeros, and leaves the state as it was
  pub refused : (c : Call) → let r = call c p.store in (refusal r.1 ≡ 0 → ⊥) → (refusal r.1 ≡ 10 → ⊥) → (r.0 ≡ p.store) × (words r.1 ≡ [])
  refused c a b = (fits-call p.store c).mild a b

  -- ---- steps

  -- the steps that a final answer tells are the accepted steps of that task since its start, one refused 10 counted
  pub steps : Every (λ (e : Ended). e.told ≡ e.counted) p.ends
  steps = steps_proof s opening cs

  -- ---- prices

  -- no task that has ended took more than its price: 3 + digits N for a get, so many for each cell of a page, 5N + 3 for a set, N + 1 for a new
  pub priced : Every (λ (e : Ended). e.told ≤ price N e.work) p.ends
  priced = price_proof s opening cs

  -- exactly: new takes N + 1, a set in place 4, a copying set 3 + 4N and its probes, a refusal 10 comes at step 1 of a new and step 2 of a set
  pub spent : Every (λ (e : Ended). (operation e.last ≡ work_code e.work) × Spent N e.last e.told e.probes) p.ends
  spent = spent_proof s opening cs

  -- all steps spent by sets, unfinished ones too: at most 12 for each first set and 5N + 3 for each later one
  pub all_sets : p.set_steps ≤ sets_bound N p.firsts p.laters
  all_sets = sets_proof s opening cs

  -- ---- progress

  -- a busy task has always taken fewer steps than its price, under any schedule
  pub busy_below : (t : ℕ) → busy (task_at p.store t).stage ≡ true → p.counts t < price N (p.works t)
  busy_below t b = not_spent p n t b

  -- so whatever calls ds come next, the task has ended by the time they hold the rest of its price in steps of its own
  pub progress : (t : ℕ) (ds : List Call) → price N (p.works t) ≤ p.counts t + steps_in t ds → Ends t p ds
  progress t ds h = progress-on ds p n t h
