-- What each step does and answers, decided from what it sees; 2 where a bad row or word is first read. The same text serves the words of a
-- pool and the machine's state. Rests on Sight and Plans.
use Rattle.std.specs.Prelude.{◌+◌, ℕ, eqb, leb, ltb, if◌then◌else◌, Err, None, Ok, Result, Some}
use Rattle.rulebook.specs.declared.Entry.{Entry}
use Rattle.rulebook.specs.declared.Hand.{Hand}
use Rattle.rulebook.specs.declared.Progress.{Progress}
use Rattle.rulebook.specs.declared.Reading.{Reading}
use Rattle.rulebook.specs.declared.Stage.{Stage}
use Rattle.rulebook.specs.declared.Task.{Task}
use Rattle.rulebook.specs.Sizes.{last_serial, public_number}
use Rattle.rulebook.specs.State.{freed, hand_of, idle}
use Rattle.rulebook.specs.Steps.{aimed, answer, guessed, middle, moved, probed_at, searching}
use Rattle.acts.specs.Sight.{Sight}
use Rattle.acts.specs.Acts.{Act, Found}
use Rattle.acts.specs.declared.Reader.{Reader}
use Rattle.acts.specs.Touch.{Touch}
use Rattle.acts.specs.declared.Reader.TheVariants as reader
use Rattle.acts.specs.Touch as touch
use Rattle.rulebook.specs.declared.Stage.TheVariants as stage
use Rattle.rulebook.specs.declared.Status.TheVariants as status
use Rattle.rulebook.specs.declared.Reply.TheVariants as reply
use Rattle.rulebook.specs.declared.Reading.TheVariants as reading
use Rattle.rulebook.specs.declared.Progress.TheVariants as progress
use Rattle.acts.specs.Plans.{after, ends, free_in, goes, refused, ticked}
use Rattle.rulebook.specs.Codes.{damaged}
use Rattle.rulebook.specs.declared.Damaged.{Damaged}
use Rattle.rulebook.specs.declared.Slot.{Slot}
use Rattle.acts.specs.declared.Refusal.TheVariants as refusal

-- ---- one step of a get: what follows from what it reads

abbrev pub after_guess : ℕ → Hand → Progress
after_guess v w = progress.Going reading.Version (guessed w v)

abbrev pub after_version : ℕ → ℕ → Hand → Progress
after_version v L w = if eqb v L then progress.Settled w else progress.Going reading.Length w

abbrev pub after_length : ℕ → Hand → Progress
after_length m w = if eqb m 0 then progress.Settled w else progress.Going reading.Probe (searching w m)

-- the search ends where the bounds meet
abbrev pub after_bounds : Hand → Progress
after_bounds q = if eqb q.lo q.hi then progress.Settled q else progress.Going reading.Probe q

abbrev pub after_entry : Entry → ℕ → Hand → Progress
after_entry e L w = after_bounds (probed_at (middle w) e L w)

unfoldable pub read_guess : Result ℕ Damaged → Hand → Result Progress Damaged
read_guess (Err _) w = Err damaged
read_guess (Ok v) w = Ok (after_guess v w)

unfoldable pub read_version : Result ℕ Damaged → ℕ → Hand → Result Progress Damaged
read_version (Err _) L w = Err damaged
read_version (Ok v) L w = Ok (after_version v L w)

unfoldable pub read_length : Result ℕ Damaged → Hand → Result Progress Damaged
read_length (Err _) w = Err damaged
read_length (Ok m) w = Ok (after_length m w)

unfoldable pub read_entry : Result Entry Damaged → ℕ → Hand → Result Progress Damaged
read_entry (Err _) L w = Err damaged
read_entry (Ok x) L w = Ok (after_entry x L w)

-- the step of the get in hand of task k
unfoldable pub read_in : Reading → Sight → Task → Result Progress Damaged
read_in reading.Guess e k = read_guess (e.cell k.block k.hand.cell) k.hand
read_in reading.Version e k = read_version (e.version k.block) k.number k.hand
read_in reading.Length e k = read_length (e.log k.block k.hand.cell) k.hand
read_in reading.Probe e k =
    if leb k.hand.hi k.hand.lo then Err damaged else read_entry (e.entry k.block k.hand.cell (middle k.hand)) k.number k.hand

-- ---- what it means for a get, a page and a copy

unfoldable pub get_goes : Result Progress Damaged → ℕ → Task → Act
get_goes (Err _) t k = refused refusal.Damaged
get_goes (Ok (progress.Going r w)) t k = goes touch.Nothing t (moved k (stage.Getting r) w) reply.Quiet
get_goes (Ok (progress.Settled w)) t k = goes touch.Nothing t idle (reply.Got k.steps w.cell (answer w))

unfoldable pub page_settles : Hand → ℕ → Task → Act
page_settles w t k =
    if eqb (after w.cell) k.until
    then goes touch.Nothing t idle (reply.HandedLast k.steps w.cell (answer w))
    else goes touch.Nothing t (moved k (stage.Paging reading.Guess) (hand_of (after w.cell))) (reply.Handed w.cell (answer w))

unfoldable pub page_goes : Result Progress Damaged → ℕ → Task → Act
page_goes (Err _) t k = refused refusal.Damaged
page_goes (Ok (progress.Going r w)) t k = goes touch.Nothing t (moved k (stage.Paging r) w) reply.Quiet
page_goes (Ok (progress.Settled w)) t k = page_settles w t k

unfoldable pub copy_goes : Result Progress Damaged → ℕ → Task → Act
copy_goes (Err _) t k = refused refusal.Damaged
copy_goes (Ok (progress.Going r w)) t k = goes touch.Nothing t (moved k (stage.Copying r) w) reply.Quiet
copy_goes (Ok (progress.Settled w)) t k = goes touch.Nothing t (moved k stage.FillCopy w) reply.Quiet

-- whoever reads: its stage, and what its reading means for it
abbrev pub stage_for : Reader → Reading → Stage
stage_for reader.Get r = stage.Getting r
stage_for reader.Copy r = stage.Copying r
stage_for reader.Page r = stage.Paging r

unfoldable pub goes_on : Reader → Result Progress Damaged → ℕ → Task → Act
goes_on reader.Get x t k = get_goes x t k
goes_on reader.Copy x t k = copy_goes x t k
goes_on reader.Page x t k = page_goes x t k

-- ---- the other stages

-- the task is idle, and its slot, whose row is y, carries a handle on block b with number L
unfoldable pub finishes : Result Slot Damaged → Touch → ℕ → Task → ℕ → ℕ → Act
finishes (Err _) x t k b L = refused refusal.Damaged
finishes (Ok y) x t k b L =
    if leb last_serial y.serial then refused refusal.Damaged else
    ends x k.fresh (record { serial = y.serial + 1; status = status.Live; block = b; number = L }) t idle (reply.Made k.steps (public_number k.fresh (y.serial + 1)))

-- refused 10
unfoldable pub gives_up : Result Slot Damaged → ℕ → Task → Act
gives_up (Err _) t k = refused refusal.Damaged
gives_up (Ok y) t k = ends touch.Nothing k.fresh (freed y.serial) t idle (reply.Full k.steps)

unfoldable pub takes : Found → Sight → ℕ → Task → Stage → Act
takes (Err _) e t k g = refused refusal.Damaged
takes (Ok (Some b)) e t k g = goes (touch.Take b) t (aimed (moved k g (hand_of 0)) b) reply.Quiet
takes (Ok None) e t k g = gives_up (e.slot k.fresh) t k

unfoldable pub fills_new : Sight → ℕ → Task → Act
fills_new e t k =
    let x = touch.Fill k.target k.hand.cell k.value in
    if eqb (after k.hand.cell) e.sizes.n then finishes (e.slot k.fresh) x t k k.target 0 else goes x t (moved k stage.FillNew (hand_of (after k.hand.cell))) reply.Quiet

-- where a set goes on after its exchange succeeded
abbrev pub after_exchange : ℕ → Task → Task
after_exchange n k = if ltb k.number n then moved k stage.Read k.hand else moved k stage.TakeCopy (hand_of 0)

unfoldable pub exchanges_on : Result ℕ Damaged → ℕ → ℕ → Task → Act
exchanges_on (Err _) n t k = refused refusal.Damaged
exchanges_on (Ok v) n t k =
    if eqb v k.number
    then goes (touch.Exchange k.block k.number) t (after_exchange n k) reply.Quiet
    else goes touch.Nothing t (moved k stage.TakeCopy (hand_of 0)) reply.Quiet

unfoldable pub reads_old : Result ℕ Damaged → ℕ → Task → Act
reads_old (Err _) t k = refused refusal.Damaged
reads_old (Ok v) t k = goes touch.Nothing t (moved k stage.Append (guessed k.hand v)) reply.Quiet

unfoldable pub appends_entry : ℕ → Task → Act
appends_entry t k =
    goes (touch.Append k.block k.cell (record { version = k.number; old = k.hand.guess })) t (moved k stage.Write k.hand) reply.Quiet

unfoldable pub writes_new : Sight → ℕ → Task → Act
writes_new e t k = finishes (e.slot k.fresh) (touch.Write k.block k.cell k.value) t k k.block (after k.number)

-- where a copy goes on after a cell is written
abbrev pub after_fill : ℕ → Task → Task
after_fill n k =
    if eqb (after k.hand.cell) n then moved k stage.Put (hand_of k.cell) else moved k (stage.Copying reading.Guess) (hand_of (after k.hand.cell))

unfoldable pub fills_copy : ℕ → ℕ → Task → Act
fills_copy n t k =
    goes (touch.Fill k.target k.hand.cell (answer k.hand)) t (after_fill n k) reply.Quiet

unfoldable pub puts : Sight → ℕ → Task → Act
puts e t k = finishes (e.slot k.fresh) (touch.Fill k.target k.cell k.value) t k k.target 0

-- ---- step

unfoldable pub plan_at : Stage → Sight → ℕ → Task → Act
plan_at stage.Idle e t k = refused refusal.Idle
plan_at stage.TakeNew e t k = takes (free_in e) e t k stage.FillNew
plan_at stage.FillNew e t k = fills_new e t k
plan_at (stage.Getting r) e t k = get_goes (read_in r e k) t k
plan_at stage.Exchange e t k = exchanges_on (e.version k.block) e.sizes.n t k
plan_at stage.Read e t k = reads_old (e.cell k.block k.cell) t k
plan_at stage.Append e t k = appends_entry t k
plan_at stage.Write e t k = writes_new e t k
plan_at stage.TakeCopy e t k = takes (free_in e) e t k (stage.Copying reading.Guess)
plan_at (stage.Copying r) e t k = copy_goes (read_in r e k) t k
plan_at stage.FillCopy e t k = fills_copy e.sizes.n t k
plan_at stage.Put e t k = puts e t k
plan_at (stage.Paging r) e t k = page_goes (read_in r e k) t k

unfoldable pub plan_row : Result Task Damaged → Sight → ℕ → Act
plan_row (Err _) e t = refused refusal.Damaged
plan_row (Ok k) e t = plan_at k.stage e t (ticked k)

unfoldable pub plan_step : Sight → ℕ → Act
plan_step e t = if leb e.sizes.t t then refused refusal.NoTask else plan_row (e.task t) e t
