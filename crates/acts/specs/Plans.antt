-- What each start and a release do and answer, decided from what they see; 2 where a bad row is first read. The same text serves the words
-- of a pool and the machine's state. Rests on Sight.
use Rattle.std.specs.Prelude.{◌+◌, suc, zero, ℕ, Bool, ◌&&◌, ◌||◌, eqb, leb, ltb, if◌then◌else◌, Err, None, Ok, Result, Some}
use Rattle.rulebook.specs.declared.Reply.{Reply}
use Rattle.rulebook.specs.declared.Sizes.{Sizes}
use Rattle.rulebook.specs.declared.Slot.{Slot}
use Rattle.rulebook.specs.declared.Stage.{Stage}
use Rattle.rulebook.specs.declared.Task.{Task}
use Rattle.rulebook.specs.Sizes.{last_serial, serial_of, slot_of}
use Rattle.rulebook.specs.State.{busy, fills, freed, hand_of, is_free, is_live, names}
use Rattle.acts.specs.Sight.{Sight}
use Rattle.acts.specs.Told.{refused_as}
use Rattle.acts.specs.Acts.{Act, Found}
use Rattle.acts.specs.Touch.{Touch}
use Rattle.acts.specs.Touch as touch
use Rattle.acts.specs.Acts as change
use Rattle.rulebook.specs.declared.Stage.TheVariants as stage
use Rattle.rulebook.specs.declared.Status.TheVariants as status
use Rattle.rulebook.specs.declared.Reply.TheVariants as reply
use Rattle.rulebook.specs.declared.Reading.TheVariants as reading
use Rattle.rulebook.specs.Codes.{damaged}
use Rattle.rulebook.specs.declared.Damaged.{Damaged}
use Rattle.acts.specs.declared.Refusal.{Refusal}
use Rattle.acts.specs.declared.Refusal.TheVariants as refusal

-- ---- acts

-- nothing is done
abbrev pub answers : Reply → Act
answers r = record { touch = touch.Nothing; slot = change.Same; task = change.Same; reply = r }

abbrev pub refused : Refusal → Act
refused r = answers (refused_as r)

-- a, where a test before it is passed
unfoldable pub unless : Result Unit Refusal → Act → Act
unless (Ok _) a = a
unless (Err r) a = refused r

-- one block is touched, and task t becomes k
abbrev pub goes : Touch → ℕ → Task → Reply → Act
goes x t k r = record { touch = x; slot = change.Same; task = change.To t k; reply = r }

-- and slot j becomes y
abbrev pub ends : Touch → ℕ → Slot → ℕ → Task → Reply → Act
ends x j y t k r = record { touch = x; slot = change.To j y; task = change.To t k; reply = r }

-- ---- counting

-- the largest number that a word holds
abbrev pub last_word : ℕ
last_word = 4294967295

-- one more, as 32 bits count: 0 follows the last
unfoldable pub after : ℕ → ℕ
after x = if eqb x last_word then 0 else x + 1

-- the task with one step more
unfoldable pub ticked : Task → Task
ticked k =
    record { stage = k.stage; slot = k.slot; block = k.block; number = k.number; cell = k.cell; value = k.value; until = k.until; fresh = k.fresh; target = k.target; hand = k.hand; steps = after k.steps }

-- ---- searches: the first of 0, .. m - 1 at which f finds something, or something bad

unfoldable pub or_else : Found → Found → Found
or_else (Err _) y = Err damaged
or_else (Ok (Some j)) y = Ok (Some j)
or_else (Ok None) y = y

unfoldable pub first_of : (ℕ → Found) → ℕ → Found
first_of f zero = Ok None
first_of f (suc m) = or_else (first_of f m) (f m)

-- j where the test passes
abbrev pub found_if : Bool → ℕ → Found
found_if b j = if b then Ok (Some j) else Ok None

-- a live handle in this row stands on block b
unfoldable pub standing : Result Slot Damaged → ℕ → ℕ → Found
standing (Err _) b j = Err damaged
standing (Ok x) b j = found_if (is_live x.status && eqb x.block b) j

-- this row may be reserved
unfoldable pub vacant : Result Slot Damaged → ℕ → Found
vacant (Err _) j = Err damaged
vacant (Ok x) j = found_if (is_free x.status && ltb x.serial last_serial) j

-- this task names slot j; it fills block b
unfoldable pub naming : Result Task Damaged → ℕ → ℕ → Found
naming (Err _) j t = Err damaged
naming (Ok k) j t = found_if (names k.stage && eqb k.slot j) t

unfoldable pub filler : Result Task Damaged → ℕ → ℕ → Found
filler (Err _) b t = Err damaged
filler (Ok k) b t = found_if (fills k.stage && eqb k.target b) t

unfoldable pub stands_at : Sight → ℕ → ℕ → Found
stands_at e b j = standing (e.slot j) b j

unfoldable pub vacant_at : Sight → ℕ → Found
vacant_at e j = vacant (e.slot j) j

unfoldable pub names_at : Sight → ℕ → ℕ → Found
names_at e j t = naming (e.task t) j t

unfoldable pub fills_at : Sight → ℕ → ℕ → Found
fills_at e b t = filler (e.task t) b t

-- a live handle that stands on block b; a task that names slot j; a task that fills block b; a slot to reserve
unfoldable pub stander_in : Sight → ℕ → Found
stander_in e b = first_of (stands_at e b) e.sizes.h

unfoldable pub user_in : Sight → ℕ → Found
user_in e j = first_of (names_at e j) e.sizes.t

unfoldable pub filler_in : Sight → ℕ → Found
filler_in e b = first_of (fills_at e b) e.sizes.t

unfoldable pub vacant_in : Sight → Found
vacant_in e = first_of (vacant_at e) e.sizes.h

-- what holds block b; b itself where nothing does
unfoldable pub holder_in : Sight → ℕ → Found
holder_in e b = or_else (stander_in e b) (filler_in e b)

unfoldable pub unheld : Found → ℕ → Found
unheld (Err _) b = Err damaged
unheld (Ok (Some j)) b = Ok None
unheld (Ok None) b = Ok (Some b)

unfoldable pub free_at : Sight → ℕ → Found
free_at e b = unheld (holder_in e b) b

-- the lowest free block
unfoldable pub free_in : Sight → Found
free_in e = first_of (free_at e) e.sizes.b

-- ---- before a start

-- the task may start
unfoldable pub ready_row : Result Task Damaged → Result Unit Refusal
ready_row (Err _) = Err refusal.Damaged
ready_row (Ok k) = if busy k.stage then Err refusal.Busy else Ok tt

unfoldable pub ready_in : Sight → ℕ → Result Unit Refusal
ready_in e t = if leb e.sizes.t t then Err refusal.NoTask else ready_row (e.task t)

-- a live handle whose block is not there, or whose number is above N, is bad
unfoldable pub placed : Sizes → Slot → Result Slot Refusal
placed d x = if ltb x.block d.b && leb x.number d.n then Ok x else Err refusal.Damaged

unfoldable pub live_row : Sizes → Result Slot Damaged → ℕ → Result Slot Refusal
live_row d (Err _) h = Err refusal.Damaged
live_row d (Ok x) h = if is_live x.status && eqb x.serial (serial_of h) then placed d x else Err refusal.Dead

-- the slot of the handle h, where it is live with that serial
unfoldable pub live_in : Sight → ℕ → Result Slot Refusal
live_in e h = if leb e.sizes.h (slot_of h) then Err refusal.Dead else live_row e.sizes (e.slot (slot_of h)) h

-- a task on the handle h, whose slot is x
abbrev pub begun_on : Slot → ℕ → Stage → ℕ → ℕ → ℕ → ℕ → Task
begun_on x h g i v until fresh =
    record { stage = g; slot = slot_of h; block = x.block; number = x.number; cell = i; value = v; until = until; fresh = fresh; target = 0; hand = hand_of i; steps = 0 }

abbrev pub maker : ℕ → ℕ → Task
maker v fresh =
    record { stage = stage.TakeNew; slot = 0; block = 0; number = 0; cell = 0; value = v; until = 0; fresh = fresh; target = 0; hand = hand_of 0; steps = 0 }

abbrev pub reserved_as : ℕ → Slot
reserved_as serial = record { serial = serial; status = status.Reserved; block = 0; number = 0 }

-- ---- the starts

-- slot j, whose row is y, is reserved for the task k, which is started
unfoldable pub reserves_for : Result Slot Damaged → ℕ → ℕ → Task → Act
reserves_for (Err _) j t k = refused refusal.Damaged
reserves_for (Ok y) j t k = ends touch.Nothing j (reserved_as y.serial) t k reply.Quiet

unfoldable pub new_on : Found → Sight → ℕ → ℕ → Act
new_on (Err _) e t v = refused refusal.Damaged
new_on (Ok (Some j)) e t v = reserves_for (e.slot j) j t (maker v j)
new_on (Ok None) e t v = refused refusal.NoSlot

unfoldable pub plan_new : Sight → ℕ → ℕ → Act
plan_new e t v = unless (ready_in e t) (new_on (vacant_in e) e t v)

unfoldable pub get_on : Result Slot Refusal → Sight → ℕ → ℕ → ℕ → Act
get_on (Err r) e t h i = refused r
get_on (Ok x) e t h i =
    if leb e.sizes.n i then refused refusal.NoCell else goes touch.Nothing t (begun_on x h (stage.Getting reading.Guess) i 0 0 0) reply.Quiet

unfoldable pub plan_get : Sight → ℕ → ℕ → ℕ → Act
plan_get e t h i = unless (ready_in e t) (get_on (live_in e h) e t h i)

unfoldable pub set_at : Found → Sight → Slot → ℕ → ℕ → ℕ → ℕ → Act
set_at (Err _) e x t h i v = refused refusal.Damaged
set_at (Ok (Some j)) e x t h i v = reserves_for (e.slot j) j t (begun_on x h stage.Exchange i v 0 j)
set_at (Ok None) e x t h i v = refused refusal.NoSlot

unfoldable pub set_on : Result Slot Refusal → Sight → ℕ → ℕ → ℕ → ℕ → Act
set_on (Err r) e t h i v = refused r
set_on (Ok x) e t h i v = if leb e.sizes.n i then refused refusal.NoCell else set_at (vacant_in e) e x t h i v

unfoldable pub plan_set : Sight → ℕ → ℕ → ℕ → ℕ → Act
plan_set e t h i v = unless (ready_in e t) (set_on (live_in e h) e t h i v)

unfoldable pub page_on : Result Slot Refusal → Sight → ℕ → ℕ → ℕ → ℕ → Act
page_on (Err r) e t h from m = refused r
page_on (Ok x) e t h from m =
    if eqb m 0 || ltb e.sizes.n (from + m) then refused refusal.NoCell else goes touch.Nothing t (begun_on x h (stage.Paging reading.Guess) from 0 (from + m) 0) reply.Quiet

unfoldable pub plan_page : Sight → ℕ → ℕ → ℕ → ℕ → Act
plan_page e t h from m = unless (ready_in e t) (page_on (live_in e h) e t h from m)

-- ---- release

-- its refusals, in their order: the handle is not live; a task names its slot
unfoldable pub release_at : Found → Slot → ℕ → Act
release_at (Err _) x h = refused refusal.Damaged
release_at (Ok (Some t)) x h = refused refusal.InUse
release_at (Ok None) x h = record { touch = touch.Nothing; slot = change.To (slot_of h) (freed x.serial); task = change.Same; reply = reply.Quiet }

unfoldable pub release_on : Result Slot Refusal → Sight → ℕ → Act
release_on (Err r) e h = refused r
release_on (Ok x) e h = release_at (user_in e (slot_of h)) x h

unfoldable pub plan_release : Sight → ℕ → Act
plan_release e h = release_on (live_in e h) e h
