-- What the words of a pool show, and what each function does to them, for every content.
-- Rests on Rows, Places, Header, and on the block's definitions.
use Rattle.std.specs.Prelude.{ℕ, ◌-◌, ◌≡◌, Bool, true, false, List, ◌++◌, length, drop, replicate, ltb, if◌then◌else◌, Err, None, Ok, Option, Result, Some}
use Rattle.rulebook.specs.Sizes.{header_words, handle_row, task_row, control_words, block_words}
use Rattle.rulebook.specs.State.{State, list_to}
use Rattle.rulebook.specs.Starts.{Lie}
use Rattle.rulebook.specs.declared.Sizes.{Sizes}
use Rattle.rulebook.specs.declared.Slot.{Slot}
use Rattle.rulebook.specs.declared.Task.{Task}
use Rattle.rulebook.specs.declared.Reply.{Reply}
use Rattle.rulebook.specs.declared.Reply.TheVariants as reply
use Rattle.block.specs.Layout.{version_of, cell_of}
use Rattle.block.specs.Words.{version_in, cell_in, length_in, entry_in, exchange_in, append_in, write_in, take_in, fill_in}
use Rattle.block.specs.Sound as sound
use Rattle.acts.specs.Sight.{Sight}
use Rattle.acts.specs.Touch.{Touch}
use Rattle.acts.specs.Touch as touch
use Rattle.acts.specs.Acts.{Act, SlotChange, TaskChange}
use Rattle.acts.specs.Acts as change
use Rattle.layout.specs.Parts.{splice, put_row}
use Rattle.layout.specs.Rows.{slot_words, slot_read, slot_row_of, slot_seen_of, task_fields, task_words, task_read, task_row_of, task_seen_of}
use Rattle.layout.specs.Places.{task_base, block_base, slot_part, task_part, block_part}
use Rattle.layout.specs.Header.{header_fields, headed, sizes_in}
use Rattle.rulebook.specs.Codes.{damaged}
use Rattle.rulebook.specs.declared.Damaged.{Damaged}
use Rattle.rulebook.specs.declared.Entry.{Entry}

-- ---- the state that a pool shows

unfoldable pub view_of : Sizes → List ℕ → State
view_of d p =
    record {
      sizes = d;
      slots = list_to d.h (λ (j : ℕ). slot_read (slot_part p j));
      tasks = list_to d.t (λ (t : ℕ). task_read (task_part p d t));
      blocks = list_to d.b (λ (k : ℕ). sound.block_of d.n (block_part p d k));
    }

-- ---- what a call can see of it

-- a row, a block that is not there is bad
unfoldable pub slot_seen : List ℕ → Sizes → ℕ → Result Slot Damaged
slot_seen p d j = if ltb j d.h then slot_seen_of (slot_part p j) else Err damaged

unfoldable pub task_seen : List ℕ → Sizes → ℕ → Result Task Damaged
task_seen p d t = task_seen_of (task_part p d t)

unfoldable pub version_seen : List ℕ → Sizes → ℕ → Result ℕ Damaged
version_seen p d k = if ltb k d.b then version_in d.n (block_part p d k) else Err damaged

unfoldable pub cell_seen : List ℕ → Sizes → ℕ → ℕ → Result ℕ Damaged
cell_seen p d k i = if ltb k d.b then cell_in d.n (block_part p d k) i else Err damaged

unfoldable pub length_seen : List ℕ → Sizes → ℕ → ℕ → Result ℕ Damaged
length_seen p d k i = if ltb k d.b then length_in d.n (block_part p d k) i else Err damaged

unfoldable pub entry_seen : List ℕ → Sizes → ℕ → ℕ → ℕ → Result Entry Damaged
entry_seen p d k i j = if ltb k d.b then entry_in d.n (block_part p d k) i j else Err damaged

unfoldable pub sight : List ℕ → Sizes → Sight
sight p d =
    record { sizes = d; slot = slot_seen p d; task = task_seen p d; version = version_seen p d; cell = cell_seen p d; log = length_seen p d; entry = entry_seen p d }

-- what an exchange of V answers: whether V was raised
unfoldable pub exchange_seen : List ℕ → Sizes → ℕ → ℕ → Result Bool Damaged
exchange_seen p d k l = if ltb k d.b then (exchange_in d.n (block_part p d k) l).1 else Err damaged

-- as the check reads a row: each number in its range
unfoldable pub slot_in : List ℕ → Sizes → ℕ → Result Slot Damaged
slot_in p d j = slot_row_of d (slot_part p j)

unfoldable pub task_in : List ℕ → Sizes → ℕ → Result Task Damaged
task_in p d t = task_row_of d (task_part p d t)

-- ---- writing

unfoldable pub put_slot : List ℕ → ℕ → Slot → List ℕ
put_slot p j x = put_row p header_words handle_row j (slot_words x)

unfoldable pub put_task : List ℕ → Sizes → ℕ → Task → List ℕ
put_task p d t k = put_row p (task_base d) task_row t (task_words k ++ drop task_fields (task_part p d t))

unfoldable pub put_block : List ℕ → Sizes → ℕ → List ℕ → List ℕ
put_block p d k w = put_row p (block_base d) (block_words d.n) k w

-- ---- doing an act

abbrev pub raised : Result Bool Damaged → Bool
raised (Ok true) = true
raised (Ok false) = false
raised (Err _) = false

-- block k has become w, and whether that is what was to be done
unfoldable pub put_done : List ℕ → Sizes → ℕ → List ℕ × Bool → List ℕ × Bool
put_done p d k z = (put_block p d k z.0, z.1)

unfoldable pub touched_near : List ℕ → Sizes → Touch → List ℕ × Bool
touched_near p d touch.Nothing = (p, true)
touched_near p d (touch.Exchange k l) =
    let z = exchange_in d.n (block_part p d k) l in
    put_done p d k (z.0, raised z.1)
touched_near p d (touch.Append k i e) = put_done p d k (append_in d.n (block_part p d k) i e.version e.old)
touched_near p d (touch.Write k i v) = put_done p d k (write_in d.n (block_part p d k) i v)
touched_near p d (touch.Take k) = put_done p d k (take_in d.n (block_part p d k))
touched_near p d (touch.Fill k i v) = put_done p d k (fill_in d.n (block_part p d k) i v)

-- the block that a touch names is there
unfoldable pub touch_near : Sizes → Touch → Bool
touch_near d touch.Nothing = true
touch_near d (touch.Exchange k l) = ltb k d.b
touch_near d (touch.Append k i e) = ltb k d.b
touch_near d (touch.Write k i v) = ltb k d.b
touch_near d (touch.Take k) = ltb k d.b
touch_near d (touch.Fill k i v) = ltb k d.b

-- not done where it is not
unfoldable pub touched_in : List ℕ → Sizes → Touch → List ℕ × Bool
touched_in p d x = if touch_near d x then touched_near p d x else (p, false)

unfoldable pub seated_in : List ℕ → Sizes → SlotChange → List ℕ
seated_in p d change.Same = p
seated_in p d (change.To j x) = put_slot p j x

unfoldable pub turned_in : List ℕ → Sizes → TaskChange → List ℕ
turned_in p d change.Same = p
turned_in p d (change.To t k) = put_task p d t k

-- after the touch, which has left q: done, or refused
unfoldable pub acted_in : Bool → List ℕ → List ℕ → Sizes → Act → List ℕ × Reply
acted_in true q p d a = (turned_in (seated_in q d a.slot) d a.task, a.reply)
acted_in false q p d a = (p, reply.Refused 2)

unfoldable pub applied_in : List ℕ → Sizes → Act → List ℕ × Reply
applied_in p d a = acted_in (touched_in p d a.touch).1 (touched_in p d a.touch).0 p d a

-- what an act names is there: the slot, the task
unfoldable pub slot_near : Sizes → SlotChange → Bool
slot_near d change.Same = true
slot_near d (change.To j x) = ltb j d.h

unfoldable pub task_near : Sizes → TaskChange → Bool
task_near d change.Same = true
task_near d (change.To t k) = ltb t d.t

pub record InReach (d : Sizes) (a : Act) : Type 0 where
  pub slot : slot_near d a.slot ≡ true
  pub task : task_near d a.task ≡ true

-- ---- opening

-- the header, and every row 0
unfoldable pub control_of : ℕ → ℕ → ℕ → ℕ → List ℕ
control_of n h t words = headed n h t words ++ replicate (control_words h t - header_fields) 0

unfoldable pub open_under : Option Sizes → List ℕ → ℕ → ℕ → ℕ → List ℕ × Reply
open_under None p n h t = (p, reply.Refused 3)
open_under (Some d) p n h t = (splice p 0 (control_words h t) (control_of n h t (length p)), reply.Opened d.b)

unfoldable pub open_in : List ℕ → ℕ → ℕ → ℕ → List ℕ × Reply
open_in p n h t = open_under (sizes_in n h t (length p)) p n h t

-- what lies in the blocks of a pool
unfoldable pub lie_of : Sizes → List ℕ → Lie
lie_of d p =
    record {
      version = λ k. version_of (block_part p d k);
      cell = λ k. cell_of d.n (block_part p d k);
      log = λ k. sound.log_of (sound.view_of d.n (block_part p d k));
    }
