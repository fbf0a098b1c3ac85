-- What the looks and the report answer, from what they see; 2 where a bad row or word is first read.
-- Rests on Sight and Plans' searches.
use Rattle.std.specs.Prelude.{◌+◌, ◌<◌, suc, zero, ℕ, leb, if◌then◌else◌, Err, None, Ok, Result, Some}
use Rattle.rulebook.specs.declared.Reply.{Reply}
use Rattle.rulebook.specs.State.{is_live}
use Rattle.acts.specs.Plans.{found_if, stander_in}
use Rattle.acts.specs.Told.{refused_as}
use Rattle.acts.specs.declared.Refusal.TheVariants as refusal
use Rattle.acts.specs.Sight.{Sight}
use Rattle.acts.specs.Acts.{Found}
use Rattle.rulebook.specs.declared.Reply.TheVariants as reply
use Rattle.rulebook.specs.Codes.{damaged}
use Rattle.rulebook.specs.declared.Damaged.{Damaged}
use Rattle.rulebook.specs.declared.Entry.{Entry}
use Rattle.rulebook.specs.declared.Slot.{Slot}
use Rattle.rulebook.specs.declared.Task.{Task}
use Rattle.acts.specs.declared.Refusal.{Refusal}

-- a word, shown
unfoldable pub shows : Result ℕ Damaged → Reply
shows (Err _) = reply.Refused 2
shows (Ok v) = reply.Shown v

unfoldable pub shows_entry : Result Entry Damaged → Reply
shows_entry (Err _) = reply.Refused 2
shows_entry (Ok e) = reply.ShownEntry e

-- a live handle stands on block b
unfoldable pub visible : Found → Result Unit Refusal
visible (Err _) = Err refusal.Damaged
visible (Ok (Some j)) = Ok tt
visible (Ok None) = Err refusal.Unseen

unfoldable pub visible_in : Sight → ℕ → Result Unit Refusal
visible_in e b = if leb e.sizes.b b then Err refusal.Unseen else visible (stander_in e b)

-- r, where a test before it is passed
unfoldable pub where_visible : Result Unit Refusal → Reply → Reply
where_visible (Ok _) r = r
where_visible (Err x) r = refused_as x

unfoldable pub sees_version : Sight → ℕ → Reply
sees_version e b = where_visible (visible_in e b) (shows (e.version b))

unfoldable pub sees_cell : Sight → ℕ → ℕ → Reply
sees_cell e b i = where_visible (visible_in e b) (if leb e.sizes.n i then reply.Refused 12 else shows (e.cell b i))

unfoldable pub sees_log : Sight → ℕ → ℕ → Reply
sees_log e b i = where_visible (visible_in e b) (if leb e.sizes.n i then reply.Refused 12 else shows (e.log b i))

-- entry j of a log whose length was read
unfoldable pub sees_under : Result ℕ Damaged → Sight → ℕ → ℕ → ℕ → Reply
sees_under (Err _) e b i j = reply.Refused 2
sees_under (Ok m) e b i j = if leb m j then reply.Refused 12 else shows_entry (e.entry b i j)

unfoldable pub sees_entry : Sight → ℕ → ℕ → ℕ → Reply
sees_entry e b i j = where_visible (visible_in e b) (if leb e.sizes.n i then reply.Refused 12 else sees_under (e.log b i) e b i j)

unfoldable pub sees_row : Result Task Damaged → Reply
sees_row (Err _) = reply.Refused 2
sees_row (Ok k) = reply.ShownTask k

unfoldable pub sees_task : Sight → ℕ → Reply
sees_task e t = if leb e.sizes.t t then reply.Refused 4 else sees_row (e.task t)

-- ---- the report

-- one more, where something was found
unfoldable pub plus : Result ℕ Damaged → Found → Result ℕ Damaged
plus (Err _) x = Err damaged
plus (Ok m) (Err _) = Err damaged
plus (Ok m) (Ok (Some j)) = Ok (m + 1)
plus (Ok m) (Ok None) = Ok m

-- a count that one more fits
abbrev pub CountBelow : Result ℕ Damaged → Type 0
CountBelow (Err _) = Unit
CountBelow (Ok m) = m < 4294967295

-- at how many of 0, .. m - 1 f finds something
unfoldable pub count_of : (ℕ → Found) → ℕ → Result ℕ Damaged
count_of f zero = Ok 0
count_of f (suc m) = plus (count_of f m) (f m)

unfoldable pub live_at : Result Slot Damaged → ℕ → Found
live_at (Err _) j = Err damaged
live_at (Ok x) j = found_if (is_live x.status) j

unfoldable pub lives_at : Sight → ℕ → Found
lives_at e j = live_at (e.slot j) j

unfoldable pub reports : Result ℕ Damaged → Result ℕ Damaged → Reply
reports (Err _) y = reply.Refused 2
reports (Ok m) (Err _) = reply.Refused 2
reports (Ok m) (Ok k) = reply.Reported m k

unfoldable pub sees_report : Sight → Reply
sees_report e = reports (count_of (lives_at e) e.sizes.h) (count_of (stander_in e) e.sizes.b)
