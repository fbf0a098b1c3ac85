-- Two results with one answer are one result: what is refused, told and shown is had back from the machine's answer.
-- Rests on Told.
use Rattle.std.specs.Prelude.{ℕ, Option, Some, None, Result, Ok, Err, ◌≡◌, refl, eqb, if◌then◌else◌}
use Rattle.std.proofs.Common.{◌∙◌, ap, sym}
use Rattle.rulebook.specs.declared.Reply.{Reply}
use Rattle.rulebook.specs.declared.Reply.TheVariants as reply
use Rattle.acts.specs.declared.Refusal.{Refusal}
use Rattle.acts.specs.declared.Refusal.TheVariants as refusal
use Rattle.acts.specs.declared.Shown.{Shown}
use Rattle.acts.specs.declared.Shown.TheVariants as shown
use Rattle.acts.specs.declared.Told.{Told}
use Rattle.acts.specs.declared.Told.TheVariants as told
use Rattle.acts.specs.Told.{refused_as, reply_of, shown_as, shown_of, told_as}

abbrev numbered : ℕ → Refusal
numbered x =
    if eqb x 1 then refusal.NoPool else if eqb x 2 then refusal.Damaged else if eqb x 3 then refusal.NoRoom else
    if eqb x 4 then refusal.NoTask else if eqb x 5 then refusal.Busy else if eqb x 6 then refusal.Idle else
    if eqb x 7 then refusal.Dead else if eqb x 8 then refusal.NoCell else if eqb x 9 then refusal.NoSlot else
    if eqb x 11 then refusal.InUse else refusal.Unseen

-- a call's result, where what it tells comes from the other answers
abbrev refused_or : {A : Type 0} → (Reply → A) → Reply → Result A Refusal
refused_or f (reply.Refused x) = Err (numbered x)
refused_or f (reply.Full steps) = Err (refusal.Full steps)
refused_or f reply.Quiet = Ok (f reply.Quiet)
refused_or f (reply.Opened b) = Ok (f (reply.Opened b))
refused_or f (reply.Handed i v) = Ok (f (reply.Handed i v))
refused_or f (reply.HandedLast steps i v) = Ok (f (reply.HandedLast steps i v))
refused_or f (reply.Got steps i v) = Ok (f (reply.Got steps i v))
refused_or f (reply.Made steps h) = Ok (f (reply.Made steps h))
refused_or f (reply.Shown x) = Ok (f (reply.Shown x))
refused_or f (reply.ShownEntry e) = Ok (f (reply.ShownEntry e))
refused_or f (reply.ShownTask k) = Ok (f (reply.ShownTask k))
refused_or f (reply.Reported handles blocks) = Ok (f (reply.Reported handles blocks))

refusal_back : {A : Type 0} (f : Reply → A) (r : Refusal) → refused_or f (refused_as r) ≡ Err r
refusal_back f refusal.NoPool = refl
refusal_back f refusal.Damaged = refl
refusal_back f refusal.NoRoom = refl
refusal_back f refusal.NoTask = refl
refusal_back f refusal.Busy = refl
refusal_back f refusal.Idle = refl
refusal_back f refusal.Dead = refl
refusal_back f refusal.NoCell = refl
refusal_back f refusal.NoSlot = refl
refusal_back f (refusal.Full steps) = refl
refusal_back f refusal.InUse = refl
refusal_back f refusal.Unseen = refl

-- ---- told

abbrev telling : Reply → Told
telling (reply.Refused x) = told.Quiet
telling (reply.Full steps) = told.Quiet
telling reply.Quiet = told.Quiet
telling (reply.Opened b) = told.Opened b
telling (reply.Handed i v) = told.Handed i v
telling (reply.HandedLast steps i v) = told.HandedLast steps i v
telling (reply.Got steps i v) = told.Got steps i v
telling (reply.Made steps h) = told.Made steps h
telling (reply.Shown x) = told.Quiet
telling (reply.ShownEntry e) = told.Quiet
telling (reply.ShownTask k) = told.Quiet
telling (reply.Reported handles blocks) = told.Quiet

told_back : (r : Result Told Refusal) → refused_or telling (reply_of r) ≡ r
told_back (Ok told.Quiet) = refl
told_back (Ok (told.Opened b)) = refl
told_back (Ok (told.Handed i v)) = refl
told_back (Ok (told.HandedLast steps i v)) = refl
told_back (Ok (told.Got steps i v)) = refl
told_back (Ok (told.Made steps h)) = refl
told_back (Err r) = refusal_back telling r

pub told_once : (r q : Result Told Refusal) → reply_of r ≡ reply_of q → r ≡ q
told_once r q e = sym (told_back r) ∙ ap (refused_or telling) e ∙ told_back q

-- ---- shown

abbrev showing : Reply → Shown
showing (reply.Refused x) = shown.Number 0
showing (reply.Full steps) = shown.Number 0
showing reply.Quiet = shown.Number 0
showing (reply.Opened b) = shown.Number 0
showing (reply.Handed i v) = shown.Number 0
showing (reply.HandedLast steps i v) = shown.Number 0
showing (reply.Got steps i v) = shown.Number 0
showing (reply.Made steps h) = shown.Number 0
showing (reply.Shown x) = shown.Number x
showing (reply.ShownEntry e) = shown.Entry e
showing (reply.ShownTask k) = shown.Task k
showing (reply.Reported handles blocks) = shown.Report handles blocks

shown_back : (r : Result Shown Refusal) → refused_or showing (shown_of r) ≡ r
shown_back (Ok (shown.Number x)) = refl
shown_back (Ok (shown.Entry e)) = refl
shown_back (Ok (shown.Task k)) = refl
shown_back (Ok (shown.Report handles blocks)) = refl
shown_back (Err r) = refusal_back showing r

pub shown_once : (r q : Result Shown Refusal) → shown_of r ≡ shown_of q → r ≡ q
shown_once r q e = sym (shown_back r) ∙ ap (refused_or showing) e ∙ shown_back q
