-- The machine's answer that a call of the code gives: document 01's number for each refusal, and each case of what is told.
-- Rests on the rule book's replies.
use Rattle.std.specs.Prelude.{Result, Ok, Err}
use Rattle.rulebook.specs.declared.Reply.{Reply}
use Rattle.rulebook.specs.declared.Reply.TheVariants as reply
use Rattle.acts.specs.declared.Refusal.{Refusal}
use Rattle.acts.specs.declared.Refusal.TheVariants as refusal
use Rattle.acts.specs.declared.Shown.{Shown}
use Rattle.acts.specs.declared.Shown.TheVariants as shown
use Rattle.acts.specs.declared.Told.{Told}
use Rattle.acts.specs.declared.Told.TheVariants as told

abbrev pub refused_as : Refusal → Reply
refused_as refusal.NoPool = reply.Refused 1
refused_as refusal.Damaged = reply.Refused 2
refused_as refusal.NoRoom = reply.Refused 3
refused_as refusal.NoTask = reply.Refused 4
refused_as refusal.Busy = reply.Refused 5
refused_as refusal.Idle = reply.Refused 6
refused_as refusal.Dead = reply.Refused 7
refused_as refusal.NoCell = reply.Refused 8
refused_as refusal.NoSlot = reply.Refused 9
refused_as (refusal.Full steps) = reply.Full steps
refused_as refusal.InUse = reply.Refused 11
refused_as refusal.Unseen = reply.Refused 12

abbrev pub told_as : Told → Reply
told_as told.Quiet = reply.Quiet
told_as (told.Opened b) = reply.Opened b
told_as (told.Handed i v) = reply.Handed i v
told_as (told.HandedLast steps i v) = reply.HandedLast steps i v
told_as (told.Got steps i v) = reply.Got steps i v
told_as (told.Made steps h) = reply.Made steps h

abbrev pub shown_as : Shown → Reply
shown_as (shown.Number x) = reply.Shown x
shown_as (shown.Entry e) = reply.ShownEntry e
shown_as (shown.Task k) = reply.ShownTask k
shown_as (shown.Report handles blocks) = reply.Reported handles blocks

abbrev pub reply_of : Result Told Refusal → Reply
reply_of (Ok t) = told_as t
reply_of (Err r) = refused_as r

abbrev pub shown_of : Result Shown Refusal → Reply
shown_of (Ok x) = shown_as x
shown_of (Err r) = refused_as r
