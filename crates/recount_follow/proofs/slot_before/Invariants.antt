use mathlib.Core.Path.{◌≡◌}
use Prim.Native.Nat.{◌-◌, ◌≤◌}
use Rattle.recount_seen.specs.Seen.{events_of}
use Rattle.recount_follow.specs.Slots.{slot_in}
use Rattle.recount_follow.specs.Brief.{brief_of}
use Rattle.recount_follow.proofs.slot_before.Given as goal

abbrev pub invariant-loop-j : goal.invariant-loop-j
invariant-loop-j l = (l.b ≡ brief_of (slot_in l.copies (events_of l.records.log.now l.records.marks.now l.j) l.number)) × (l.b.count ≤ l.j)
