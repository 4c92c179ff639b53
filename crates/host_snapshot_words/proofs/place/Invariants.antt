-- `host_snapshot_words::place` The loop's invariant: the first i words are placed. Assumes nothing.
use mathlib.Core.Path.{◌≡◌}
use Prim.Native.Nat.{◌-◌, ◌≤◌}
use lib.ListN.{length, take}
use Rattle.host_snapshot_words.proofs.Laws.{placed}
use Rattle.host_snapshot_words.proofs.place.Given as goal

abbrev pub invariant-loop-i : goal.invariant-loop-i
invariant-loop-i l = (l.i ≤ length l.words) × (length l.room ≡ length l.initial.room) × (l.room ≡ placed l.at (take l.i l.words) l.initial.room)

abbrev pub decreases-loop-i : goal.decreases-loop-i
decreases-loop-i l = length l.words - l.i
