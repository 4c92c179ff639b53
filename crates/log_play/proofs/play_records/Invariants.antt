use Rattle.std.proofs.Common.{◌-◌, ◌≤◌}
use Rattle.log_play.proofs.Laws.{Played}
use Rattle.log_play.proofs.play_records.Given as goal

abbrev pub invariant-loop-i : goal.invariant-loop-i
invariant-loop-i l =
    Played l.fn.start l.log l.count l.fn.ledger l.fn.keys l.fn.slots l.fn.probes l.fn.offsets l.fn.links l.fn.queue l.i l.watch l.turned l.ledger l.keys l.slots l.probes l.offsets l.links l.queue × (l.i ≤ l.count)

abbrev pub decreases-loop-i : goal.decreases-loop-i
decreases-loop-i l = l.count - l.i
