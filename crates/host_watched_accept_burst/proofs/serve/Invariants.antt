use Rattle.std.proofs.Common.{◌≤◌}
use Rattle.limits.specs.Numbers.{number}
use Rattle.host_watched_accept_burst.proofs.Serving.{Serves}
use Rattle.host_watched_accept_burst.proofs.serve.Given as goal

-- what the first i entries left
abbrev pub invariant-loop-i : goal.invariant-loop-i
invariant-loop-i l =
    (l.i ≤ l.count)
    × Serves l.fn.ledger l.fn.monitor l.fn.keys l.fn.slots l.fn.probes l.fn.links l.fn.queue l.entries l.count l.fn.answers (number l.refused) l.i l.ledger l.monitor l.keys l.slots l.probes l.links l.queue l.answers
