use Rattle.host_accept_burst.proofs.Serving.{Serves}
use Rattle.host_accept_burst.proofs.serve.Given as goal

abbrev pub invariant-loop-i : goal.invariant-loop-i
invariant-loop-i l = Serves l.initial.ledger l.initial.keys l.initial.slots l.initial.probes l.initial.links l.entries l.count l.initial.answers l.sure l.i l.ledger l.keys l.slots l.probes l.links l.answers
