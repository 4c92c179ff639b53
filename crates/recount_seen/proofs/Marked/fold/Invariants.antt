use Rattle.recount_seen.specs.Seen.{Folded}
use Rattle.recount_seen.proofs.Marked.fold.Given as goal

abbrev pub invariant-loop-j : goal.invariant-loop-j
invariant-loop-j g l = Folded (λ s a r. goal.F-post g l.next s a r) l.self.log.now l.self.marks.now l.fn.start l.j l.answer
