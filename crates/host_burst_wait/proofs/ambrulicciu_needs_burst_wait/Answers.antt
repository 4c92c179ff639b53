use Rattle.std.proofs.Common.{ap, not, ◌∙◌, ℕ}
use Rattle.host_burst_wait.specs.BurstWait.{left}
use Rattle.host_burst_wait.proofs.Laws.{refuses, shows}
use Rattle.host_burst_wait.proofs.ambrulicciu_needs_burst_wait.Goals as goal

pub returns-then-not-rings_fit : goal.returns-then-not-rings_fit
returns-then-not-rings_fit c =
    let a = c.args in
    ap (λ (n : ℕ). left n a.answer.now) c.from.ensures ∙ refuses a.ledger.now a.answer.now _ c.rings_fit.ensures (ap not c.if-not-rings_fit.true)

pub returns : goal.returns
returns c =
    let a = c.args in
    rw (c.flag.ensures.0, c.needs_burst_wait.ensures, c.load-state.ensures)
    (shows a.ledger.now a.answer.now _ c.rings_fit.ensures (ap not c.if-not-rings_fit.false))
