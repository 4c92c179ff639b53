use Rattle.std.proofs.Common.{ap, not}
use Rattle.host_ledger.specs.Words.{ledger_at}
use Rattle.host_report_link.proofs.Laws.{placed_alone, placed-absent, placed-present}
use Rattle.host_report_link.proofs.out_of_place.Goals as goal

pub returns-then-not-rings_fit : goal.returns-then-not-rings_fit
returns-then-not-rings_fit c = let a = c.args in placed_alone (ledger_at a.ledger.now) a.watch _ c.rings_fit.ensures (ap not c.if-not-rings_fit.true)

pub returns-in-None : goal.returns-in-None
returns-in-None c = let a = c.args in placed-absent (ledger_at a.ledger.now) a.watch _ c.in-None.is c.rings_fit.ensures (ap not c.if-not-rings_fit.false)

pub returns-in-Some : goal.returns-in-Some
returns-in-Some c = let a = c.args in placed-present (ledger_at a.ledger.now) a.watch _ _ _ c.in-Some.is c.rings_fit.ensures (ap not c.if-not-rings_fit.false) c.out_of_place.ensures
