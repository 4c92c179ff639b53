use mathlib.Core.Path.{refl}
use Rattle.host_ledger.specs.Words.{tables_at, ledger_at}
use Rattle.host_ledger_checks.proofs.probes_ring.Goals as goal

pub returns : goal.returns
unfolding ledger_at tables_at
returns c = refl
