-- What a served `accept` answers and leaves.
-- Assumes nothing.
use Rattle.std.specs.Prelude.{Ok}
use Rattle.ledger_steps.specs.Accept.{AcceptOutcome}
use Rattle.ledger_steps.specs.Calls.{AcceptResult, accept_result}

-- the result of a served call
abbrev pub served_as : AcceptOutcome → AcceptResult
served_as o = accept_result (Ok (o.ledger, o.accepted)) o.keys o.slots o.probes o.links
