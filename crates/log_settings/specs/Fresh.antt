-- The link that a log's settings ask for, with nothing played on it. Assumes nothing.
use Rattle.monitor.specs.declared.Monitor.{Monitor}
use Rattle.std.specs.Prelude.{List, ℕ, zero, suc, Option, Some, None}
use Rattle.monitor.specs.Operations.{fresh}
use Rattle.ledger_state.specs.State.{fresh_ledger}
use Rattle.link_steps.specs.declared.Link.{Link}
use Rattle.log_whole.specs.declared.Settings.{Settings}

-- "threshold (u16; 0 means no monitor)"
abbrev pub watch_by : ℕ → ℕ → Option Monitor
watch_by zero timeout = None
watch_by (suc n) timeout = Some (fresh (suc n) timeout)

-- the link that a log's settings ask for
abbrev pub link_by : Settings → List ℕ → Link
link_by s secret = record { ledger = fresh_ledger s.copies secret; watch = watch_by s.threshold s.timeout }
