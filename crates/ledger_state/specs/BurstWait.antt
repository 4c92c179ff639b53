-- Whether the ledger has a burst wait for more replies: `needs_burst_wait`. It refuses nothing.
use Rattle.std.specs.Prelude.{Bool}
use Rattle.replies.specs.Served.{needs_burst_wait}
use Rattle.ledger_state.specs.declared.Ledger.{Ledger}

-- of its copies and its counts of replies
abbrev pub burst_wait : Ledger → Bool
burst_wait l = needs_burst_wait l.copies l.counts.replies
