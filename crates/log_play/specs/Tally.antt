-- The records of a log one after the other: "a refused record counts as turned away and changes nothing else".
-- Assumes nothing.
use Rattle.monitor.specs.declared.Monitor.{Monitor}
use Rattle.std.specs.Prelude.{◌≡◌, List, ℕ, zero, suc, Option, Some, None}
use Rattle.call_types.specs.declared.Call.{Call}
use Rattle.probe_queue.specs.declared.QueuedProbe.{QueuedProbe}
use Rattle.ledger_steps.specs.Rooms.{Rooms}
use Rattle.log_whole.specs.Logs.{call_at}
use Rattle.link_steps.specs.declared.Link.{Link}
use Rattle.link_steps.specs.Steps.{LinkStand, refuses, after, one_if}
use Rattle.host_ledger.specs.Words.{ledger_at}
use Rattle.log_play.specs.declared.Step.{Step}

-- the link whose ledger the words say, with its monitor, if it has one
abbrev pub link_at : List ℕ → Option Monitor → Link
link_at words watch = record { ledger = ledger_at words; watch = watch }

-- a link with its queue and its ledger's rooms
abbrev pub standing_of : Link → List QueuedProbe → Rooms → LinkStand
standing_of link queue rooms = record { link = link; rooms = rooms; queue = queue }

-- a link with all of its rooms, and how many records were turned away
pub record Tallied : Type 0 where
  pub standing : LinkStand
  pub turned : ℕ

-- the record above, made of its parts in their order
abbrev pub tally_of : LinkStand → ℕ → Tallied
tally_of k n = record { standing = k; turned = n }

-- one call
abbrev pub called : Tallied → Call → Tallied
called t c = record { standing = after t.standing c; turned = one_if (refuses t.standing c) t.turned }

-- one record
abbrev pub recorded : Tallied → Option Call → Tallied
recorded t None = t
recorded t (Some c) = called t c

-- the first n records
unfoldable pub tallied : List ℕ → Tallied → ℕ → Tallied
tallied log t zero = t
tallied log t (suc n) = recorded (tallied log t n) (call_at log n)

-- ---- one record, as the code has it

-- what it leaves: nothing is changed where the log has no such record
abbrev pub after_read : LinkStand → Option Call → LinkStand
after_read k None = k
after_read k (Some c) = after k c

-- why it is refused, or 0
abbrev pub refuses_read : LinkStand → Option Call → ℕ
refuses_read k None = 0
refuses_read k (Some c) = refuses k c

-- both, of a step and what it left
pub record Stepped (before : LinkStand) (r : Option Call) (s : Step) (left : LinkStand) : Type 0 where
  pub stands : left ≡ after_read before r
  pub refused : s.refused ≡ refuses_read before r
