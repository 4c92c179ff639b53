-- The mark of a probe, a reply and an observation, from the events of the records before it (document 01's refusals 1, 2 and 6, and the class of a
-- reply). All that was accepted or remembered before counts: a log has too few records for any to be evicted.
-- Assumes nothing.
use Rattle.std.specs.Prelude.{Bool, ◌&&◌, cond, List, ℕ, ◌+◌, ◌^◌, leb}
use Rattle.call_types.specs.declared.SentProbe.{SentProbe}
use Rattle.call_types.specs.declared.Reply.{Reply}
use Rattle.call_types.specs.declared.ReplyObservation.{ReplyObservation}
use Rattle.ranges.specs.Ranges.{in_range}
use Rattle.history.specs.Counting.{has, present}
use Rattle.history.specs.Given.{packet_of}
use Rattle.history.specs.Ledger.{Event, has_key, accepted, rememberings, awaiting}
use Rattle.recount_back.specs.Back.{awaits}

-- with a monitor, send time plus timeout above 2^64-1
abbrev pub late : Bool → ℕ → ℕ → Bool
late watched timeout time = watched && leb (2 ^ 64) (time + timeout)

-- a probe is served unless it is late
abbrev pub probe_mark : Bool → ℕ → SentProbe → ℕ
probe_mark watched timeout s = cond (late watched timeout s.packet.time) 0 1

-- the first that holds: its key was accepted; its probe was remembered; it has its packet; none
unfoldable pub reply_mark : List Event → Reply → ℕ
reply_mark es a =
    cond (has_key (accepted es) a.key) 2
    (cond (has (rememberings es) a.key.sender) 4
    (cond (present (packet_of a.pending)) 5 3))

-- an observation is served where it is in range and its key awaits it
unfoldable pub observe_mark : List Event → ReplyObservation → ℕ
observe_mark es o = cond (in_range o && awaits (awaiting es) o.key) 1 0
