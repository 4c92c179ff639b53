-- Counters that go on in order from the anchor, as the words of a ledger and the counters tell it. They decide nothing but which words are
-- stored. Assumes nothing.
use Rattle.std.specs.Prelude.{Bool, false, ◌&&◌, List, ℕ, ◌^◌, eqb, ltb, leb, get_or, Option, Some, None}
use Rattle.limits.specs.Limits.{capacity}
use Rattle.call_types.specs.declared.CounterPoint.{CounterPoint}
use Rattle.direct.specs.declared.Epoch.{Epoch}
use Rattle.direct.specs.Offsets.{sender_offset, received_offset, transmit_offset}
use Rattle.direct.specs.Outcomes.{highest}
use Rattle.host_ledger.specs.Parts.{epoch_of}
use Rattle.host_ledger.specs.Places as place

-- there is an anchor, and both flags are written as a call writes them
abbrev pub opened : List ℕ → Bool
opened w = ltb (get_or w place.exceeded 0) 2 && eqb (get_or w place.anchored 0) 1

-- what is known since the anchor
abbrev pub epoch_in : List ℕ → Epoch
epoch_in w = epoch_of (get_or w place.anchor 0) (get_or w place.transmitted 0) (get_or w place.latest 0) (get_or w place.maxima 0) (get_or w place.seen 0)

-- the sender count is the ordinal, no offset is a step back, one offset more can be seen, and the transmit offset is not below the highest
abbrev pub goes_on : Epoch → CounterPoint → Option ℕ → Bool
goes_on e c None = false
goes_on e c (Some m) =
    eqb c.sender.0 m
    && ltb (transmit_offset e.anchor c) (2 ^ 31) && ltb (sender_offset e.anchor c) (2 ^ 31) && ltb (received_offset e.anchor c) (2 ^ 31)
    && ltb e.seen capacity && leb (highest e) (transmit_offset e.anchor c)
