-- The observation of a marked record. Assumes nothing.
use Rattle.call_types.specs.declared.ReplyObservation.{ReplyObservation}
use Rattle.std.specs.Prelude.{List, ℕ, Option, Some, None}
use Rattle.recount_seen.specs.declared.Seen.{Seen}
use Rattle.recount_seen.specs.declared.Seen.TheVariants.{Nothing, Probe, Duplicate, Unknown, Known, First, Observed}
use Rattle.recount_seen.specs.Seen.{seen_at}

-- a record that is seen as one has it, and no other
abbrev pub observation_of : Seen → Option ReplyObservation
observation_of Nothing = None
observation_of (Probe s) = None
observation_of Duplicate = None
observation_of Unknown = None
observation_of (Known a) = None
observation_of (First a) = None
observation_of (Observed o) = Some o

-- that of record j
abbrev pub observation_at : List ℕ → List ℕ → ℕ → Option ReplyObservation
observation_at log marks j = observation_of (seen_at log marks j)
