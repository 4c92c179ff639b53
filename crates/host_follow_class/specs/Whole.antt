-- The words of a slot from which nothing is lost when they are read, as the slot and its first word tell it. They decide nothing but which words are
-- stored. Assumes nothing.
use Rattle.correlation.specs.declared.ReplyRecord.{ReplyRecord}
use Rattle.std.specs.Prelude.{Bool, false, not, ◌&&◌, ℕ, ◌/◌, ◌%◌, ◌^◌, eqb, Option, Some, None}
use Rattle.correlation.specs.declared.Slot.{Slot}
use Rattle.correlation.specs.Words.{timed, estimated}

-- there is a record with T4 and estimates
abbrev pub has_all : Option ReplyRecord → Bool
has_all None = false
has_all (Some r) = timed r.t4 && estimated r.quality

-- that, not corrected, and no bit between the flags and the estimates
abbrev pub whole : ℕ → Slot → Bool
whole word s = has_all s.unique && not s.corrected && eqb (word / 2 ^ 22 % 1024) 0
