-- Refusal 4 over the counts of replies: "any u64 count in the state or its slots at 2^63 .. or beyond".
use Rattle.std.specs.Prelude.{◌≡◌, Bool, true, false, ◌&&◌, ℕ, ◌<◌, ltb}
use Rattle.std.proofs.Common.{ltb-true}
use Rattle.limits.specs.Limits.{count_bound}
use Rattle.replies.specs.declared.Answers.{Answers}
use Rattle.replies.specs.declared.Numbers.{Numbers}
use Rattle.replies.specs.declared.Totals.{Totals}
use Rattle.replies.specs.declared.Evicted.{Evicted}
use Rattle.replies.specs.declared.Replies.{Replies}

-- a count is below 2^63
abbrev pub fits : ℕ → Bool
fits n = ltb n count_bound

-- so are requested, unique, duplicate and unknown
abbrev pub totals_fit : Totals → Bool
totals_fit t = fits t.requested && fits t.unique && fits t.duplicate && fits t.unknown

-- so are answered, additional, late and satisfied
abbrev pub answers_fit : Answers → Bool
answers_fit a = fits a.answered && fits a.additional && fits a.late && fits a.satisfied

-- so are reordered and independent; the last and the highest reflector number are no counts
abbrev pub numbers_fit : Numbers → Bool
numbers_fit n = fits n.reordered && fits n.independent

-- so are the evicted probes, the evicted keys and the probes evicted unanswered
abbrev pub evicted_fit : Evicted → Bool
evicted_fit e = fits e.probes && fits e.replies && fits e.unanswered

-- so are all thirteen counts: where one is not, refusal 4 applies
abbrev pub replies_fit : Replies → Bool
replies_fit r = totals_fit r.totals && answers_fit r.answers && numbers_fit r.numbers && evicted_fit r.evicted

-- what the tests show
pub record TotalsIn (t : Totals) : Type 0 where
  pub requested : t.requested < count_bound
  pub unique : t.unique < count_bound
  pub duplicate : t.duplicate < count_bound
  pub unknown : t.unknown < count_bound

-- the same of answered, additional, late and satisfied
pub record AnswersIn (a : Answers) : Type 0 where
  pub answered : a.answered < count_bound
  pub additional : a.additional < count_bound
  pub late : a.late < count_bound
  pub satisfied : a.satisfied < count_bound

-- the same of reordered and independent
pub record NumbersIn (n : Numbers) : Type 0 where
  pub reordered : n.reordered < count_bound
  pub independent : n.independent < count_bound

-- the same of the evicted probes, the evicted keys and the probes evicted unanswered
pub record EvictedIn (e : Evicted) : Type 0 where
  pub probes : e.probes < count_bound
  pub replies : e.replies < count_bound
  pub unanswered : e.unanswered < count_bound

-- all thirteen counts are below 2^63
pub record InBounds (r : Replies) : Type 0 where
  pub totals : TotalsIn r.totals
  pub answers : AnswersIn r.answers
  pub numbers : NumbersIn r.numbers
  pub evicted : EvictedIn r.evicted
