-- What the tests of refusal 4 show where they hold. Assumes nothing.
use mathlib.Core.Path.{◌≡◌, refl}
use mathlib.Core.Bool.{Bool, true, false, ◌&&◌}
use Prim.Native.Nat.{ℕ, ◌<◌}
use native.Mathlib.Omega.{arith}
use borrow.Author.Tests.{ltb-true}
use Rattle.limits.specs.Limits.{count_bound}
use Rattle.replies.specs.declared.Answers.{Answers}
use Rattle.replies.specs.declared.Numbers.{Numbers}
use Rattle.replies.specs.declared.Totals.{Totals}
use Rattle.replies.specs.declared.Evicted.{Evicted}
use Rattle.replies.specs.declared.Replies.{Replies}
use Rattle.replies.specs.Bounds.{fits, totals_fit, answers_fit, numbers_fit, evicted_fit, replies_fit}
use Rattle.replies.specs.Bounds.{TotalsIn, AnswersIn, NumbersIn, EvictedIn, InBounds}

pub both : (a b : Bool) → a && b ≡ true → (a ≡ true) × (b ≡ true)
both true b e = (refl, e)
both false b e = absurd (apart e)
  where
    apart : false ≡ true → ⊥
    apart e = let z : ◌≡◌ {A = ℕ} 0 1 = cc in omega arith

four : (a b d e : Bool) → a && b && d && e ≡ true → (a ≡ true) × (b ≡ true) × (d ≡ true) × (e ≡ true)
four a b d e t =
    let x = both (a && b && d) e t in
    let y = both (a && b) d x.0 in
    let z = both a b y.0 in
    (z.0, z.1, y.1, x.1)

below : (n : ℕ) → fits n ≡ true → n < count_bound
below n e = ltb-true n count_bound e

totals_in : (t : Totals) → totals_fit t ≡ true → TotalsIn t
totals_in t e =
    let x = four (fits t.requested) (fits t.unique) (fits t.duplicate) (fits t.unknown) e in
    record { requested = below _ x.0; unique = below _ x.1; duplicate = below _ x.2; unknown = below _ x.3 }

answers_in : (a : Answers) → answers_fit a ≡ true → AnswersIn a
answers_in a e =
    let x = four (fits a.answered) (fits a.additional) (fits a.late) (fits a.satisfied) e in
    record { answered = below _ x.0; additional = below _ x.1; late = below _ x.2; satisfied = below _ x.3 }

numbers_in : (n : Numbers) → numbers_fit n ≡ true → NumbersIn n
numbers_in n e =
    let x = both (fits n.reordered) (fits n.independent) e in record { reordered = below _ x.0; independent = below _ x.1 }

evicted_in : (v : Evicted) → evicted_fit v ≡ true → EvictedIn v
evicted_in v e =
    let x = both (fits v.probes && fits v.replies) (fits v.unanswered) e in
    let y = both (fits v.probes) (fits v.replies) x.0 in
    record { probes = below _ y.0; replies = below _ y.1; unanswered = below _ x.1 }

-- The test holds exactly where every count is in bounds; this way round it is what the served calls need.
pub in_bounds : (r : Replies) → replies_fit r ≡ true → InBounds r
in_bounds r e =
    let x = four (totals_fit r.totals) (answers_fit r.answers) (numbers_fit r.numbers) (evicted_fit r.evicted) e in
    record {
      totals = totals_in r.totals x.0;
      answers = answers_in r.answers x.1;
      numbers = numbers_in r.numbers x.2;
      evicted = evicted_in r.evicted x.3;
    }
