-- When a sample is refused, and what the answer is. Assumes nothing.
use Rattle.std.specs.Prelude.{◌≡◌, Bool, true, false, ◌&&◌, cond, ◌<◌, T, ltb, Option, Some, None, Result, Ok, Err}
use Rattle.std.proofs.Common.{sym, subst, ltb→lt}
use Rattle.std.specs.Float.Ieee.Fits.{and_l, and_r}
use Rattle.limits.specs.declared.Refusal.{Refusal}
use Rattle.limits.specs.declared.Refusal.TheVariants as refusal
use Rattle.limits.specs.Limits.{count_bound, sum_bound}
use Rattle.floats.specs.Whole.{magnitude}
use Rattle.delays.specs.declared.Delays.{Delays}

-- the count and the sum's magnitude are below their bounds
pub record Bounded (d : Delays) : Type 0 where
  pub count : d.count < count_bound
  pub sum : magnitude d.sum.high d.sum.low < sum_bound

-- the same as a test
abbrev pub counts_fit : Delays → Bool
counts_fit d = ltb d.count count_bound && ltb (magnitude d.sum.high d.sum.low) sum_bound

-- the refusal, if there is one: the count or the sum at its bound or beyond
abbrev pub refusal_of : Delays → Option Refusal
refusal_of d = cond (counts_fit d) None (Some refusal.CountsFull)

-- the answer by its refusal: the delays as they then stand where there is none, and otherwise the refusal alone
abbrev pub answer : Option Refusal → Delays → Result Delays Refusal
answer None next = Ok next
answer (Some why) next = Err why

-- what the caller has after a call: a refusal leaves what it had
abbrev pub state_after : Delays → Result Delays Refusal → Delays
state_after d (Ok next) = next
state_after d (Err why) = d

-- ---- laws

-- the test tells that the count and the sum are bounded
pub fit_bounded : (d : Delays) → counts_fit d ≡ true → Bounded d
fit_bounded d h =
    let a = ltb d.count count_bound in
    let n = magnitude d.sum.high d.sum.low in
    let b = ltb n sum_bound in
    let all : T (a && b) = subst T (sym h) tt in
    record { count = ltb→lt d.count count_bound (and_l a b all); sum = ltb→lt n sum_bound (and_r a b all) }

-- a sample is served where they are, and otherwise refused with the refusal alone
pub served : (d next : Delays) → counts_fit d ≡ true → answer (refusal_of d) next ≡ Ok next
served d next h = rw h

pub refused : (d next : Delays) → counts_fit d ≡ false → answer (refusal_of d) next ≡ Err refusal.CountsFull
refused d next h = rw h

-- a refusal changes nothing
pub refused-unchanged : (d next : Delays) → counts_fit d ≡ false → state_after d (answer (refusal_of d) next) ≡ d
refused-unchanged d next h = rw h
