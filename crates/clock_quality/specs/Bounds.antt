-- When a sample is refused, and what the answer is. Assumes nothing.
use Rattle.std.specs.Prelude.{◌≡◌, Bool, true, false, ◌&&◌, cond, ◌<◌, T, ltb, Option, Some, None, Result, Ok, Err}
use Rattle.std.proofs.Common.{sym, subst, ltb→lt}
use Rattle.std.specs.Float.Ieee.Fits.{and_l, and_r}
use Rattle.limits.specs.declared.Refusal.{Refusal}
use Rattle.limits.specs.declared.Refusal.TheVariants as refusal
use Rattle.limits.specs.Limits.{count_bound}
use Rattle.clock_quality.specs.declared.ClockQuality.{ClockQuality}

-- every count is below its bound
pub record Bounded (q : ClockQuality) : Type 0 where
  pub samples : q.samples < count_bound
  pub both : q.both < count_bound
  pub unsynchronized : q.unsynchronized < count_bound
  pub invalid : q.invalid < count_bound
  pub unknown : q.unknown < count_bound
  pub invalid_sender : q.invalid_sender < count_bound
  pub invalid_reflector : q.invalid_reflector < count_bound
  pub invalid_both : q.invalid_both < count_bound

-- the same as a test
abbrev pub counts_fit : ClockQuality → Bool
counts_fit q =
    ltb q.samples count_bound
    && ltb q.both count_bound
    && ltb q.unsynchronized count_bound
    && ltb q.invalid count_bound
    && ltb q.unknown count_bound
    && ltb q.invalid_sender count_bound
    && ltb q.invalid_reflector count_bound
    && ltb q.invalid_both count_bound

-- the refusal, if there is one: a count at its bound or beyond
abbrev pub refusal_of : ClockQuality → Option Refusal
refusal_of q = cond (counts_fit q) None (Some refusal.CountsFull)

-- the answer by its refusal: the quality as it then stands where there is none, and otherwise the refusal alone
abbrev pub answer : Option Refusal → ClockQuality → Result ClockQuality Refusal
answer None next = Ok next
answer (Some why) next = Err why

-- what the host has after a call: a refusal leaves what it had
abbrev pub state_after : ClockQuality → Result ClockQuality Refusal → ClockQuality
state_after q (Ok next) = next
state_after q (Err why) = q

-- ---- laws

-- the test tells that the counts are bounded
pub fit_bounded : (q : ClockQuality) → counts_fit q ≡ true → Bounded q
fit_bounded q h =
    let a = ltb q.samples count_bound in
    let b = ltb q.both count_bound in
    let c = ltb q.unsynchronized count_bound in
    let d = ltb q.invalid count_bound in
    let e = ltb q.unknown count_bound in
    let f = ltb q.invalid_sender count_bound in
    let g = ltb q.invalid_reflector count_bound in
    let i = ltb q.invalid_both count_bound in
    let all : T (a && b && c && d && e && f && g && i) = subst T (sym h) tt in
    let seven = and_l (a && b && c && d && e && f && g) i all in
    let six = and_l (a && b && c && d && e && f) g seven in
    let five = and_l (a && b && c && d && e) f six in
    let four = and_l (a && b && c && d) e five in
    let three = and_l (a && b && c) d four in
    let two = and_l (a && b) c three in
    record {
      samples = ltb→lt q.samples count_bound (and_l a b two);
      both = ltb→lt q.both count_bound (and_r a b two);
      unsynchronized = ltb→lt q.unsynchronized count_bound (and_r (a && b) c three);
      invalid = ltb→lt q.invalid count_bound (and_r (a && b && c) d four);
      unknown = ltb→lt q.unknown count_bound (and_r (a && b && c && d) e five);
      invalid_sender = ltb→lt q.invalid_sender count_bound (and_r (a && b && c && d && e) f six);
      invalid_reflector = ltb→lt q.invalid_reflector count_bound (and_r (a && b && c && d && e && f) g seven);
      invalid_both = ltb→lt q.invalid_both count_bound (and_r (a && b && c && d && e && f && g) i all);
    }

-- a sample is served where the counts fit, and otherwise refused with the refusal alone
pub served : (q next : ClockQuality) → counts_fit q ≡ true → answer (refusal_of q) next ≡ Ok next
served q next h = rw h

pub refused : (q next : ClockQuality) → counts_fit q ≡ false → answer (refusal_of q) next ≡ Err refusal.CountsFull
refused q next h = rw h

-- a refusal changes nothing
pub refused-unchanged : (q next : ClockQuality) → counts_fit q ≡ false → state_after q (answer (refusal_of q) next) ≡ q
refused-unchanged q next h = rw h
