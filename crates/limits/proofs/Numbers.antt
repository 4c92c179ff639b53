-- Two refusals of one number are one refusal, and none has the number 0. So what a contract says of a number determines the refusal.
use Rattle.std.specs.Prelude.{ℕ, ◌<◌, ◌≡◌, true, false, Bool, not, Option, Some, None, is_some, Result, Ok, Err, cond, eqb}
use mathlib.Core.Path.{refl, sym, ap, ◌∙◌}
use native.Mathlib.Omega.{arith}
use borrow.Author.Tests.{eq-eqb, ne_eqb}
use Rattle.limits.specs.declared.Refusal.{Refusal}
use Rattle.limits.specs.declared.Refusal.TheVariants as refusal
use Rattle.limits.specs.Numbers.{number_of, number, numbered}

-- the refusal of a number
abbrev refusal_from : ℕ → Refusal
refusal_from n =
    cond (eqb n 1) refusal.OutOfRange (
    cond (eqb n 2) refusal.NotAwaiting (
    cond (eqb n 3) refusal.QueueFull (
    cond (eqb n 4) refusal.CountsFull (
    cond (eqb n 5) refusal.WrongRoom (
    cond (eqb n 6) refusal.DeadlinePasses (
    cond (eqb n 7) refusal.BadTrailer (
    cond (eqb n 8) refusal.BadRecord (
    cond (eqb n 9) refusal.TooLong (
    cond (eqb n 10) refusal.PassesEnd (
    cond (eqb n 11) refusal.WrongLength (
    cond (eqb n 12) refusal.ShortRoom (
    cond (eqb n 13) refusal.BadPattern (
    refusal.TooMuchPadding)))))))))))))

from_number : (r : Refusal) → refusal_from (number_of r) ≡ r
from_number refusal.OutOfRange = refl
from_number refusal.NotAwaiting = refl
from_number refusal.QueueFull = refl
from_number refusal.CountsFull = refl
from_number refusal.WrongRoom = refl
from_number refusal.DeadlinePasses = refl
from_number refusal.BadTrailer = refl
from_number refusal.BadRecord = refl
from_number refusal.TooLong = refl
from_number refusal.PassesEnd = refl
from_number refusal.WrongLength = refl
from_number refusal.ShortRoom = refl
from_number refusal.BadPattern = refl
from_number refusal.TooMuchPadding = refl

pub number_of_unique : (a b : Refusal) → number_of a ≡ number_of b → a ≡ b
number_of_unique a b e = sym (from_number a) ∙ ap refusal_from e ∙ from_number b

-- a refusal's number is not the one that says that the call was served
pub number_above : (r : Refusal) → 0 < number_of r
number_above refusal.OutOfRange = omega arith
number_above refusal.NotAwaiting = omega arith
number_above refusal.QueueFull = omega arith
number_above refusal.CountsFull = omega arith
number_above refusal.WrongRoom = omega arith
number_above refusal.DeadlinePasses = omega arith
number_above refusal.BadTrailer = omega arith
number_above refusal.BadRecord = omega arith
number_above refusal.TooLong = omega arith
number_above refusal.PassesEnd = omega arith
number_above refusal.WrongLength = omega arith
number_above refusal.ShortRoom = omega arith
number_above refusal.BadPattern = omega arith
number_above refusal.TooMuchPadding = omega arith

pub number_unique : (a b : Option Refusal) → number a ≡ number b → a ≡ b
number_unique None None e = refl
number_unique None (Some r) e = absurd (omega (arith, number_above r, e))
number_unique (Some r) None e = absurd (omega (arith, number_above r, e))
number_unique (Some r) (Some s) e = ap Some (number_of_unique r s e)

pub numbered_unique : {A : Type 0} (a b : Result A Refusal) → numbered a ≡ numbered b → a ≡ b
numbered_unique (Ok x) (Ok y) e = cc
numbered_unique (Ok x) (Err s) e = cc
numbered_unique (Err r) (Ok y) e = cc
numbered_unique (Err r) (Err s) e = ap Err (number_of_unique r s cc)

-- what the code's test of a refusal says of the number
pub none_number : (r : Option Refusal) (b : Bool) → is_some r ≡ not b → b ≡ true → number r ≡ 0
none_number None b e h = refl
none_number (Some r) b e h = cc (e, ap not h)

pub some_number : (r : Option Refusal) (b : Bool) → is_some r ≡ not b → b ≡ false → number r ≡ 0 → ⊥
some_number None b e h z = cc (e, ap not h)
some_number (Some r) b e h z = omega (arith, number_above r, z)

pub none_is : (r : Option Refusal) (b : Bool) → is_some r ≡ not b → b ≡ eqb (number r) 0
none_is r true e = sym (eq-eqb _ _ (none_number r true e refl))
none_is r false e = sym (ne_eqb _ _ (some_number r false e refl))

-- and what an arm of a match says of it
pub in_some : (r : Option Refusal) (x : Refusal) (n : ℕ) → number r ≡ n → r ≡ Some x → (number_of x ≡ n) × (n ≡ 0 → ⊥)
in_some r x n e h =
    let is : number_of x ≡ n = ap number (sym h) ∙ e in
    (is, λ (z : n ≡ 0). omega (arith, number_above x, is, z))

pub in_none : (r : Option Refusal) (n : ℕ) → number r ≡ n → r ≡ None → n ≡ 0
in_none r n e h = sym e ∙ ap number h
