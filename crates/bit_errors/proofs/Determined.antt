-- The contract of `xor_popcount_and_max_burst` determines its answer; and the one refusal is that of too much padding. Assumes nothing.
use Rattle.std.specs.Prelude.{Result, Ok, Err}
use Rattle.limits.specs.declared.Refusal.{Refusal}
use Rattle.limits.specs.declared.Refusal.TheVariants as refusal
use Rattle.bit_errors.specs.declared.BitErrors.{BitErrors}
use mathlib.Core.Path.{◌≡◌, sym, ◌∙◌}
use mathlib.Core.Bool.{Bool, true, false, cond}
use mathlib.Core.List.{List}
use Prim.Native.Nat.{ℕ}
use lib.Dec.{ltb}
use lib.ListN.{length}
use contract.Lifetimes.{Lfts}
use borrow.Fn.World as World
use borrow.Fn.Kinds as Kinds'
use denote.Triple.Clauses as Clauses
use Rattle.request_limits.specs.Refusals.{most_padding}
use Rattle.bit_errors.specs.Errors.{comparison, errors_in, wrong_bytes}
use Rattle.bit_errors.specs.contracts.xor_popcount_and_max_burst.{signature}
use Rattle.bit_errors.proofs.xor_popcount_and_max_burst.Kinds as K
use Rattle.bit_errors.proofs.xor_popcount_and_max_burst.Reads.{Post}

-- any two answers that meet the contract are equal
pub comparison-unique : (κs : Lfts 2) (a : World.ArgsD signature κs) (x y : World.ResD signature κs) (s t : Clauses.AtExit (Kinds'.ended_of 2 K.ps K.r) κs)
    → Post κs a x s → Post κs a y t → x ≡ y
comparison-unique κs a x y s t p q = p ∙ sym q

-- a refusal is that of too much padding
pub comparison-refused : (padding pattern : List ℕ) (r : Refusal) → comparison padding pattern ≡ Err r → comparison padding pattern ≡ Err refusal.TooMuchPadding
unfolding comparison
comparison-refused padding pattern r = by (ltb most_padding (length padding))
  where
    by : (b : Bool) → let a : Result BitErrors Refusal = cond b (Err refusal.TooMuchPadding) (Ok (errors_in (wrong_bytes padding pattern))) in a ≡ Err r → a ≡ Err refusal.TooMuchPadding
    by true e = λ i. Err refusal.TooMuchPadding
    by false e = absurd (cc)
