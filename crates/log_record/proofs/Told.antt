-- From what the reader answers, and from what the writer leaves, to what a host is told of it. Assumes nothing.
use Rattle.std.specs.Prelude.{Result}
use mathlib.Core.Path.{◌≡◌, refl, ap, ◌∙◌}
use mathlib.Core.Bool.{Bool, true, false}
use mathlib.Core.List.{List}
use Prim.Native.Nat.{ℕ}
use lib.Dec.{eqb}
use lib.ListN.{length}
use Rattle.limits.specs.Numbers.{numbered, answer_number}
use Rattle.limits.specs.declared.Refusal.{Refusal}
use Rattle.log_record.specs.Records.{good, read_number, read_of, Wrote, wrote, number_in, told, told_of}

-- Of any bytes that are read the number told is `read_number`: 8 of a bad record, 5 of a slice of another length than 96, else 0.
pub read_told : (r : List ℕ) → answer_number (numbered (read_of r)) ≡ read_number r
unfolding read_of
read_told r = by (eqb (length r) 96) (good r) refl refl
  where
    by : (sized kept : Bool) → eqb (length r) 96 ≡ sized → good r ≡ kept → answer_number (numbered (read_of r)) ≡ read_number r
    by true true s k = simp (s, k)
    by true false s k = simp (s, k)
    by false kept s k = simp s

pub told_is : (a : Result Unit Refusal) (n : ℕ) (bs : List ℕ) (w : Wrote) → n ≡ number_in a → wrote a bs ≡ w → told n bs ≡ told_of w
told_is a n bs w e h = ap (λ (m : ℕ). told m bs) e ∙ ap told_of h
