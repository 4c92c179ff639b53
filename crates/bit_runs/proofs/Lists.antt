-- Laws of the counts over lists of bits: of lists in a row, and of a run that the list goes on. Assumes nothing.
use mathlib.Core.Path.{◌≡◌, refl, sym, ◌∙◌}
use mathlib.Core.List.{List, [], ◌∷◌, ◌++◌}
use Prim.Native.Nat.{ℕ, zero, suc, ◌+◌, ◌≤◌, ◌<◌, max}
use native.Mathlib.Omega.{arith}
use lib.ListN.{length}
use Rattle.bit_runs.specs.Bits.{ones_of, longest_from, ending_run}

-- how many ones the list begins with
unfoldable pub leading_run : List ℕ → ℕ
leading_run [] = 0
leading_run (zero ∷ bs) = 0
leading_run (suc b ∷ bs) = suc (leading_run bs)

pub ones_append : (s t : List ℕ) → ones_of (s ++ t) ≡ ones_of s + ones_of t
unfolding ones_of
ones_append [] t = omega arith
ones_append (b ∷ s) t = omega (arith, ones_append s t)

pub ending-append : (r : ℕ) (s t : List ℕ) → ending_run r (s ++ t) ≡ ending_run (ending_run r s) t
unfolding ending_run
ending-append r [] t = refl
ending-append r (zero ∷ s) t = ending-append 0 s t
ending-append r (suc b ∷ s) t = ending-append (suc r) s t

pub starts : (r : ℕ) (s : List ℕ) → r ≤ longest_from r s
unfolding longest_from
starts r [] = omega arith
starts r (zero ∷ s) = omega arith
starts r (suc b ∷ s) = omega (arith, starts (suc r) s)

pub ends : (r : ℕ) (s : List ℕ) → ending_run r s ≤ longest_from r s
unfolding longest_from ending_run
ends r [] = omega arith
ends r (zero ∷ s) = omega (arith, ends 0 s)
ends r (suc b ∷ s) = ends (suc r) s

pub longest-append : (r : ℕ) (s t : List ℕ) → longest_from r (s ++ t) ≡ max (longest_from r s) (longest_from (ending_run r s) t)
unfolding longest_from ending_run
longest-append r [] t = omega (arith, starts r t)
longest-append r (zero ∷ s) t = omega (arith, longest-append 0 s t)
longest-append r (suc b ∷ s) t = longest-append (suc r) s t

pub longest_bound : (r : ℕ) (s : List ℕ) → longest_from r s ≤ r + length s
unfolding longest_from
longest_bound r [] = omega arith
longest_bound r (zero ∷ s) = omega (arith, longest_bound 0 s)
longest_bound r (suc b ∷ s) = omega (arith, longest_bound (suc r) s)

pub leading_bound : (s : List ℕ) → leading_run s ≤ length s
unfolding leading_run
leading_bound [] = omega arith
leading_bound (zero ∷ s) = omega arith
leading_bound (suc b ∷ s) = omega (arith, leading_bound s)

-- a run that comes from before goes on for as long as the list begins with ones
pub longest_from_lem : (r : ℕ) (s : List ℕ) → longest_from r s ≡ max (r + leading_run s) (longest_from 0 s)
unfolding longest_from leading_run
longest_from_lem r [] = omega arith
longest_from_lem r (zero ∷ s) = omega arith
longest_from_lem r (suc b ∷ s) = omega (arith, longest_from_lem (suc r) s, longest_from_lem 1 s)

-- with a zero in the list it does not reach the end
pub ending_from : (r : ℕ) (s : List ℕ) → leading_run s < length s → ending_run r s ≡ ending_run 0 s
unfolding ending_run leading_run
ending_from r [] h = absurd (omega arith)
ending_from r (zero ∷ s) h = refl
ending_from r (suc b ∷ s) h =
    let l : leading_run s < length s = omega arith in
    ending_from (suc r) s l ∙ sym (ending_from 1 s l)

-- with none it does
pub ending_through : (r : ℕ) (s : List ℕ) → leading_run s ≡ length s → ending_run r s ≡ r + length s
unfolding ending_run leading_run
ending_through r [] e = omega arith
ending_through r (zero ∷ s) e = absurd (omega arith)
ending_through r (suc b ∷ s) e =
    let l : leading_run s ≡ length s = omega arith in
    omega (arith, ending_through (suc r) s l)

-- the last bit alone decides whether a run reaches the end
pub ending_zero : (r : ℕ) (s : List ℕ) → ending_run r (s ++ (0 ∷ [])) ≡ 0
unfolding ending_run
ending_zero r s = ending-append r s (0 ∷ [])

pub ending_one : (r : ℕ) (s : List ℕ) → ending_run r (s ++ (1 ∷ [])) ≡ suc (ending_run r s)
unfolding ending_run
ending_one r s = ending-append r s (1 ∷ [])
