-- What the processor counts in a number, `count_ones`, `leading_zeros` and `trailing_zeros`, as counts over its list of digits.
-- Assumes nothing.
use mathlib.Core.Path.{◌≡◌, refl, sym, ap, ap₂, ◌∙◌, subst}
use mathlib.Core.List.{List, [], ◌∷◌, ◌++◌}
use mathlib.Core.Logic.{◌⊎◌, inl, inr, ⊎_elim}
use Prim.Native.Nat.{ℕ, zero, suc, ◌+◌, ◌-◌, ◌*◌, ◌/◌, ◌%◌, ◌^◌, ◌≤◌, ◌<◌}
use native.Mathlib.Nat.{mod-lt, mod-eq_of_lt, two-pow-succ}
use native.Mathlib.Numerals.{add-one}
use native.Mathlib.Omega.{arith}
use lib.Arith.{lt-one}
use lib.Pow.{pow_pos, split, shr_lt}
use lib.Count.{ones, ones_cat, count_leading_zeros, leading_length, leading_unique, count_trailing_zeros, under}
use Rattle.bit_runs.specs.Bits.{bits_of, ones_of, ending_run}
use Rattle.bit_runs.proofs.Lists.{leading_run, ending_zero, ending_one}
use Rattle.bit_runs.proofs.Digits.{bits_same, bits_split}

-- A number below 2 ^ (k + 1): its highest digit, and the rest.
abbrev Top : (k x top rest : ℕ) → Type 0
Top k x top rest = (x ≡ top * 2 ^ k + rest) × (rest < 2 ^ k) × (bits_of (suc k) x ≡ top ∷ bits_of k rest)

parted : (k x : ℕ) → x < 2 ^ suc k → (Top k x 0 (x % 2 ^ k)) ⊎ (Top k x 1 (x % 2 ^ k))
unfolding bits_of
parted k x h = go (x / 2 ^ k) refl (shr_lt 1 k (subst (λ (m : ℕ). x < 2 ^ m) (one_more k) h))
  where
    one_more : (k : ℕ) → suc k ≡ 1 + k
    one_more k = omega arith

    rest : bits_of k x ≡ bits_of k (x % 2 ^ k)
    rest = bits_same k x (x % 2 ^ k) (sym (mod-eq_of_lt (mod-lt x (pow_pos k))))

    with_top : (q : ℕ) → q < 2 → x / 2 ^ k ≡ q → Top k x q (x % 2 ^ k)
    with_top q l e = (
      sym (split x k) ∙ ap (λ (n : ℕ). n * 2 ^ k + x % 2 ^ k) e,
      mod-lt x (pow_pos k),
      ap₂ (λ (b : ℕ) (bs : List ℕ). b ∷ bs) (ap (λ (n : ℕ). n % 2) e ∙ mod-eq_of_lt l) rest,
    )

    go : (q : ℕ) → x / 2 ^ k ≡ q → q < 2 → (Top k x 0 (x % 2 ^ k)) ⊎ (Top k x 1 (x % 2 ^ k))
    go zero e l = inl (with_top 0 l e)
    go (suc zero) e l = inr (with_top 1 l e)
    go (suc (suc q)) e l = absurd (omega arith)

pub bits_ones : (k x : ℕ) → x < 2 ^ k → ones_of (bits_of k x) ≡ ones x
unfolding bits_of ones_of ones
bits_ones zero x h = ap ones (sym (lt-one h))
bits_ones (suc k) x h =
    let e : ones_of (bits_of k (x % 2 ^ k)) ≡ ones (x % 2 ^ k) = bits_ones k (x % 2 ^ k) (mod-lt x (pow_pos k)) in
    ⊎_elim (counted e 0 refl) (counted e 1 refl) (parted k x h)
  where
    counted : ones_of (bits_of k (x % 2 ^ k)) ≡ ones (x % 2 ^ k) → (top : ℕ) → ones top ≡ top → Top k x top (x % 2 ^ k) → ones_of (bits_of (suc k) x) ≡ ones x
    counted lower top e t =
        ap ones_of t.2 ∙ ap₂ (λ (m n : ℕ). m + n) (sym e) lower ∙ sym (ones_cat k top (x % 2 ^ k) t.1) ∙ ap ones (sym t.0)

-- one digit more above a number is one leading zero more
leading_more : (k y : ℕ) → y < 2 ^ k → count_leading_zeros (suc k) y ≡ suc (count_leading_zeros k y)
leading_more k y h =
    let t = leading_length k y h in
    sym (leading_unique (suc k) y (suc (count_leading_zeros k y)) t.0 (omega (arith, t.1)) t.2 t.3)

leading-none : (k y : ℕ) → 2 ^ k ≤ y → y < 2 ^ suc k → count_leading_zeros (suc k) y ≡ 0
leading-none k y l h = sym (leading_unique (suc k) y 0 (suc k) (omega arith) h (omega (arith, two-pow-succ k)))

-- the leading ones of a number are the leading zeros of its complement
pub bits_leading : (k x : ℕ) → x < 2 ^ k → leading_run (bits_of k x) ≡ count_leading_zeros k (2 ^ k - 1 - x)
unfolding bits_of leading_run count_leading_zeros
bits_leading zero x h = refl
bits_leading (suc k) x h = ⊎_elim off (on (bits_leading k (x % 2 ^ k) (mod-lt x (pow_pos k)))) (parted k x h)
  where
    off : Top k x 0 (x % 2 ^ k) → leading_run (bits_of (suc k) x) ≡ count_leading_zeros (suc k) (2 ^ suc k - 1 - x)
    off t = ap leading_run t.2 ∙ sym (leading-none k (2 ^ suc k - 1 - x) (omega (arith, two-pow-succ k, t.0, t.1)) (omega (arith, two-pow-succ k, pow_pos k)))

    on : leading_run (bits_of k (x % 2 ^ k)) ≡ count_leading_zeros k (2 ^ k - 1 - x % 2 ^ k) → Top k x 1 (x % 2 ^ k)
        → leading_run (bits_of (suc k) x) ≡ count_leading_zeros (suc k) (2 ^ suc k - 1 - x)
    on lower t =
        let e : 2 ^ k - 1 - x % 2 ^ k ≡ 2 ^ suc k - 1 - x = omega (arith, two-pow-succ k, t.0, t.1) in
        ap leading_run t.2 ∙ ap suc lower ∙ sym (leading_more k (2 ^ k - 1 - x % 2 ^ k) (omega (arith, pow_pos k))) ∙ ap (count_leading_zeros (suc k)) e

-- the ones at the end are the trailing zeros of the complement
pub bits_ending : (k x : ℕ) → x < 2 ^ k → ending_run 0 (bits_of k x) ≡ count_trailing_zeros k (2 ^ k - 1 - x)
unfolding bits_of ending_run count_trailing_zeros
bits_ending zero x h = refl
bits_ending (suc k) x h = go (bits_ending k (x / 2) (omega (arith, two-pow-succ k))) (x % 2) refl (mod-lt x {m = 2} (omega arith))
  where
    lowest : bits_of (suc k) x ≡ bits_of k (x / 2) ++ (x % 2 ∷ [])
    lowest =
        subst (λ (m : ℕ). bits_of m x ≡ bits_of k (x / 2) ++ bits_of 1 (x % 2)) (add-one k) (bits_split k 1 x)
        ∙ ap (λ (b : ℕ). bits_of k (x / 2) ++ (b ∷ [])) (omega arith)

    upper : (2 ^ suc k - 1 - x) / 2 ≡ 2 ^ k - 1 - x / 2
    upper = omega (arith, two-pow-succ k)

    go : ending_run 0 (bits_of k (x / 2)) ≡ count_trailing_zeros k (2 ^ k - 1 - x / 2) → (b : ℕ) → x % 2 ≡ b → b < 2
        → ending_run 0 (bits_of (suc k) x) ≡ count_trailing_zeros (suc k) (2 ^ suc k - 1 - x)
    go higher zero e l =
        let odd : (2 ^ suc k - 1 - x) % 2 ≡ 1 = omega (arith, two-pow-succ k) in
        ap (ending_run 0) lowest ∙ ap (λ (b : ℕ). ending_run 0 (bits_of k (x / 2) ++ (b ∷ []))) e ∙ ending_zero 0 (bits_of k (x / 2))
        ∙ sym (ap (λ (d : ℕ). under d (count_trailing_zeros k ((2 ^ suc k - 1 - x) / 2))) odd)
    go higher (suc zero) e l =
        let even : (2 ^ suc k - 1 - x) % 2 ≡ 0 = omega (arith, two-pow-succ k) in
        ap (ending_run 0) lowest ∙ ap (λ (b : ℕ). ending_run 0 (bits_of k (x / 2) ++ (b ∷ []))) e ∙ ending_one 0 (bits_of k (x / 2))
        ∙ ap suc (higher ∙ ap (count_trailing_zeros k) (sym upper))
        ∙ sym (ap (λ (d : ℕ). under d (count_trailing_zeros k ((2 ^ suc k - 1 - x) / 2))) even)
    go higher (suc (suc b)) e l = absurd (omega arith)
