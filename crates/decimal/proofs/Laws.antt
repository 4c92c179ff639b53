-- What the digits of a number are: they say the number when they are read back, each is a digit, and none leads with a zero. Assumes nothing.
use mathlib.Core.Path.{◌≡◌, refl, sym, ap, ◌∙◌, subst}
use mathlib.Core.Bool.{Bool, true, false, cond}
use mathlib.Core.List.{List, [], ◌∷◌, ◌++◌}
use mathlib.Core.Logic.{◌⊎◌, inl, inr, ⊎_elim}
use Prim.Native.Nat.{ℕ, zero, suc, ◌+◌, ◌-◌, ◌*◌, ◌/◌, ◌%◌, ◌^◌, ◌≤◌, ◌<◌}
use native.Mathlib.Omega.{arith}
use native.Mathlib.Nat.{pow-suc}
use lib.Dec.{ltb}
use lib.ListN.{length, get_or, length-append, get_or-append}
use lib.Seq.{get_or-append_seam}
use borrow.Author.Tests.{ltb-true, ltb-false, lt-ltb, le-ltb}
use Rattle.decimal.specs.Decimal.{digit, digits_within, decimal, most_digits, value_after, value_of}

-- below ten, or not
ten : (n : ℕ) → (n < 10) ⊎ (10 ≤ n)
ten n = go (ltb n 10) refl
  where
    go : (b : Bool) → ltb n 10 ≡ b → (n < 10) ⊎ (10 ≤ n)
    go true e = inl (ltb-true n 10 e)
    go false e = inr (ltb-false n 10 e)

-- the digits do not depend on the bound of the steps, once it is above the number
enough : (j k n : ℕ) → n < j → n < k → digits_within j n ≡ digits_within k n
unfolding digits_within
enough zero k n h l = absurd (omega arith)
enough (suc j) zero n h l = absurd (omega arith)
enough (suc j) (suc k) n h l =
    ⊎_elim
    (λ (below : n < 10). rw (lt-ltb n 10 below))
    (λ (above : 10 ≤ n). rw (le-ltb n 10 above) (ap (λ (l : List ℕ). l ++ (digit (n % 10) ∷ [])) (enough j k (n / 10) (omega arith) (omega arith))))
    (ten n)

-- a number below ten is one digit
pub decimal_digit : (n : ℕ) → n < 10 → decimal n ≡ digit n ∷ []
unfolding decimal digits_within
decimal_digit n h = ap (λ (b : Bool). cond b (digit n ∷ []) (digits_within n (n / 10) ++ (digit (n % 10) ∷ []))) (lt-ltb n 10 h)

-- any other has the digits of its tenth part, then its last digit
pub decimal_more : (n : ℕ) → 10 ≤ n → decimal n ≡ decimal (n / 10) ++ (digit (n % 10) ∷ [])
unfolding decimal digits_within
decimal_more n h =
    ap (λ (b : Bool). cond b (digit n ∷ []) (digits_within n (n / 10) ++ (digit (n % 10) ∷ []))) (le-ltb n 10 h)
    ∙ ap (λ (l : List ℕ). l ++ (digit (n % 10) ∷ [])) (enough n (suc (n / 10)) (n / 10) (omega arith) (omega arith))

pub one_more-digit : (n : ℕ) → 10 ≤ n → length (decimal n) ≡ length (decimal (n / 10)) + 1
one_more-digit n h = ap length (decimal_more n h) ∙ length-append (decimal (n / 10)) (digit (n % 10) ∷ [])

-- what holds below ten, and of a number where it holds of its tenth part, holds of every number
pub by_tenths : (P : ℕ → Type 0) → ((n : ℕ) → n < 10 → P n) → ((n : ℕ) → 10 ≤ n → P (n / 10) → P n) → (n : ℕ) → P n
by_tenths P one more n = within (suc n) n (omega arith)
  where
    within : (k n : ℕ) → n < k → P n
    within zero n h = absurd (omega arith)
    within (suc k) n h = ⊎_elim (one n) (λ (above : 10 ≤ n). more n above (within k (n / 10) (omega arith))) (ten n)

value-append : (before : ℕ) (s t : List ℕ) → value_after before (s ++ t) ≡ value_after (value_after before s) t
value-append before [] t = refl
value-append before (b ∷ s) t = value-append (before * 10 + (b - 48)) s t

-- Read back, the digits of a number say that number.
pub value-back : (n : ℕ) → value_of (decimal n) ≡ n
value-back = by_tenths (λ (n : ℕ). value_of (decimal n) ≡ n) one more
  where
    one : (n : ℕ) → n < 10 → value_of (decimal n) ≡ n
    one n h = ap value_of (decimal_digit n h) ∙ omega arith

    last : (n : ℕ) → n / 10 * 10 + (48 + n % 10 - 48) ≡ n
    last n = omega arith

    more : (n : ℕ) → 10 ≤ n → value_of (decimal (n / 10)) ≡ n / 10 → value_of (decimal n) ≡ n
    more n h e =
        ap value_of (decimal_more n h)
        ∙ value-append 0 (decimal (n / 10)) (digit (n % 10) ∷ [])
        ∙ ap (λ (v : ℕ). v * 10 + (digit (n % 10) - 48)) e
        ∙ last n

-- Two numbers with the same digits are the same number.
pub decimal-tells : (m n : ℕ) → decimal m ≡ decimal n → m ≡ n
decimal-tells m n e = sym (value-back m) ∙ ap value_of e ∙ value-back n

-- there is a digit
pub some_digit : (n : ℕ) → 0 < length (decimal n)
some_digit = by_tenths (λ (n : ℕ). 0 < length (decimal n)) one more
  where
    one : (n : ℕ) → n < 10 → 0 < length (decimal n)
    one n h = rw (decimal_digit n h) (omega arith)

    more : (n : ℕ) → 10 ≤ n → 0 < length (decimal (n / 10)) → 0 < length (decimal n)
    more n h l = rw (decimal_more n h, length-append (decimal (n / 10)) (digit (n % 10) ∷ [])) (omega arith)

-- a byte is one of '0' to '9'
abbrev pub Shows : ℕ → Type 0
Shows b = (48 ≤ b) × (b ≤ 57)

-- Every byte of the text is a digit.
pub all_digits : (n i : ℕ) → i < length (decimal n) → Shows (get_or (decimal n) i 0)
all_digits = by_tenths (λ (n : ℕ). (i : ℕ) → i < length (decimal n) → Shows (get_or (decimal n) i 0)) one more
  where
    one : (n : ℕ) → n < 10 → (i : ℕ) → i < length (decimal n) → Shows (get_or (decimal n) i 0)
    one n h = rw (decimal_digit n h) single
      where
        single : (i : ℕ) → i < length (digit n ∷ []) → Shows (get_or (digit n ∷ []) i 0)
        single zero l = (omega arith, omega arith)
        single (suc i) l = absurd (omega arith)

    more : (n : ℕ) → 10 ≤ n → ((i : ℕ) → i < length (decimal (n / 10)) → Shows (get_or (decimal (n / 10)) i 0)) → (i : ℕ) → i < length (decimal n) → Shows (get_or (decimal n) i 0)
    more n h upper = rw (decimal_more n h) joined
      where
        joined : (i : ℕ) → i < length (decimal (n / 10) ++ (digit (n % 10) ∷ [])) → Shows (get_or (decimal (n / 10) ++ (digit (n % 10) ∷ [])) i 0)
        joined i l = go (ltb i (length (decimal (n / 10)))) refl
          where
            go : (b : Bool) → ltb i (length (decimal (n / 10))) ≡ b → Shows (get_or (decimal (n / 10) ++ (digit (n % 10) ∷ [])) i 0)
            go true e = rw (get_or-append (decimal (n / 10)) (digit (n % 10) ∷ []) 0 i (ltb-true i (length (decimal (n / 10))) e)) (upper i (ltb-true i (length (decimal (n / 10))) e))
            go false e =
                let at : i ≡ length (decimal (n / 10)) = omega (arith, ltb-false i (length (decimal (n / 10))) e, length-append (decimal (n / 10)) (digit (n % 10) ∷ [])) in
                rw (at, get_or-append_seam (decimal (n / 10)) (digit (n % 10)) [] 0) (omega arith, omega arith)

-- A number above 0 does not begin with '0', so no digit can be left out.
pub no_leading_zero : (n : ℕ) → 0 < n → 48 < get_or (decimal n) 0 0
no_leading_zero = by_tenths (λ (n : ℕ). 0 < n → 48 < get_or (decimal n) 0 0) one more
  where
    one : (n : ℕ) → n < 10 → 0 < n → 48 < get_or (decimal n) 0 0
    one n h l = rw (decimal_digit n h) (omega arith)

    more : (n : ℕ) → 10 ≤ n → (0 < n / 10 → 48 < get_or (decimal (n / 10)) 0 0) → 0 < n → 48 < get_or (decimal n) 0 0
    more n h upper l = rw (decimal_more n h, get_or-append (decimal (n / 10)) (digit (n % 10) ∷ []) 0 0 (some_digit (n / 10))) (upper (omega arith))

-- zero is '0'
pub zero_digit : decimal 0 ≡ 48 ∷ []
zero_digit = decimal_digit 0 (omega arith)

-- A number below a power of ten has no more digits than the power says.
pub at_most : (k n : ℕ) → n < 10 ^ suc k → length (decimal n) ≤ suc k
at_most zero n h = rw (decimal_digit n h) (omega arith)
at_most (suc k) n h =
    ⊎_elim
    (λ (below : n < 10). rw (decimal_digit n below) (omega arith))
    (λ (above : 10 ≤ n). rw (decimal_more n above, length-append (decimal (n / 10)) (digit (n % 10) ∷ [])) (longer (at_most k (n / 10) (tenth (10 ^ suc k) n (subst (λ (m : ℕ). n < m) (pow-suc 10 (suc k)) h)))))
    (ten n)
  where
    tenth : (m n : ℕ) → n < m * 10 → n / 10 < m
    tenth m n l = omega arith

    longer : {m : ℕ} → m ≤ suc k → m + 1 ≤ suc (suc k)
    longer l = omega arith

-- A number of 64 bits has at most 20 digits.
pub word-digits : (n : ℕ) → n < 2 ^ 64 → length (decimal n) ≤ most_digits
word-digits n h = at_most 19 n (omega arith)

-- the largest number of 64 bits, worked out: "18446744073709551615"
pub largest-word : decimal 18446744073709551615 ≡ 49 ∷ 56 ∷ 52 ∷ 52 ∷ 54 ∷ 55 ∷ 52 ∷ 52 ∷ 48 ∷ 55 ∷ 51 ∷ 55 ∷ 48 ∷ 57 ∷ 53 ∷ 53 ∷ 49 ∷ 54 ∷ 49 ∷ 53 ∷ []
unfolding decimal digits_within
largest-word = refl
