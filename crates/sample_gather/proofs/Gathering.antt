-- The keys that are gathered: one sample more, and what their number tells.
-- Assumes nothing.
use mathlib.Core.List.{List}
use mathlib.Core.Path.{◌≡◌, refl, sym, ap, ◌∙◌}
use mathlib.Core.Logic.{⊎_elim}
use Prim.Native.Nat.{ℕ, ◌+◌, ◌-◌, ◌%◌, ◌^◌, ◌≤◌, ◌<◌}
use native.Mathlib.Numerals.{add-one}
use native.Mathlib.Omega.{arith}
use lib.Dec.{ltb}
use lib.ListN.{length, get_or, take, set}
use lib.Seq.{take-suc-set}
use Rattle.sample_passes.specs.Keys.{shifted}
use Rattle.sample_passes.specs.Counting.{one_if, below}
use Rattle.sample_passes.specs.Passes.{Gathering, Gathered}
use Rattle.sample_passes.proofs.Counting.{lt_or_le, below-append, below_one, below_more, below-take_lt, below-take_ge}

pub gathering_none : (key : ℕ → ℕ) (xs : List ℕ) (low high : ℕ) (keys : List ℕ) → Gathering key (take 0 xs) low high 0 keys
unfolding below
gathering_none key xs low high keys = record { number = refl; held = λ m v l u. refl }

-- one key more at the end of those that are kept
kept_more : (keys : List ℕ) (n x v : ℕ) → n < length keys → x < 2 ^ 64
    → below (shifted 0) v (take (n + 1) (set keys n x)) ≡ below (shifted 0) v (take n keys) + one_if (ltb x v)
kept_more keys n x v l w =
    let same : shifted 0 x ≡ x = omega (arith, w) in
    rw (add-one, take-suc-set keys n x l, below-append, below_one, same)

module _ (key : ℕ → ℕ) (xs : List ℕ) (low high : ℕ) (ordered : low ≤ high) (i : ℕ) (inside : i < length xs) (x : ℕ) (is : x ≡ key (get_or xs i 0))
    (n : ℕ) (keys : List ℕ) (h : Gathering key (take i xs) low high n keys) where
  up : (k : ℕ) → x < k → below key k (take (i + 1) xs) ≡ below key k (take i xs) + 1
  up k l = below-take_lt key k xs i inside (omega (arith, l, is))

  stay : (k : ℕ) → k ≤ x → below key k (take (i + 1) xs) ≡ below key k (take i xs)
  stay k l = below-take_ge key k xs i inside (omega (arith, l, is))

  more : (k : ℕ) → below key k (take (i + 1) xs) ≡ below key k (take i xs) + one_if (ltb x k)
  more k = below_more key k xs i inside ∙ ap (λ (y : ℕ). below key k (take i xs) + one_if (ltb y k)) (sym is)

  pub gathering_low : x < low → Gathering key (take (i + 1) xs) low high n keys
  gathering_low l =
      record {
        number = omega (arith, h.number, up low l, up (high + 1) (omega (arith, l, ordered)));
        held = λ m v from to. omega (arith, h.held m v from to, up low l, up v (omega (arith, l, from)));
      }

  pub gathering_high : high < x → Gathering key (take (i + 1) xs) low high n keys
  gathering_high l =
      record {
        number = omega (arith, h.number, stay low (omega (arith, l, ordered)), stay (high + 1) (omega (arith, l)));
        held = λ m v from to. omega (arith, h.held m v from to, stay low (omega (arith, l, ordered)), stay v (omega (arith, l, to)));
      }

  pub gathering_in : low ≤ x → x ≤ high → x < 2 ^ 64 → length keys ≡ 256 → Gathering key (take (i + 1) xs) low high (n + 1) (set keys (n % 256) x)
  gathering_in l m w long =
      record {
        number = omega (arith, h.number, stay low l, up (high + 1) (omega (arith, m)));
        held =
            λ few v from to.
            let place : n % 256 ≡ n = omega (arith, few) in
            rw place
            (omega (arith, h.held (omega (arith, few)) v from to, stay low l, more v, kept_more keys n x v (omega (arith, few, long)) w));
      }

-- one turn of the loop of `gather`, whose distance past low goes round at 2^64
module _ (bias : ℕ) (xs : List ℕ) (low high : ℕ) (ordered : low ≤ high) (word : high < 2 ^ 64) (i : ℕ) (inside : i < length xs) (d : ℕ) (small : d < 2 ^ 64)
    (is : (d + low) % 2 ^ 64 ≡ shifted bias (get_or xs i 0)) (n : ℕ) (keys : List ℕ) (h : Gathering (shifted bias) (take i xs) low high n keys) where
  pub one_kept : d ≤ high - low → length keys ≡ 256 → Gathering (shifted bias) (take (i + 1) xs) low high (n + 1) (set keys (n % 256) (low + d))
  one_kept l long =
      gathering_in (shifted bias) xs low high ordered i inside (low + d) (omega (arith, is, l, ordered, word)) n keys h
      (omega arith) (omega (arith, l, ordered)) (omega (arith, l, ordered, word)) long

  pub one_passed : high - low < d → Gathering (shifted bias) (take (i + 1) xs) low high n keys
  one_passed l =
      ⊎_elim
      (λ g. gathering_high (shifted bias) xs low high ordered i inside (low + d) (omega (arith, is, g)) n keys h (omega (arith, l, ordered)))
      (λ g. gathering_low (shifted bias) xs low high ordered i inside (low + d - 2 ^ 64) (omega (arith, is, g, small, ordered, word)) n keys h
      (omega (arith, g, small, ordered, word)))
      (lt_or_le (d + low) (2 ^ 64))

-- what was gathered of all samples
pub gathered_all : (key : ℕ → ℕ) (xs : List ℕ) (low high n : ℕ) (keys : List ℕ) → Gathering key xs low high n keys → Gathered key xs low high keys
gathered_all key xs low high n keys h m v e few from to =
    let same : m ≡ n = omega (arith, e, h.number) in
    rw same (h.held (omega (arith, same, few)) v from to)
