-- The delays after recording any list of samples from fresh show that list, and so does their summary. Assumes nothing.
use Rattle.std.specs.Prelude.{◌≡◌, refl, Bool, true, false, not, ◌&&◌, cond, List, [], ◌∷◌, ℕ, suc, ◌/◌, ◌%◌, ◌^◌, length, ℤ, pos, negsuc, neg_ℤ, ◌+ℤ◌, ◌≤ℤ◌, T, Option, Some, None}
use Rattle.std.proofs.Common.{sym, ap, ◌∙◌, subst, inl, inr, zero-lt-suc, le_trans, le_antisymm, le_of_lt, div-add-mod', add-one, leb→le, le→leb, ltb→lt, lt-ltb}
use Rattle.std.specs.Int.Signed.{lt_z, le_z, lt_z_no, ≤ℤ_refl}
use Rattle.floats.specs.Whole.{magnitude, signed}
use Rattle.delays.specs.declared.Nanoseconds.{Nanoseconds}
use Rattle.delays.specs.declared.Delays.{Delays}
use Rattle.delays.specs.Sums.{value_of, nanoseconds_of, total_of, sum_of}
use Rattle.delays.specs.Delays.{lesser, greater, fresh, recorded_of}
use Rattle.delays.specs.Summary.{average_ms, summary_of}
use Rattle.delays.specs.Samples.{total, Among, AtMostAll, AtLeastAll, Least, Greatest, played, Shows}

-- ---- a sum says the integer that it was made of
pub total-back : (z : ℤ) → total_of (sum_of z) ≡ z
total-back (pos n) = ap pos (div-add-mod' n (2 ^ 64))
total-back (negsuc n) =
    ap (λ (b : Bool). signed (true && b) (magnitude (suc n / 2 ^ 64) (suc n % 2 ^ 64))) (lt-ltb 0 (suc n) (zero-lt-suc n))
    ∙ ap (λ (m : ℕ). neg_ℤ (pos m)) (div-add-mod' (suc n) (2 ^ 64))

-- and so does a sample
pub value-back : (z : ℤ) → value_of (nanoseconds_of z) ≡ z
value-back (pos n) = refl
value-back (negsuc n) = refl

-- ---- the least and the greatest
yes : {b : Bool} → b ≡ true → T b
yes h = subst T (sym h) tt

no : {b : Bool} → b ≡ false → T (not b)
no h = subst (λ (a : Bool). T (not a)) (sym h) tt

through : (a b c : ℤ) → T (le_z a b) → T (le_z b c) → T (le_z a c)
through (pos a) (pos b) (pos c) h k = le→leb a c (le_trans (leb→le a b h) (leb→le b c k))
through (pos a) (pos b) (negsuc c) h k = absurd k
through (pos a) (negsuc b) c h k = absurd h
through (negsuc a) (pos b) (pos c) h k = tt
through (negsuc a) (pos b) (negsuc c) h k = absurd k
through (negsuc a) (negsuc b) (pos c) h k = tt
through (negsuc a) (negsuc b) (negsuc c) h k = le→leb c a (le_trans (leb→le c b k) (leb→le b a h))

at_most : {a b c : ℤ} → a ≤ℤ b → b ≤ℤ c → a ≤ℤ c
at_most {a} {b} {c} h k = record { le = through a b c h.le k.le }

below : (a b : ℤ) → T (lt_z a b) → T (le_z a b)
below (pos a) (pos b) h = le→leb a b (le_of_lt (ltb→lt a b h))
below (pos a) (negsuc b) h = absurd h
below (negsuc a) (pos b) h = tt
below (negsuc a) (negsuc b) h = le→leb b a (le_of_lt (ltb→lt b a h))

lower : (a m : Nanoseconds) (ss : List Nanoseconds) → value_of a ≤ℤ value_of m → AtMostAll m ss → AtMostAll a ss
lower a m [] l h = tt
lower a m (s ∷ ss) l h = (at_most l h.0, lower a m ss l h.1)

higher : (a m : Nanoseconds) (ss : List Nanoseconds) → value_of m ≤ℤ value_of a → AtLeastAll m ss → AtLeastAll a ss
higher a m [] l h = tt
higher a m (s ∷ ss) l h = (at_most h.0 l, higher a m ss l h.1)

least_more : (e : Option Nanoseconds) (s : Nanoseconds) (ss : List Nanoseconds) → Least ss e → Least (s ∷ ss) (lesser e s)
least_more None s ss h = subst (λ (l : List Nanoseconds). Among s (s ∷ l) × AtMostAll s (s ∷ l)) (sym h) (inl refl, (≤ℤ_refl (value_of s), tt))
least_more (Some m) s ss h = go (lt_z (value_of s) (value_of m)) refl
  where
    go : (b : Bool) → lt_z (value_of s) (value_of m) ≡ b → Least (s ∷ ss) (Some (cond b s m))
    go true e = (inl refl, (≤ℤ_refl (value_of s), lower s m ss (record { le = below (value_of s) (value_of m) (yes e) }) h.1))
    go false e = (inr h.0, (lt_z_no (no e), h.1))

greatest_more : (e : Option Nanoseconds) (s : Nanoseconds) (ss : List Nanoseconds) → Greatest ss e → Greatest (s ∷ ss) (greater e s)
greatest_more None s ss h = subst (λ (l : List Nanoseconds). Among s (s ∷ l) × AtLeastAll s (s ∷ l)) (sym h) (inl refl, (≤ℤ_refl (value_of s), tt))
greatest_more (Some m) s ss h = go (lt_z (value_of m) (value_of s)) refl
  where
    go : (b : Bool) → lt_z (value_of m) (value_of s) ≡ b → Greatest (s ∷ ss) (Some (cond b s m))
    go true e = (inl refl, (≤ℤ_refl (value_of s), higher s m ss (record { le = below (value_of m) (value_of s) (yes e) }) h.1))
    go false e = (inr h.0, (lt_z_no (no e), h.1))

-- ---- the state after recording a list of samples from fresh shows them
pub fresh-shows : Shows [] fresh
unfolding total
fresh-shows = record { count = refl; sum = refl; min = refl; max = refl }

pub recorded-shows : (d : Delays) (s : Nanoseconds) (ss : List Nanoseconds) → Shows ss d → Shows (s ∷ ss) (recorded_of d s)
unfolding total
recorded-shows d s ss h = record {
  count = add-one d.count ∙ ap suc h.count;
  sum = ap (λ (z : ℤ). sum_of (z +ℤ value_of s)) (ap total_of h.sum ∙ total-back (total ss));
  min = least_more d.min s ss h.min;
  max = greatest_more d.max s ss h.max;
}

pub played-shows : (ss : List Nanoseconds) → Shows ss (played ss)
unfolding played
played-shows [] = fresh-shows
played-shows (s ∷ ss) = recorded-shows (played ss) s ss (played-shows ss)

-- ---- the least and the greatest have one value
from_all : (m n : Nanoseconds) (ss : List Nanoseconds) → AtMostAll m ss → Among n ss → value_of m ≤ℤ value_of n
from_all m n [] h a = absurd a
from_all m n (s ∷ ss) h (inl e) = subst (λ (x : Nanoseconds). value_of m ≤ℤ value_of x) (sym e) h.0
from_all m n (s ∷ ss) h (inr a) = from_all m n ss h.1 a

to_all : (m n : Nanoseconds) (ss : List Nanoseconds) → AtLeastAll m ss → Among n ss → value_of n ≤ℤ value_of m
to_all m n [] h a = absurd a
to_all m n (s ∷ ss) h (inl e) = subst (λ (x : Nanoseconds). value_of x ≤ℤ value_of m) (sym e) h.0
to_all m n (s ∷ ss) h (inr a) = to_all m n ss h.1 a

both_ways : (a b : ℤ) → a ≤ℤ b → b ≤ℤ a → a ≡ b
both_ways (pos a) (pos b) h k = ap pos (le_antisymm (leb→le a b h.le) (leb→le b a k.le))
both_ways (pos a) (negsuc b) h k = absurd h.le
both_ways (negsuc a) (pos b) h k = absurd k.le
both_ways (negsuc a) (negsuc b) h k = ap negsuc (le_antisymm (leb→le a b k.le) (leb→le b a h.le))

pub least-value : (ss : List Nanoseconds) (m n : Nanoseconds) → Least ss (Some m) → Least ss (Some n) → value_of m ≡ value_of n
least-value ss m n h k = both_ways (value_of m) (value_of n) (from_all m n ss h.1 k.0) (from_all n m ss k.1 h.0)

pub greatest-value : (ss : List Nanoseconds) (m n : Nanoseconds) → Greatest ss (Some m) → Greatest ss (Some n) → value_of m ≡ value_of n
greatest-value ss m n h k = both_ways (value_of m) (value_of n) (to_all n m ss k.1 h.0) (to_all m n ss h.1 k.0)

-- ---- and the summary divides the sum of the samples by their number
pub summary_average : (ss : List Nanoseconds) → (summary_of (played ss)).average ≡ average_ms (total ss) (length ss)
summary_average ss =
    let h = played-shows ss in
    ap (λ (z : ℤ). average_ms z (played ss).count) (ap total_of h.sum ∙ total-back (total ss)) ∙ ap (average_ms (total ss)) h.count

pub summary-samples : (ss : List Nanoseconds) → (summary_of (played ss)).samples ≡ length ss
summary-samples ss = (played-shows ss).count
