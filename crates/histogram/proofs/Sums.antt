-- Laws of sums of buckets, and of the bucket of a rank. Assumes nothing.
use mathlib.Core.Path.{◌≡◌, refl, sym, ◌∙◌, ap, ap₂}
use mathlib.Core.Bool.{Bool, true, false, ◌&&◌}
use mathlib.Core.List.{List, [], ◌∷◌, ◌++◌}
use mathlib.Core.Logic.{◌⊎◌, inl, inr, ⊎_elim}
use Prim.Native.Nat.{ℕ, zero, suc, ◌+◌, ◌-◌, ◌*◌, ◌/◌, ◌%◌, ◌^◌, ◌≤◌, ◌<◌}
use native.Mathlib.Nat.{le_trans, le_of_eq, add-zero, add_assoc, le-add_right, le_of_suc-le-suc, not-suc-le-zero}
use native.Mathlib.Numerals.{add-one}
use native.Mathlib.Omega.{arith}
use borrow.Author.Tests.{lt-ltb, le-ltb, ltb-true, ltb-false, eq-eqb, eqb-true, eqb-false}
use lib.ListN.{length, get_or, take, drop, take-append-drop, drop_of_length-le}
use lib.Seq.{take-suc, drop-cons}
use lib.Dec.{ltb, eqb}
use Rattle.histogram.specs.Histogram.{total, either, bucket_at, left_at}

pub total-append : (a b : List ℕ) → total (a ++ b) ≡ total a + total b
unfolding total
total-append [] b = omega arith
total-append (n ∷ ns) b = ap (λ (x : ℕ). n + x) (total-append ns b) ∙ sym (add_assoc n (total ns) (total b))

-- the buckets before a place have no more than all, and the place's own count stands beside them
pub total_split : (k : ℕ) (b : List ℕ) → total b ≡ total (take k b) + total (drop k b)
total_split k b = ap total (sym (take-append-drop k b)) ∙ total-append (take k b) (drop k b)

pub total_one : (n : ℕ) → total (n ∷ []) ≡ n
unfolding total
total_one n = add-zero n

-- the first k + 1 buckets have what the first k have, and the count at k
pub total-next : (k : ℕ) (b : List ℕ) → k < length b → total (take (k + 1) b) ≡ total (take k b) + get_or b k 0
total-next k b h =
    ap (λ (x : ℕ). total (take x b)) (add-one k) ∙ ap total (take-suc b k 0 h) ∙ total-append (take k b) (get_or b k 0 ∷ [])
    ∙ ap (λ (x : ℕ). total (take k b) + x) (total_one (get_or b k 0))

pub total-take_le : (k : ℕ) (b : List ℕ) → total (take k b) ≤ total b
total-take_le k b = le_trans (le-add_right (total (take k b)) (total (drop k b))) (le_of_eq (sym (total_split k b)))

pub total-drop_le : (k : ℕ) (b : List ℕ) → total (drop k b) ≤ total b
total-drop_le k b = omega (arith, total_split k b)

-- a rank below the first count is in the first bucket
pub at_first : (n : ℕ) (ns : List ℕ) (r : ℕ) → r < n → bucket_at (n ∷ ns) r ≡ 0
unfolding bucket_at
at_first n ns r h = ap (λ (t : Bool). either t 0 (1 + bucket_at ns (r - n))) (lt-ltb r n h)

pub at_later : (n : ℕ) (ns : List ℕ) (r : ℕ) → n ≤ r → bucket_at (n ∷ ns) r ≡ 1 + bucket_at ns (r - n)
unfolding bucket_at
at_later n ns r h = ap (λ (t : Bool). either t 0 (1 + bucket_at ns (r - n))) (le-ltb r n h)

-- a rank that the first k buckets do not hold is sought among the rest
pub at-past : (k : ℕ) (b : List ℕ) (r : ℕ) → k ≤ length b → total (take k b) ≤ r → bucket_at b r ≡ k + bucket_at (drop k b) (r - total (take k b))
unfolding total
at-past zero b r h l = none (bucket_at b r) ∙ ap (λ (x : ℕ). 0 + bucket_at b x) (whole r)
  where
    none : (x : ℕ) → x ≡ 0 + x
    none x = omega arith

    whole : (r : ℕ) → r ≡ r - 0
    whole r = omega arith
at-past (suc k) [] r h l = absurd (not-suc-le-zero h)
at-past (suc k) (n ∷ ns) r h l =
    at_later n ns r (omega arith) ∙ ap (λ (x : ℕ). 1 + x) (at-past k ns (r - n) (le_of_suc-le-suc h) (omega arith))
    ∙ ap (λ (x : ℕ). 1 + (k + bucket_at (drop k ns) x)) (less r n (total (take k ns))) ∙ more k (bucket_at (drop k ns) (r - (n + total (take k ns))))
  where
    less : (r n t : ℕ) → r - n - t ≡ r - (n + t)
    less r n t = omega arith

    more : (k x : ℕ) → 1 + (k + x) ≡ suc k + x
    more k x = omega arith

-- a rank below the sum has a bucket
pub at-below : (b : List ℕ) (r : ℕ) → r < total b → bucket_at b r < length b
unfolding total
at-below [] r h = absurd (never h)
  where
    never : r < 0 → ⊥
    never h = omega arith
at-below (n ∷ ns) r h = ⊎_elim first (later (λ l. at-below ns (r - n) (omega arith))) (split (ltb r n) refl)
  where
    split : (t : Bool) → ltb r n ≡ t → (r < n) ⊎ (n ≤ r)
    split true e = inl (ltb-true r n e)
    split false e = inr (ltb-false r n e)

    first : r < n → bucket_at (n ∷ ns) r < suc (length ns)
    first l = omega (arith, at_first n ns r l)

    later : (n ≤ r → bucket_at ns (r - n) < length ns) → n ≤ r → bucket_at (n ∷ ns) r < suc (length ns)
    later rest l = omega (arith, at_later n ns r l, rest l)

-- one step of a walk
pub at_here : (b : List ℕ) (i left : ℕ) → i < length b → left < get_or b i 0 → i + bucket_at (drop i b) left ≡ i
at_here b i left h l = ap (λ (x : List ℕ). i + bucket_at x left) (drop-cons b i 0 h) ∙ ap (λ (x : ℕ). i + x) (at_first (get_or b i 0) (drop (suc i) b) left l) ∙ add-zero i

pub at_next : (b : List ℕ) (i left : ℕ) → i < length b → get_or b i 0 ≤ left → i + bucket_at (drop i b) left ≡ i + 1 + bucket_at (drop (i + 1) b) (left - get_or b i 0)
at_next b i left h l =
    ap (λ (x : List ℕ). i + bucket_at x left) (drop-cons b i 0 h) ∙ ap (λ (x : ℕ). i + x) (at_later (get_or b i 0) (drop (suc i) b) left l)
    ∙ grouped i (bucket_at (drop (suc i) b) (left - get_or b i 0)) ∙ ap (λ (x : ℕ). i + 1 + bucket_at (drop x b) (left - get_or b i 0)) (sym (add-one i))
  where
    grouped : (i x : ℕ) → i + (1 + x) ≡ i + 1 + x
    grouped i x = omega arith

-- past the last bucket nothing is left to walk
pub at_end : (b : List ℕ) (i left : ℕ) → length b ≤ i → i + bucket_at (drop i b) left ≡ i
unfolding bucket_at
at_end b i left h = ap (λ (x : List ℕ). i + bucket_at x left) (drop_of_length-le b h) ∙ add-zero i

-- what is left of the rank, by the same steps
pub left-first : (n : ℕ) (ns : List ℕ) (r : ℕ) → r < n → left_at (n ∷ ns) r ≡ r
unfolding left_at
left-first n ns r h = ap (λ (t : Bool). either t r (left_at ns (r - n))) (lt-ltb r n h)

pub left_later : (n : ℕ) (ns : List ℕ) (r : ℕ) → n ≤ r → left_at (n ∷ ns) r ≡ left_at ns (r - n)
unfolding left_at
left_later n ns r h = ap (λ (t : Bool). either t r (left_at ns (r - n))) (le-ltb r n h)

pub left_here : (b : List ℕ) (i left : ℕ) → i < length b → left < get_or b i 0 → left_at (drop i b) left ≡ left
left_here b i left h l = ap (λ (x : List ℕ). left_at x left) (drop-cons b i 0 h) ∙ left-first (get_or b i 0) (drop (suc i) b) left l

pub left-next : (b : List ℕ) (i left : ℕ) → i < length b → get_or b i 0 ≤ left → left_at (drop i b) left ≡ left_at (drop (i + 1) b) (left - get_or b i 0)
left-next b i left h l =
    ap (λ (x : List ℕ). left_at x left) (drop-cons b i 0 h) ∙ left_later (get_or b i 0) (drop (suc i) b) left l
    ∙ ap (λ (x : ℕ). left_at (drop x b) (left - get_or b i 0)) (sym (add-one i))

pub left_end : (b : List ℕ) (i left : ℕ) → length b ≤ i → left_at (drop i b) left ≡ left
unfolding left_at
left_end b i left h = ap (λ (x : List ℕ). left_at x left) (drop_of_length-le b h)

-- a sum is the count exactly where its halves are the count's
pub halves : (low high t count : ℕ) → low + high * 2 ^ 32 ≡ t → eqb (high + low / 2 ^ 32) (count / 2 ^ 32) && eqb (low % 2 ^ 32) (count % 2 ^ 32) ≡ eqb t count
halves low high t count e = whole (eqb t count) refl
  where
    upper : t ≡ count → high + low / 2 ^ 32 ≡ count / 2 ^ 32
    upper s = omega arith

    lower : t ≡ count → low % 2 ^ 32 ≡ count % 2 ^ 32
    lower s = omega arith

    both : high + low / 2 ^ 32 ≡ count / 2 ^ 32 → low % 2 ^ 32 ≡ count % 2 ^ 32 → t ≡ count
    both u l = omega arith

    second : (b : Bool) → eqb (low % 2 ^ 32) (count % 2 ^ 32) ≡ b → high + low / 2 ^ 32 ≡ count / 2 ^ 32 → (t ≡ count → ⊥) → b ≡ false
    second true l u n = absurd (n (both u (eqb-true (low % 2 ^ 32) (count % 2 ^ 32) l)))
    second false l u n = refl

    first : (a : Bool) → eqb (high + low / 2 ^ 32) (count / 2 ^ 32) ≡ a → (t ≡ count → ⊥) → a && eqb (low % 2 ^ 32) (count % 2 ^ 32) ≡ false
    first true u n = second (eqb (low % 2 ^ 32) (count % 2 ^ 32)) refl (eqb-true (high + low / 2 ^ 32) (count / 2 ^ 32) u) n
    first false u n = refl

    whole : (b : Bool) → eqb t count ≡ b → eqb (high + low / 2 ^ 32) (count / 2 ^ 32) && eqb (low % 2 ^ 32) (count % 2 ^ 32) ≡ b
    whole true s = ap₂ ◌&&◌ (eq-eqb (high + low / 2 ^ 32) (count / 2 ^ 32) (upper (eqb-true t count s))) (eq-eqb (low % 2 ^ 32) (count % 2 ^ 32) (lower (eqb-true t count s)))
    whole false s = first (eqb (high + low / 2 ^ 32) (count / 2 ^ 32)) refl (eqb-false t count s)

pub total-none : 0 ≡ total []
unfolding total
total-none = refl

-- one bucket more in the sums of halves
pub halves_next : (i low high x : ℕ) → low ≤ i * 4294967295 → high ≤ i * 4294967295 → x < 2 ^ 64
    → (low + x % 2 ^ 32 + (high + x / 2 ^ 32) * 2 ^ 32 ≡ low + high * 2 ^ 32 + x) × (low + x % 2 ^ 32 ≤ (i + 1) * 4294967295) × (high + x / 2 ^ 32 ≤ (i + 1) * 4294967295)
halves_next i low high x a b h = (omega arith, omega arith, omega arith)
