-- The parts of a room, lent on and back, and written: laws of lists. Assumes nothing.
use mathlib.Core.Path.{◌≡◌, refl, sym, ◌∙◌, ap, ap₂, subst}
use mathlib.Core.List.{List, [], ◌∷◌, ◌++◌, append-nil}
use Prim.Native.Nat.{ℕ, suc, ◌+◌, ◌-◌, ◌≤◌, ◌<◌}
use native.Mathlib.Nat.{le_of_eq, le_refl, add_assoc}
use native.Mathlib.Omega.{arith}
use lib.ListN.{length, get_or, set, take, drop, length-drop, length-set, drop_of_length-le, length-append, take-append-drop, get_or-append}
use lib.Seq.{take_all, take_at, drop_at, drop-drop, length-take-le, get_or-take, get_or-drop, set-append_left}
use borrow.Rule.Slice.PartMut.{put_mid}
use Rattle.histogram.specs.Histogram.{bumped}

-- all that lies from a on
pub whole_part : (a : ℕ) (xs : List ℕ) → take (length xs - a) (drop a xs) ≡ drop a xs
whole_part a xs = take_all (length xs - a) (drop a xs) (le_of_eq (length-drop a xs))

-- put back with other words
pub part-back : (a : ℕ) (xs ys : List ℕ) → put_mid a (length xs - a) xs ys ≡ take a xs ++ ys
part-back a xs ys =
    ap (λ (zs : List ℕ). take a xs ++ (ys ++ zs)) (drop_of_length-le (drop a xs) (le_of_eq (length-drop a xs)))
    ∙ ap (λ (zs : List ℕ). take a xs ++ zs) (append-nil ys)

-- a write behind a list
set-behind : (xs ys : List ℕ) (i x : ℕ) → set (xs ++ ys) (length xs + i) x ≡ xs ++ set ys i x
set-behind [] ys i x = ap (λ (k : ℕ). set ys k x) (none i)
  where
    none : (i : ℕ) → 0 + i ≡ i
    none i = omega arith
set-behind (w ∷ xs) ys i x = ap (λ (k : ℕ). set (w ∷ xs ++ ys) k x) (more (length xs) i) ∙ ap (λ (l : List ℕ). w ∷ l) (set-behind xs ys i x)
  where
    more : (n i : ℕ) → suc n + i ≡ suc (n + i)
    more n i = omega arith

set_after : (xs ys : List ℕ) (a i x : ℕ) → length xs ≡ a → set (xs ++ ys) (a + i) x ≡ xs ++ set ys i x
set_after xs ys a i x e = ap (λ (k : ℕ). set (xs ++ ys) (k + i) x) (sym e) ∙ set-behind xs ys i x

-- a room of given samples, buckets and totals has them in their places
module _ (a n : ℕ) (xs ys zs : List ℕ) (many : length xs ≡ a) (wide : length ys ≡ n) where
  pub three_samples : take a (xs ++ (ys ++ zs)) ≡ xs
  three_samples = take_at xs (ys ++ zs) a many

  pub three_buckets : take n (drop a (xs ++ (ys ++ zs))) ≡ ys
  three_buckets = ap (take n) (drop_at xs (ys ++ zs) a many) ∙ take_at ys zs n wide

  pub three_totals : drop (a + n) (xs ++ (ys ++ zs)) ≡ zs
  three_totals = sym (drop-drop n a (xs ++ (ys ++ zs))) ∙ ap (drop n) (drop_at xs (ys ++ zs) a many) ∙ drop_at ys zs n wide

  pub three_length : length (xs ++ (ys ++ zs)) ≡ a + n + length zs
  three_length =
      length-append xs (ys ++ zs) ∙ ap₂ (λ (x y : ℕ). x + y) many (length-append ys zs ∙ ap (λ (y : ℕ). y + length zs) wide) ∙ sym (add_assoc a n (length zs))

  three_set_bucket : (i x : ℕ) → i < n → set (xs ++ (ys ++ zs)) (a + i) x ≡ xs ++ (set ys i x ++ zs)
  three_set_bucket i x h =
      set_after xs (ys ++ zs) a i x many ∙ ap (λ (l : List ℕ). xs ++ l) (set-append_left ys zs i x (subst (λ (m : ℕ). i < m) (sym wide) h))

  three_set-total : (j y : ℕ) → set (xs ++ (ys ++ zs)) (a + n + j) y ≡ xs ++ (ys ++ set zs j y)
  three_set-total j y =
      ap (λ (k : ℕ). set (xs ++ (ys ++ zs)) k y) (add_assoc a n j) ∙ set_after xs (ys ++ zs) a (n + j) y many
      ∙ ap (λ (l : List ℕ). xs ++ l) (set_after ys zs n j y wide)

-- every room is its parts
three_parts : (a n : ℕ) (room : List ℕ) → room ≡ take a room ++ (take n (drop a room) ++ drop (a + n) room)
three_parts a n room =
    sym
    (ap (λ (l : List ℕ). take a room ++ (take n (drop a room) ++ l)) (sym (drop-drop n a room)) ∙ ap (λ (l : List ℕ). take a room ++ l) (take-append-drop n (drop a room))
    ∙ take-append-drop a room)

module _ (a n : ℕ) (room : List ℕ) (fits : a + n ≤ length room) where
  pub samples-length : length (take a room) ≡ a
  samples-length = length-take-le a room (omega arith)

  pub buckets-length : length (take n (drop a room)) ≡ n
  buckets-length = length-take-le n (drop a room) (omega (arith, length-drop a room))

  -- the words of a bucket and of a total
  pub bucket_word : (i : ℕ) → i < n → get_or (take n (drop a room)) i 0 ≡ get_or room (a + i) 0
  bucket_word i h = get_or-take n (drop a room) i 0 h ∙ get_or-drop a room i 0

  pub total-word : (j : ℕ) → get_or (drop (a + n) room) j 0 ≡ get_or room (a + n + j) 0
  total-word j = get_or-drop (a + n) room j 0

  written : (i j x y : ℕ) → i < n → set (set room (a + i) x) (a + n + j) y ≡ take a room ++ (set (take n (drop a room)) i x ++ set (drop (a + n) room) j y)
  written i j x y h =
      ap (λ (l : List ℕ). set (set l (a + i) x) (a + n + j) y) (three_parts a n room)
      ∙ ap (λ (l : List ℕ). set l (a + n + j) y) (three_set_bucket a n (take a room) (take n (drop a room)) (drop (a + n) room) samples-length buckets-length i x h)
      ∙ three_set-total a n (take a room) (set (take n (drop a room)) i x) (drop (a + n) room) samples-length (length-set (take n (drop a room)) i x ∙ buckets-length) j y

  -- one more in a bucket and in a total
  pub counted_in : (start i j : ℕ) → start ≡ a + n → i < n
      → set (set room (a + i) (get_or room (a + i) 0 + 1)) (start + j) (get_or room (start + j) 0 + 1) ≡ take a room ++ (bumped (take n (drop a room)) i ++ bumped (drop (a + n) room) j)
  counted_in start i j e h =
      ap (λ (k : ℕ). set (set room (a + i) (get_or room (a + i) 0 + 1)) (k + j) (get_or room (k + j) 0 + 1)) e
      ∙ written i j (get_or room (a + i) 0 + 1) (get_or room (a + n + j) 0 + 1) h
      ∙ ap₂ (λ (x y : ℕ). take a room ++ (set (take n (drop a room)) i (x + 1) ++ set (drop (a + n) room) j (y + 1))) (sym (bucket_word i h)) (sym (total-word j))

  -- a sample behind other words
  pub joined_sample : (ys : List ℕ) (i : ℕ) → i < a → get_or (take a room ++ ys) i 0 ≡ get_or room i 0
  joined_sample ys i h =
      get_or-append (take a room) ys 0 i (subst (λ (m : ℕ). i < m) (sym samples-length) h) ∙ get_or-take a room i 0 h
