-- The sample of a rank is the one that counting finds: `at_rank` and `KeyOfRank` say the same.
-- Assumes nothing.
use Rattle.std.proofs.Common.{◌≡◌, ℕ, zero, suc, ◌+◌, ◌-◌, ◌<◌, ◌≤◌, Bool, true, false, ltb, leb, List, [], ◌∷◌, length, get_or, sym, refl, ap, ◌∙◌, ⊎_elim, suc-le-suc, le_trans, le_refl, le_of_suc-le-suc, not-suc-le-zero, zero-lt-suc, eq-or-lt_of_le, arith, le-leb, leb-false, leb-true}
use Rattle.exact_rank.specs.Rank.{choose, insert, sorted}
use Rattle.exact_rank.specs.Counting.{KeyOfRank}
use Rattle.sample_passes.specs.Counting.{one_if, below}
use Rattle.sample_passes.proofs.Counting.{one_below, none_below, one_if-most, below_grows, below_length, lt_or_le}

choose-length : (t : Bool) (x y : ℕ) (ys zs : List ℕ) → length zs ≡ suc (length ys)
    → length (choose t (x ∷ y ∷ ys) (y ∷ zs)) ≡ suc (suc (length ys))
unfolding choose
choose-length true x y ys zs e = refl
choose-length false x y ys zs e = ap suc e

module _ (key : ℕ → ℕ) where
  choose-below : (t : Bool) (k x y : ℕ) (ys zs : List ℕ) → below key k zs ≡ one_if (ltb (key x) k) + below key k ys
      → below key k (choose t (x ∷ y ∷ ys) (y ∷ zs)) ≡ one_if (ltb (key x) k) + (one_if (ltb (key y) k) + below key k ys)
  unfolding below choose
  choose-below true k x y ys zs e = refl
  choose-below false k x y ys zs e = omega (arith, e)

  below-insert : (k x : ℕ) (ys : List ℕ) → below key k (insert key x ys) ≡ one_if (ltb (key x) k) + below key k ys
  unfolding below insert
  below-insert k x [] = refl
  below-insert k x (y ∷ ys) = choose-below (leb (key x) (key y)) k x y ys (insert key x ys) (below-insert k x ys)

  pub below-sorted : (k : ℕ) (xs : List ℕ) → below key k (sorted key xs) ≡ below key k xs
  unfolding below sorted
  below-sorted k [] = refl
  below-sorted k (x ∷ xs) = omega (arith, below-insert k x (sorted key xs), below-sorted k xs)

  length-insert : (x : ℕ) (ys : List ℕ) → length (insert key x ys) ≡ suc (length ys)
  unfolding insert
  length-insert x [] = refl
  length-insert x (y ∷ ys) = choose-length (leb (key x) (key y)) x y ys (insert key x ys) (length-insert x ys)

  pub length-sorted : (xs : List ℕ) → length (sorted key xs) ≡ length xs
  unfolding sorted
  length-sorted [] = refl
  length-sorted (x ∷ xs) = length-insert x (sorted key xs) ∙ ap suc (length-sorted xs)

  -- every key is at least k
  data From (k : ℕ) : List ℕ → Type 0 where
    none : From k []
    more : {y : ℕ} {ys : List ℕ} → k ≤ key y → From k ys → From k (y ∷ ys)

  data Ordered : List ℕ → Type 0 where
    empty : Ordered []
    first : {x : ℕ} {xs : List ℕ} → From (key x) xs → Ordered xs → Ordered (x ∷ xs)

  from_lower : {j k : ℕ} {ys : List ℕ} → j ≤ k → From k ys → From j ys
  from_lower l none = none
  from_lower l (more h t) = more (le_trans l h) (from_lower l t)

  choose_from : (t : Bool) {k : ℕ} {xs ys : List ℕ} → From k xs → From k ys → From k (choose t xs ys)
  unfolding choose
  choose_from true a b = a
  choose_from false a b = b

  insert_from : {k : ℕ} (x : ℕ) (ys : List ℕ) → k ≤ key x → From k ys → From k (insert key x ys)
  unfolding insert
  insert_from x [] l none = more l none
  insert_from x (y ∷ ys) l (more h t) = choose_from (leb (key x) (key y)) (more l (more h t)) (more h (insert_from x ys l t))

  choose-ordered : (t : Bool) (x y : ℕ) (ys zs : List ℕ) → leb (key x) (key y) ≡ t → From (key y) ys → Ordered ys
      → (key y ≤ key x → From (key y) zs) → Ordered zs → Ordered (choose t (x ∷ y ∷ ys) (y ∷ zs))
  unfolding choose
  choose-ordered true x y ys zs e f o g p =
      let l : key x ≤ key y = leb-true (key x) (key y) e in first (more l (from_lower l f)) (first f o)
  choose-ordered false x y ys zs e f o g p = first (g (omega (arith, leb-false (key x) (key y) e))) p

  insert-ordered : (x : ℕ) (ys : List ℕ) → Ordered ys → Ordered (insert key x ys)
  unfolding insert
  insert-ordered x [] empty = first none empty
  insert-ordered x (y ∷ ys) (first f o) =
      choose-ordered (leb (key x) (key y)) x y ys (insert key x ys) refl f o (λ l. insert_from x ys l f) (insert-ordered x ys o)

  sorted-ordered : (xs : List ℕ) → Ordered (sorted key xs)
  unfolding sorted
  sorted-ordered [] = empty
  sorted-ordered (x ∷ xs) = insert-ordered x (sorted key xs) (sorted-ordered xs)

  from_at : {k : ℕ} {ys : List ℕ} → From k ys → (i : ℕ) → i < length ys → k ≤ key (get_or ys i 0)
  from_at none i l = absurd (not-suc-le-zero l)
  from_at (more h t) zero l = h
  from_at (more h t) (suc i) l = from_at t i (le_of_suc-le-suc l)

  from_none-below : {k : ℕ} {ys : List ℕ} → From k ys → below key k ys ≡ 0
  unfolding below
  from_none-below none = refl
  from_none-below {k} (more {y} h t) = omega (arith, none_below (key y) k h, from_none-below t)

  -- in a list in order, the key at a place is the key of that rank
  ordered_few : {xs : List ℕ} → Ordered xs → (r : ℕ) → r < length xs → below key (key (get_or xs r 0)) xs ≤ r
  unfolding below
  ordered_few empty r l = absurd (not-suc-le-zero l)
  ordered_few (first {x} f o) zero l = omega (arith, none_below (key x) (key x) (le_refl (key x)), from_none-below f)
  ordered_few (first {x} {xs} f o) (suc r) l =
      omega (arith, ordered_few o r (le_of_suc-le-suc l), one_if-most (ltb (key x) (key (get_or xs r 0))))

  ordered_enough : {xs : List ℕ} → Ordered xs → (r : ℕ) → r < length xs → r < below key (key (get_or xs r 0) + 1) xs
  unfolding below
  ordered_enough empty r l = absurd (not-suc-le-zero l)
  ordered_enough (first {x} f o) zero l = omega (arith, one_below (key x) (key x + 1) (omega arith))
  ordered_enough (first {x} {xs} f o) (suc r) l =
      omega (
        arith,
        ordered_enough o r (le_of_suc-le-suc l),
        one_below (key x) (key (get_or xs r 0) + 1) (omega (arith, from_at f r (le_of_suc-le-suc l))),
      )

  -- the sample that sorting shows at a rank is the one that counting finds
  pub sorted-is_counted : (xs : List ℕ) (rank : ℕ) → rank < length xs → KeyOfRank key xs rank (key (get_or (sorted key xs) rank 0))
  sorted-is_counted xs rank l =
      let w : ℕ = get_or (sorted key xs) rank 0 in
      let in_range_lem : rank < length (sorted key xs) = omega (arith, l, length-sorted xs) in
      record {
        few_below = omega (arith, ordered_few (sorted-ordered xs) rank in_range_lem, below-sorted (key w) xs);
        enough_through = omega (arith, ordered_enough (sorted-ordered xs) rank in_range_lem, below-sorted (key w + 1) xs);
      }

  not_higher : (xs : List ℕ) (rank j k : ℕ) → KeyOfRank key xs rank j → KeyOfRank key xs rank k → j < k → ⊥
  not_higher xs rank j k p q l =
      omega (arith, p.enough_through, q.few_below, below_grows key (j + 1) k (omega (arith, l)) xs)

  -- counting finds one key
  pub one_key : (xs : List ℕ) (rank j k : ℕ) → KeyOfRank key xs rank j → KeyOfRank key xs rank k → j ≡ k
  one_key xs rank j k p q =
      ⊎_elim (λ l. absurd (not_higher xs rank j k p q l)) (λ l. ⊎_elim (λ e. sym e) (λ m. absurd (not_higher xs rank k j q p m)) (eq-or-lt_of_le l)) (lt_or_le j k)

  -- samples in order are their own sorted list
  pub sorted-same : (xs : List ℕ) → ((i : ℕ) → suc i < length xs → key (get_or xs i 0) ≤ key (get_or xs (suc i) 0)) → sorted key xs ≡ xs
  unfolding sorted insert choose
  sorted-same [] h = refl
  sorted-same (x ∷ []) h = refl
  sorted-same (x ∷ y ∷ ys) h =
      rw (sorted-same (y ∷ ys) (λ i l. h (suc i) (suc-le-suc l)), le-leb (key x) (key y) (h zero (suc-le-suc (zero-lt-suc (length ys)))))

  -- every key is at most k
  data To (k : ℕ) : List ℕ → Type 0 where
    none : To k []
    more : {y : ℕ} {ys : List ℕ} → key y ≤ k → To k ys → To k (y ∷ ys)

  abbrev Falling : List ℕ → Type 0
  Falling xs = (i : ℕ) → suc i < length xs → key (get_or xs (suc i) 0) ≤ key (get_or xs i 0)

  to_higher : {j k : ℕ} {ys : List ℕ} → j ≤ k → To j ys → To k ys
  to_higher l none = none
  to_higher l (more h t) = more (le_trans h l) (to_higher l t)

  falling_to : (x : ℕ) (xs : List ℕ) → Falling (x ∷ xs) → To (key x) xs
  falling_to x [] h = none
  falling_to x (y ∷ ys) h =
      let l : key y ≤ key x = h zero (suc-le-suc (zero-lt-suc (length ys))) in
      more l (to_higher l (falling_to y ys (λ i m. h (suc i) (suc-le-suc m))))

  to_at : {k : ℕ} {ys : List ℕ} → To k ys → (i : ℕ) → i < length ys → key (get_or ys i 0) ≤ k
  to_at none i l = absurd (not-suc-le-zero l)
  to_at (more h t) zero l = h
  to_at (more h t) (suc i) l = to_at t i (le_of_suc-le-suc l)

  to_all_through : {k : ℕ} {ys : List ℕ} → To k ys → below key (k + 1) ys ≡ length ys
  unfolding below
  to_all_through none = refl
  to_all_through {k} (more {y} h t) = omega (arith, one_below (key y) (k + 1) (omega (arith, h)), to_all_through t)

  -- in a list that falls, the key at a place is the key of the rank counted from its end
  falling_few : (xs : List ℕ) → Falling xs → (j : ℕ) → j < length xs → below key (key (get_or xs j 0)) xs + j + 1 ≤ length xs
  unfolding below
  falling_few [] h j l = absurd (not-suc-le-zero l)
  falling_few (x ∷ xs) h zero l =
      omega (arith, none_below (key x) (key x) (le_refl (key x)), below_length key (key x) xs)
  falling_few (x ∷ xs) h (suc j) l =
      omega (
        arith,
        none_below (key x) (key (get_or xs j 0)) (to_at (falling_to x xs h) j (le_of_suc-le-suc l)),
        falling_few xs (λ i m. h (suc i) (suc-le-suc m)) j (le_of_suc-le-suc l),
      )

  falling_enough : (xs : List ℕ) → Falling xs → (j : ℕ) → j < length xs → length xs ≤ below key (key (get_or xs j 0) + 1) xs + j
  unfolding below
  falling_enough [] h j l = absurd (not-suc-le-zero l)
  falling_enough (x ∷ xs) h zero l =
      omega (arith, one_below (key x) (key x + 1) (omega arith), to_all_through (falling_to x xs h))
  falling_enough (x ∷ xs) h (suc j) l =
      omega (arith, falling_enough xs (λ i m. h (suc i) (suc-le-suc m)) j (le_of_suc-le-suc l))

  pub falling_is_counted : (xs : List ℕ) → Falling xs → (rank : ℕ) → rank < length xs
      → KeyOfRank key xs rank (key (get_or xs (length xs - 1 - rank) 0))
  falling_is_counted xs h rank l =
      let inside : length xs - 1 - rank < length xs = omega (arith, l) in
      record {
        few_below = omega (arith, l, falling_few xs h (length xs - 1 - rank) inside);
        enough_through = omega (arith, l, falling_enough xs h (length xs - 1 - rank) inside);
      }
