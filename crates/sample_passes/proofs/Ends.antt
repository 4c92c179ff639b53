-- One sample more: where the keys from low to high begin and end, with the sample at i beside those before it.
-- Assumes nothing.
use Rattle.std.proofs.Common.{◌≡◌, ℕ, zero, suc, ◌+◌, ◌-◌, ◌%◌, ◌^◌, ◌<◌, ◌≤◌, ◌⊎◌, List, length, get_or, take, refl, ⊎_elim, add-zero, arith}
use Rattle.sample_passes.specs.Keys.{shifted}
use Rattle.sample_passes.specs.Counting.{below}
use Rattle.sample_passes.specs.Passes.{Least, Most, Nearer, Shorter}
use Rattle.sample_passes.proofs.Counting.{below_grows, below-take_lt, below-take_ge, below-take_grows, below-take_one, lt_or_le}

module _ (key : ℕ → ℕ) (xs : List ℕ) (low high : ℕ) where
  -- of no samples, the keys begin at high and end at low
  pub least-none : low ≤ high → Least key (take 0 xs) low high high
  unfolding below
  least-none l = record { from = l; to = omega arith; none_before = refl; met = λ m. absurd (omega (arith, m)) }

  pub most-none : low ≤ high → Most key (take 0 xs) low high low
  unfolding below
  most-none l = record { from = omega arith; to = l; none_after = refl; met = λ m. absurd (omega (arith, m)) }

  module _ (i : ℕ) (inside : i < length xs) where
    pub least_moves : (r x : ℕ) → Least key (take i xs) low high r → x ≡ key (get_or xs i 0) → low ≤ x → x < r
        → Least key (take (i + 1) xs) low high x
    least_moves r x h e l m =
        let ge : (k : ℕ) → k ≤ x → below key k (take (i + 1) xs) ≡ below key k (take i xs) =
        (λ k g. below-take_ge key k xs i inside (omega (arith, g, e)))
        in record {
          from = l;
          to = omega (arith, m, h.to);
          none_before =
              omega (
                arith,
                ge x (omega arith),
                ge low l,
                h.none_before,
                below_grows key low x l (take i xs),
                below_grows key x r (omega (arith, m)) (take i xs),
              );
          met = λ g.
              omega (
                arith,
                ge x (omega arith),
                below-take_lt key (x + 1) xs i inside (omega (arith, e)),
                below_grows key x (x + 1) (omega arith) (take i xs),
              );
        }

    pub least_stays_below : (r : ℕ) → Least key (take i xs) low high r → key (get_or xs i 0) < low
        → Least key (take (i + 1) xs) low high r
    least_stays_below r h l =
        let lt : (k : ℕ) → low ≤ k → below key k (take (i + 1) xs) ≡ below key k (take i xs) + 1 =
        (λ k g. below-take_lt key k xs i inside (omega (arith, l, g)))
        in record {
          from = h.from;
          to = h.to;
          none_before = omega (arith, lt r h.from, lt low (omega arith), h.none_before);
          met = λ g. omega (arith, lt r h.from, lt (r + 1) (omega (arith, h.from)), h.met g);
        }

    pub least_stays_above : (r : ℕ) → Least key (take i xs) low high r → r ≤ key (get_or xs i 0)
        → Least key (take (i + 1) xs) low high r
    least_stays_above r h l =
        let ge : (k : ℕ) → k ≤ r → below key k (take (i + 1) xs) ≡ below key k (take i xs) =
        (λ k g. below-take_ge key k xs i inside (omega (arith, l, g)))
        in record {
          from = h.from;
          to = h.to;
          none_before = omega (arith, ge r (omega arith), ge low h.from, h.none_before);
          met = λ g. omega (arith, ge r (omega arith), below-take_grows key (r + 1) xs i inside, h.met g);
        }

    pub most_moves : (r x : ℕ) → Most key (take i xs) low high r → x ≡ key (get_or xs i 0) → x ≤ high → r < x
        → Most key (take (i + 1) xs) low high x
    most_moves r x h e l m =
        let lt : (k : ℕ) → x < k → below key k (take (i + 1) xs) ≡ below key k (take i xs) + 1 =
        (λ k g. below-take_lt key k xs i inside (omega (arith, g, e)))
        in record {
          from = omega (arith, m, h.from);
          to = l;
          none_after =
              omega (
                arith,
                lt (x + 1) (omega arith),
                lt (high + 1) (omega (arith, l)),
                h.none_after,
                below_grows key (r + 1) (x + 1) (omega (arith, m)) (take i xs),
                below_grows key (x + 1) (high + 1) (omega (arith, l)) (take i xs),
              );
          met = λ g.
              omega (
                arith,
                lt (x + 1) (omega arith),
                below-take_ge key x xs i inside (omega (arith, e)),
                below_grows key x (x + 1) (omega arith) (take i xs),
              );
        }

    pub most_stays_above : (r : ℕ) → Most key (take i xs) low high r → high < key (get_or xs i 0)
        → Most key (take (i + 1) xs) low high r
    most_stays_above r h l =
        let ge : (k : ℕ) → k ≤ high + 1 → below key k (take (i + 1) xs) ≡ below key k (take i xs) =
        (λ k g. below-take_ge key k xs i inside (omega (arith, l, g)))
        in record {
          from = h.from;
          to = h.to;
          none_after = omega (arith, ge (r + 1) (omega (arith, h.to)), ge (high + 1) (omega arith), h.none_after);
          met = λ g. omega (arith, ge (r + 1) (omega (arith, h.to)), ge r (omega (arith, h.to)), h.met g);
        }

    pub most_stays_below : (r : ℕ) → Most key (take i xs) low high r → key (get_or xs i 0) ≤ r
        → Most key (take (i + 1) xs) low high r
    most_stays_below r h l =
        let lt : (k : ℕ) → r < k → below key k (take (i + 1) xs) ≡ below key k (take i xs) + 1 =
        (λ k g. below-take_lt key k xs i inside (omega (arith, l, g)))
        in record {
          from = h.from;
          to = h.to;
          none_after = omega (arith, lt (r + 1) (omega arith), lt (high + 1) (omega (arith, h.to)), h.none_after);
          met = λ g. omega (arith, lt (r + 1) (omega arith), below-take_one key r xs i inside, h.met g);
        }

-- one turn of the loops of `least` and `most`, whose distances go round at 2^64
module _ (bias : ℕ) (xs : List ℕ) (low high : ℕ) (ordered : low ≤ high) (word : high < 2 ^ 64) (i : ℕ) (inside : i < length xs) (d : ℕ) (small : d < 2 ^ 64) where
  pub least-nearer : (distance : ℕ) → distance ≤ high - low → (d + low) % 2 ^ 64 ≡ shifted bias (get_or xs i 0) → d < distance
      → Least (shifted bias) (take i xs) low high (low + distance) → Least (shifted bias) (take (i + 1) xs) low high (low + d)
  least-nearer distance near e l h =
      least_moves (shifted bias) xs low high i inside (low + distance) (low + d) h
      (omega (arith, e, near, l, ordered, word)) (omega arith) (omega (arith, l))

  pub least_not_nearer : (distance : ℕ) → distance ≤ high - low → (d + low) % 2 ^ 64 ≡ shifted bias (get_or xs i 0) → distance ≤ d
      → Least (shifted bias) (take i xs) low high (low + distance) → Least (shifted bias) (take (i + 1) xs) low high (low + distance)
  least_not_nearer distance near e l h =
      ⊎_elim
      (λ g. least_stays_above (shifted bias) xs low high i inside (low + distance) h (omega (arith, e, l, g)))
      (λ g. least_stays_below (shifted bias) xs low high i inside (low + distance) h (omega (arith, e, g, small, ordered, word)))
      (lt_or_le (d + low) (2 ^ 64))

  pub most-nearer : (distance : ℕ) → distance ≤ high - low → (d + shifted bias (get_or xs i 0)) % 2 ^ 64 ≡ high → d < distance
      → Most (shifted bias) (take i xs) low high (high - distance) → Most (shifted bias) (take (i + 1) xs) low high (high - d)
  most-nearer distance near e l h =
      most_moves (shifted bias) xs low high i inside (high - distance) (high - d) h
      (omega (arith, e, near, l, ordered, word)) (omega arith) (omega (arith, l, near))

  pub most_not_nearer : (distance : ℕ) → distance ≤ high - low → (d + shifted bias (get_or xs i 0)) % 2 ^ 64 ≡ high → distance ≤ d
      → Most (shifted bias) (take i xs) low high (high - distance) → Most (shifted bias) (take (i + 1) xs) low high (high - distance)
  most_not_nearer distance near e l h =
      ⊎_elim
      (λ g. most_stays_below (shifted bias) xs low high i inside (high - distance) h (omega (arith, e, l, g, near)))
      (λ g. most_stays_above (shifted bias) xs low high i inside (high - distance) h (omega (arith, e, g, small, ordered, word)))
      (lt_or_le (d + shifted bias (get_or xs i 0)) (2 ^ 64))

-- what `shorter` gives
abbrev Picked : ℕ → ℕ → ℕ → Type 0
Picked d distance r = (r ≤ distance) × (((r ≡ d) × (d < distance)) ⊎ ((r ≡ distance) × (distance ≤ d)))

module _ (bias : ℕ) (xs : List ℕ) (i : ℕ) (inside : i < length xs) (d distance r : ℕ) (small : d < 2 ^ 64) (picked : Picked d distance r) where
  pub nearer_one : (low : ℕ) → (d + low) % 2 ^ 64 ≡ shifted bias (get_or xs i 0) → Nearer (shifted bias) xs low i 1 distance r
  nearer_one low is = (
    picked.0,
    λ high ordered word near h.
        ⊎_elim
        (λ w. rw w.0 (least-nearer bias xs low high ordered word i inside d small distance near is w.1 h))
        (λ w. rw w.0 (least_not_nearer bias xs low high ordered word i inside d small distance near is w.1 h))
        picked.1,
  )

  pub shorter_one : (high : ℕ) → high < 2 ^ 64 → (d + shifted bias (get_or xs i 0)) % 2 ^ 64 ≡ high → Shorter (shifted bias) xs high i 1 distance r
  shorter_one high word is = (
    picked.0,
    λ low ordered near h.
        ⊎_elim
        (λ w. rw w.0 (most-nearer bias xs low high ordered word i inside d small distance near is w.1 h))
        (λ w. rw w.0 (most_not_nearer bias xs low high ordered word i inside d small distance near is w.1 h))
        picked.1,
  )

module _ (key : ℕ → ℕ) (xs : List ℕ) (i m n : ℕ) where
  further : i + (m + n) ≡ i + m + n
  further = omega arith

  pub nearer_on : (low a b c : ℕ) → Nearer key xs low i m a b → Nearer key xs low (i + m) n b c → Nearer key xs low i (m + n) a c
  nearer_on low a b c h g = (
    omega (arith, h.0, g.0),
    λ high ordered word near t. rw further (g.1 high ordered word (omega (arith, h.0, near)) (h.1 high ordered word near t)),
  )

  pub shorter_on : (high a b c : ℕ) → Shorter key xs high i m a b → Shorter key xs high (i + m) n b c → Shorter key xs high i (m + n) a c
  shorter_on high a b c h g = (
    omega (arith, h.0, g.0),
    λ low ordered near t. rw further (g.1 low ordered (omega (arith, h.0, near)) (h.1 low ordered near t)),
  )

-- a key that is low itself is where the keys begin, whatever samples follow; one that is high is where they end
module _ (key : ℕ → ℕ) (xs : List ℕ) (low high i : ℕ) where
  next : (n : ℕ) → i + suc n ≡ i + n + 1
  next n = omega arith

  pub least-at-low : (n : ℕ) → i + n ≤ length xs → Least key (take i xs) low high low → Least key (take (i + n) xs) low high low
  least-at-low zero l h = rw (add-zero i) h
  least-at-low (suc n) l h =
      let g : Least key (take (i + n) xs) low high low = least-at-low n (omega (arith, l)) h in
      rw (next n)
      (⊎_elim
      (λ z. least_stays_below key xs low high (i + n) (omega (arith, l)) low g z)
      (λ z. least_stays_above key xs low high (i + n) (omega (arith, l)) low g z)
      (lt_or_le (key (get_or xs (i + n) 0)) low))

  pub most-at-high : (n : ℕ) → i + n ≤ length xs → Most key (take i xs) low high high → Most key (take (i + n) xs) low high high
  most-at-high zero l h = rw (add-zero i) h
  most-at-high (suc n) l h =
      let g : Most key (take (i + n) xs) low high high = most-at-high n (omega (arith, l)) h in
      rw (next n)
      (⊎_elim
      (λ z. most_stays_above key xs low high (i + n) (omega (arith, l)) high g z)
      (λ z. most_stays_below key xs low high (i + n) (omega (arith, l)) high g z)
      (lt_or_le high (key (get_or xs (i + n) 0))))
