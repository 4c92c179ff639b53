-- The counts that samples are put into, by any place that a sample may have, and the room while they are. Assumes nothing.
use mathlib.Core.Path.{◌≡◌, refl, sym, ◌∙◌, ap, ap₂, subst}
use mathlib.Core.Bool.{Bool, false}
use mathlib.Core.List.{List, [], ◌∷◌, ◌++◌}
use Prim.Native.Nat.{ℕ, zero, suc, ◌+◌, ◌-◌, ◌/◌, ◌^◌, ◌≤◌, ◌<◌}
use native.Mathlib.Nat.{le_refl, le_trans, le_of_eq, min-le_left}
use native.Mathlib.Numerals.{add-one}
use native.Mathlib.Omega.{arith}
use lib.ListN.{length, get_or, take, drop, replicate, length-set, length-take, length-replicate, replicate-append-replicate}
use lib.Seq.{take-suc}
use Rattle.buckets.specs.Signed.{bucket_count, index_of}
use Rattle.histogram.specs.Histogram.{bumped}
use Rattle.quantile_room.specs.Room.{block_count, room_size, samples, buckets, totals, block_of, full_at}
use Rattle.quantiles.specs.Record.{tally, filled, filled_buckets, filled_totals}
use Rattle.quantile_room.proofs.Parts.{three_samples, three_buckets, three_totals, three_length, samples-length, joined_sample}
use Rattle.quantile_room.proofs.Places.{neither_full}

module _ (place : ℕ → ℕ) where
  -- one sample more
  tally_snoc : (xs : List ℕ) (x : ℕ) (b : List ℕ) → tally place (xs ++ (x ∷ [])) b ≡ bumped (tally place xs b) (place x)
  unfolding tally
  tally_snoc [] x b = refl
  tally_snoc (y ∷ ys) x b = tally_snoc ys x (bumped b (place y))

  tally-length : (xs b : List ℕ) → length (tally place xs b) ≡ length b
  unfolding tally
  tally-length [] b = refl
  tally-length (y ∷ ys) b = tally-length ys (bumped b (place y)) ∙ length-set b (place y) (get_or b (place y) 0 + 1)

-- a count has at most one sample more
bumped_le : (b : List ℕ) (j k : ℕ) → get_or (bumped b j) k 0 ≤ get_or b k 0 + 1
bumped_le [] j k = omega arith
bumped_le (x ∷ xs) zero zero = le_refl (x + 1)
bumped_le (x ∷ xs) zero (suc k) = omega arith
bumped_le (x ∷ xs) (suc j) zero = omega arith
bumped_le (x ∷ xs) (suc j) (suc k) = bumped_le xs j k

tally_le : (place : ℕ → ℕ) (xs b : List ℕ) (k : ℕ) → get_or (tally place xs b) k 0 ≤ get_or b k 0 + length xs
unfolding tally
tally_le place [] b k = omega arith
tally_le place (x ∷ xs) b k =
    sum (get_or (tally place xs (bumped b (place x))) k 0) (get_or (bumped b (place x)) k 0) (get_or b k 0) (length xs) (tally_le place xs (bumped b (place x)) k) (bumped_le b (place x) k)
  where
    sum : (t u b n : ℕ) → t ≤ u + n → u ≤ b + 1 → t ≤ b + suc n
    sum t u b n h l = omega arith

zeros : (n k : ℕ) → ◌≡◌ {A = ℕ} (get_or (replicate n 0) k 0) 0
zeros zero k = refl
zeros (suc n) zero = refl
zeros (suc n) (suc k) = zeros n k

module _ (place : ℕ → ℕ) (n : ℕ) where
  pub filled_none : filled place n [] ≡ replicate n 0
  unfolding filled tally
  filled_none = refl

  -- one sample more
  pub filled_snoc : (xs : List ℕ) (x : ℕ) → filled place n (xs ++ (x ∷ [])) ≡ bumped (filled place n xs) (place x)
  unfolding filled
  filled_snoc xs x = tally_snoc place xs x (replicate n 0)

  pub filled-length : (xs : List ℕ) → length (filled place n xs) ≡ n
  unfolding filled
  filled-length xs = tally-length place xs (replicate n 0) ∙ length-replicate n 0

  -- no count has more than there are samples
  pub filled_le : (xs : List ℕ) (k : ℕ) → get_or (filled place n xs) k 0 ≤ length xs
  unfolding filled
  filled_le xs k = plain (get_or (tally place xs (replicate n 0)) k 0) (get_or (replicate n 0) k 0) (tally_le place xs (replicate n 0) k) (zeros n k)
    where
      plain : (x z : ℕ) → x ≤ z + length xs → z ≡ 0 → x ≤ length xs
      plain x z l e = omega arith

  filled-take : (room : List ℕ) (i : ℕ) → i < length room → filled place n (take (i + 1) room) ≡ bumped (filled place n (take i room)) (place (get_or room i 0))
  filled-take room i h =
      ap (λ (k : ℕ). filled place n (take k room)) (add-one i) ∙ ap (filled place n) (take-suc room i 0 h) ∙ filled_snoc (take i room) (get_or room i 0)

-- a room with counts of the samples xs
abbrev pub holding : Bool → List ℕ → List ℕ → List ℕ
holding s room xs = take 4096 room ++ (filled_buckets s xs ++ filled_totals s xs)

-- the room when the counts have the first i samples
module _ (s : Bool) (room₀ room : List ℕ) (i : ℕ) (sized : length room₀ ≡ room_size s) (is : room ≡ holding s room₀ (take i room₀)) where
  within : 4096 + bucket_count s ≤ length room₀
  within = omega arith

  many : length (take 4096 room₀) ≡ 4096
  many = samples-length 4096 (bucket_count s) room₀ within

  wide : length (filled_buckets s (take i room₀)) ≡ bucket_count s
  wide = filled-length (index_of s) (bucket_count s) (take i room₀)

  pub filling_samples : samples room ≡ samples room₀
  filling_samples = ap (take 4096) is ∙ three_samples 4096 (bucket_count s) (take 4096 room₀) (filled_buckets s (take i room₀)) (filled_totals s (take i room₀)) many wide

  pub filling_buckets : buckets s room ≡ filled_buckets s (take i room₀)
  filling_buckets =
      ap (λ (l : List ℕ). take (bucket_count s) (drop 4096 l)) is ∙ three_buckets 4096 (bucket_count s) (take 4096 room₀) (filled_buckets s (take i room₀)) (filled_totals s (take i room₀)) many wide

  pub filling_totals : totals s room ≡ filled_totals s (take i room₀)
  filling_totals =
      ap (drop (4096 + bucket_count s)) is ∙ three_totals 4096 (bucket_count s) (take 4096 room₀) (filled_buckets s (take i room₀)) (filled_totals s (take i room₀)) many wide

  pub filling_length : length room ≡ room_size s
  filling_length =
      ap length is ∙ three_length 4096 (bucket_count s) (take 4096 room₀) (filled_buckets s (take i room₀)) (filled_totals s (take i room₀)) many wide
      ∙ ap (λ (n : ℕ). 4096 + bucket_count s + n) (filled-length (block_of s) (block_count s) (take i room₀))

  -- no count is full
  pub filling_small : (k : ℕ) → i ≤ 4096 → full_at s room k ≡ false
  filling_small k h =
      neither_full s room k
      (subst (λ (b : List ℕ). get_or b k 0 + 1 < 2 ^ 64) (sym filling_buckets) (small (get_or (filled_buckets s (take i room₀)) k 0) (length (take i room₀)) (filled_le (index_of s) (bucket_count s) (take i room₀) k) taken_le))
      (subst (λ (b : List ℕ). get_or b (k / 128) 0 + 1 < 2 ^ 64) (sym filling_totals) (small (get_or (filled_totals s (take i room₀)) (k / 128) 0) (length (take i room₀)) (filled_le (block_of s) (block_count s) (take i room₀) (k / 128)) taken_le))
    where
      small : (t n : ℕ) → t ≤ n → n ≤ i → t + 1 < 2 ^ 64
      small t n l m = omega arith

      taken_le : length (take i room₀) ≤ i
      taken_le = le_trans (le_of_eq (length-take i room₀)) (min-le_left i (length room₀))

  -- what `count_in` leaves
  pub filling_counted : (v place : ℕ) (next : List ℕ) → place ≡ index_of s v → next ≡ samples room ++ (bumped (buckets s room) place ++ bumped (totals s room) (place / 128))
      → next ≡ take 4096 room₀ ++ (bumped (filled_buckets s (take i room₀)) (index_of s v) ++ bumped (filled_totals s (take i room₀)) (block_of s v))
  filling_counted v place next p e =
      e ∙ ap (λ (k : ℕ). samples room ++ (bumped (buckets s room) k ++ bumped (totals s room) (k / 128))) p
      ∙ ap (λ (l : List ℕ). l ++ (bumped (buckets s room) (index_of s v) ++ bumped (totals s room) (block_of s v))) filling_samples
      ∙ ap₂ (λ (b t : List ℕ). take 4096 room₀ ++ (bumped b (index_of s v) ++ bumped t (block_of s v))) filling_buckets filling_totals

  -- one sample more
  pub filling_next : (place : ℕ) (next : List ℕ) → i < 4096 → place ≡ index_of s (get_or room i 0) → next ≡ samples room ++ (bumped (buckets s room) place ++ bumped (totals s room) (place / 128))
      → next ≡ holding s room₀ (take (i + 1) room₀)
  filling_next place next h p e =
      filling_counted (get_or room₀ i 0) place next (p ∙ ap (λ (x : ℕ). index_of s x) sample) e
      ∙ ap₂ (λ (b t : List ℕ). take 4096 room₀ ++ (b ++ t)) (sym (filled-take (index_of s) (bucket_count s) room₀ i (omega arith))) (sym (filled-take (block_of s) (block_count s) room₀ i (omega arith)))
    where
      sample : get_or room i 0 ≡ get_or room₀ i 0
      sample = ap (λ (l : List ℕ). get_or l i 0) is ∙ joined_sample 4096 (bucket_count s) room₀ within (filled_buckets s (take i room₀) ++ filled_totals s (take i room₀)) i h

-- the room when the counts are zeroed
pub filling_entry : (s : Bool) (entry room : List ℕ) → length entry ≡ room_size s → room ≡ take 4096 entry ++ replicate (length entry - 4096) 0 → room ≡ holding s entry (take 0 entry)
filling_entry s entry room h e =
    e ∙ ap (λ (n : ℕ). take 4096 entry ++ replicate n 0) (rest (length entry) (bucket_count s) (block_count s) h)
    ∙ ap (λ (l : List ℕ). take 4096 entry ++ l) (sym (replicate-append-replicate (bucket_count s) (block_count s) 0))
    ∙ ap₂ (λ (b t : List ℕ). take 4096 entry ++ (b ++ t)) (sym (filled_none (index_of s) (bucket_count s))) (sym (filled_none (block_of s) (block_count s)))
  where
    rest : (n m k : ℕ) → n ≡ 4096 + m + k → n - 4096 ≡ m + k
    rest n m k h = omega arith

pub filling_none : (s : Bool) (entry room : List ℕ) → length entry ≡ room_size s → room ≡ take 4096 entry ++ replicate (length entry - 4096) 0 → room ≡ holding s room (take 0 room)
filling_none s entry room h e =
    filling_entry s entry room h e
    ∙ ap (λ (l : List ℕ). l ++ (filled_buckets s [] ++ filled_totals s [])) (sym (filling_samples s entry room 0 h (filling_entry s entry room h e)))

-- and when all samples are in
pub filling_done : (s : Bool) (entry room₀ room : List ℕ) (i : ℕ) → i ≡ 4096 → take 4096 room₀ ≡ take 4096 entry → room ≡ holding s room₀ (take i room₀) → room ≡ holding s entry (take 4096 entry)
filling_done s entry room₀ room i h t e =
    e ∙ ap (λ (n : ℕ). holding s room₀ (take n room₀)) h ∙ ap (λ (l : List ℕ). l ++ (filled_buckets s l ++ filled_totals s l)) t
