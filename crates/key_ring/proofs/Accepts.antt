-- What an accepted key and an observation do to the keys, to the rows and to the slot of each reflector number. Any capacity N, any hashes below it.
-- Assumes nothing.
use Rattle.std.specs.Prelude.{None, Some, slice_get}
use mathlib.Core.Path.{◌≡◌, refl, sym, ap, ap₂, ◌∙◌}
use mathlib.Core.Bool.{true, false, ◌&&◌, cond}
use mathlib.Core.List.{List, [], ◌∷◌, ◌++◌}
use Prim.Native.Nat.{ℕ, zero, suc, ◌+◌, ◌-◌, ◌≤◌, ◌<◌}
use native.Mathlib.Omega.{arith}
use lib.Dec.{eqb, ltb}
use lib.ListN.{length, take, get_or, set}
use lib.Seq.{get_or-set_same, get_or-set_other, take_all}
use Rattle.call_types.specs.declared.ReplyKey.{ReplyKey}
use Rattle.chains.specs.declared.Ring.{Ring}
use Rattle.chains.specs.Rings.{wrap, contents, push_slot, after_push, RingFits}
use Rattle.chains.proofs.Tests.{Test, holds, fails, lt_test, lt_true, lt_false}
use Rattle.chains.proofs.Places.{Pushed, room, full, push_is, last-place, wrap-below, places_differ}
use Rattle.chains.proofs.Contents.{contents-same, length-contents, contents-oldest}
use Rattle.key_ring.specs.Keys.{key_at, key_row, same_key, first_is}
use Rattle.key_ring.specs.Rows.{no_slot, count_of, is_observed, lowered, Row, words_of, taken, slot_in, change, Counted, new_row}
use Rattle.key_ring.specs.Table.{Table, table_of, row_at, stored_at, newest_slot, newest_is, keys_of, rows_of, evicted_key, pushed_key, accepted_key, Sound}
use Rattle.key_ring.proofs.Holders.{lowered_keeps, change_all_but_oldest, evict_slot, evict-counted, accept_slot, accept-counted, observe_slot, observe-counted}
use Rattle.key_ring.proofs.Tables.{oldest_number, evict_rows, evict-ready, push_keys, push_rows, push_sound, key_here, words_here}

-- ---- the newest slot

-- a push's own slot is then the newest
newest-pushed : (N : ℕ) (ring : Ring) → RingFits N ring → newest_slot N (after_push N ring) ≡ push_slot N ring
newest-pushed N ring f = go (push_is N ring)
  where
    go : Pushed N ring → newest_slot N (after_push N ring) ≡ push_slot N ring
    go (room l s h n) =
        let last : suc ring.len - 1 ≡ ring.len = omega arith in
        rw (h, n, last, s)
    go (full l s h n) =
        let all : ring.len ≡ N = omega (arith, f.len_in) in
        rw (h, n, s, all) (last-place N ring.head f.head_in)

module _ (N : ℕ) (by_key : ReplyKey → ℕ) (by_number : ℕ → ℕ) (key_below : (k : ReplyKey) → by_key k < N) (number-below : (r : ℕ) → by_number r < N)
    (t : Table) (s : Sound N by_key by_number t) (k : ReplyKey) (fits : k.reflector < 4294967296) where
  abbrev after : Table
  after = accepted_key N by_key by_number t k

  pub accepted_sound : Sound N by_key by_number after
  unfolding accepted_key
  accepted_sound = push_sound N by_key by_number key_below number-below (evicted_key N by_key by_number t) (evict-ready N by_key by_number key_below number-below t s) k fits

  -- The last N keys are kept.
  pub accepted_keys : keys_of N after ≡ take N (k ∷ keys_of N t)
  unfolding accepted_key keys_of
  accepted_keys = push_keys N by_key by_number key_below number-below (evicted_key N by_key by_number t) (evict-ready N by_key by_number key_below number-below t s) k fits

  accepted_rows : rows_of N after ≡ take N (new_row k.reflector ∷ cond (ltb t.ring.len N) (rows_of N t) (change lowered (oldest_number N by_key by_number t s) (rows_of N t)))
  unfolding accepted_key
  accepted_rows =
      push_rows N by_key by_number key_below number-below (evicted_key N by_key by_number t) (evict-ready N by_key by_number key_below number-below t s) k fits
      ∙ ap (λ (l : List Row). take N (new_row k.reflector ∷ l)) (evict_rows N by_key by_number t s)

  -- the key stands in the newest slot, and its row is that of a key that was not observed
  pub accepted-newest : key_at after.keys (newest_slot N after.ring) ≡ k
  unfolding accepted_key pushed_key
  accepted-newest =
      ap (key_at (set t.keys (push_slot N t.ring) (key_row k))) (newest-pushed N t.ring s.ring_fits)
      ∙ key_here N by_key by_number key_below number-below (evicted_key N by_key by_number t) (evict-ready N by_key by_number key_below number-below t s) k fits

  pub accepted-unobserved : get_or after.slots (newest_slot N after.ring) [] ≡ no_slot
  unfolding accepted_key pushed_key
  accepted-unobserved =
      ap (λ (i : ℕ). get_or (set (evicted_key N by_key by_number t).slots (push_slot N t.ring) no_slot) i []) (newest-pushed N t.ring s.ring_fits)
      ∙ words_here N by_key by_number key_below number-below (evicted_key N by_key by_number t) (evict-ready N by_key by_number key_below number-below t s) k fits

  -- ---- rows

  -- there is room: no row changes
  accepted_room : t.ring.len < N → rows_of N after ≡ new_row k.reflector ∷ rows_of N t
  unfolding rows_of
  accepted_room l =
      accepted_rows
      ∙ rw (lt_true t.ring.len N l) (take_all N (new_row k.reflector ∷ rows_of N t) (omega (arith, length-contents N (row_at t.keys t.slots) t.ring.head t.ring.len)))

  -- the rows but the oldest
  abbrev younger : List Row
  younger = contents N (row_at t.keys t.slots) (wrap N (suc t.ring.head)) (N - 1)

  abbrev oldest_row : Row
  oldest_row = row_at t.keys t.slots t.ring.head

  rows_full : N ≤ t.ring.len → rows_of N t ≡ younger ++ (oldest_row ∷ [])
  unfolding rows_of
  rows_full l =
      let all : t.ring.len ≡ suc (N - 1) = omega (arith, s.ring_fits.head_in, s.ring_fits.len_in) in
      rw all (contents-oldest N (row_at t.keys t.slots) t.ring.head (N - 1) s.ring_fits.head_in (omega (arith, s.ring_fits.head_in)))

  -- the ring is full: the oldest goes, and the slot of its number falls
  accepted-full : N ≤ t.ring.len → rows_of N after ≡ new_row k.reflector ∷ change lowered oldest_row.number younger
  accepted-full l = accepted_rows ∙ rw (lt_false t.ring.len N l, rows_full l) (go N refl)
    where
      go : (M : ℕ) → N ≡ M → take M (new_row k.reflector ∷ change lowered oldest_row.number (younger ++ (oldest_row ∷ []))) ≡ new_row k.reflector ∷ change lowered oldest_row.number younger
      go zero e = absurd (omega (arith, s.ring_fits.head_in, e))
      go (suc M) e =
          let size : M ≡ length younger = omega (arith, e, length-contents N (row_at t.keys t.slots) (wrap N (suc t.ring.head)) (N - 1)) in
          ap (λ (l : List Row). new_row k.reflector ∷ l) (rw size (change_all_but_oldest lowered lowered_keeps oldest_row.number younger oldest_row))

  -- "Evicting an accepted key, observed or not, lowers by one the correlation slot of its reflector number, if there is one; at 0 the slot is free."
  pub accepted_slot : Counted (rows_of N t) → (r : ℕ)
      → slot_in (rows_of N after) r
      ≡ cond (ltb t.ring.len N) (slot_in (rows_of N t) r) (cond (eqb r (key_at t.keys t.ring.head).reflector) (taken (lowered (slot_in (rows_of N t) r))) (slot_in (rows_of N t) r))
  accepted_slot bd r = go (lt_test t.ring.len N)
    where
      go : Test (t.ring.len < N) (ltb t.ring.len N) → slot_in (rows_of N after) r
          ≡ cond (ltb t.ring.len N) (slot_in (rows_of N t) r) (cond (eqb r (key_at t.keys t.ring.head).reflector) (taken (lowered (slot_in (rows_of N t) r))) (slot_in (rows_of N t) r))
      go (holds l b) = rw (b, accepted_room l) (accept_slot k.reflector (rows_of N t) r)
      go (fails l b) =
          let m : N ≤ t.ring.len = omega arith in
          let bd' : Counted (younger ++ (oldest_row ∷ [])) = rw (rows_full m) at bd in
          rw (b, accepted-full m, rows_full m) (accept_slot k.reflector (change lowered oldest_row.number younger) r ∙ evict_slot younger oldest_row bd' r)

  pub accepted-counted : Counted (rows_of N t) → Counted (rows_of N after)
  accepted-counted bd = go (lt_test t.ring.len N)
    where
      go : Test (t.ring.len < N) (ltb t.ring.len N) → Counted (rows_of N after)
      go (holds l b) = rw (accepted_room l) (accept-counted k.reflector (rows_of N t) bd)
      go (fails l b) =
          let m : N ≤ t.ring.len = omega arith in
          let bd' : Counted (younger ++ (oldest_row ∷ [])) = rw (rows_full m) at bd in
          rw (accepted-full m) (accept-counted k.reflector (change lowered oldest_row.number younger) (evict-counted younger oldest_row bd'))

-- ---- the newest key is observed

module _ (N : ℕ) (by_key : ReplyKey → ℕ) (by_number : ℕ → ℕ) (t : Table) (s : Sound N by_key by_number t) where
  -- the newest slot's key is the first of the keys
  pub newest_is_lem : (k : ReplyKey) → newest_is N t.keys t.ring k ≡ first_is (keys_of N t) k
  unfolding keys_of contents
  newest_is_lem k = go t.ring.len
    where
      go : (n : ℕ) → (ltb 0 n && same_key k (key_at t.keys (wrap N (t.ring.head + (n - 1))))) ≡ first_is (contents N (key_at t.keys) t.ring.head n) k
      go zero = refl
      go (suc n) = let last : suc n - 1 ≡ n = omega arith in rw (lt_true 0 (suc n) (omega arith), last)

  module _ (words : List ℕ) (some_key : 0 < t.ring.len) where
    -- the rooms with these words in the newest key's own row
    abbrev observed : Table
    observed = table_of t.keys (stored_at N t.slots (newest_slot N t.ring) words) t.links t.ring

    abbrev newest_row : Row
    newest_row = row_at t.keys t.slots (newest_slot N t.ring)

    abbrev others : List Row
    others = contents N (row_at t.keys t.slots) t.ring.head (t.ring.len - 1)

    newest_in : newest_slot N t.ring < N
    newest_in = wrap-below N (t.ring.head + (t.ring.len - 1)) (omega (arith, s.ring_fits.head_in, s.ring_fits.len_in))

    pub rows_newest : rows_of N t ≡ newest_row ∷ others
    unfolding rows_of contents
    rows_newest =
        let all : t.ring.len ≡ suc (t.ring.len - 1) = omega arith in
        ap (λ (n : ℕ). contents N (row_at t.keys t.slots) t.ring.head n) all

    pub rows_observed : rows_of N observed ≡ record { number = newest_row.number; words = words } ∷ others
    unfolding rows_of contents
    rows_observed =
        let all : t.ring.len ≡ suc (t.ring.len - 1) = omega arith in
        rw (lt_true (newest_slot N t.ring) N newest_in)
        (ap (λ (n : ℕ). contents N (row_at t.keys (set t.slots (newest_slot N t.ring) words)) t.ring.head n) all
        ∙ ap₂ (λ (x : Row) (xs : List Row). x ∷ xs)
        (ap (λ (w : List ℕ). record { number = newest_row.number; words = w }) (get_or-set_same t.slots (newest_slot N t.ring) words [] (omega (arith, s.slots_fit.rows_are, newest_in))))
        (contents-same N (row_at t.keys t.slots) (row_at t.keys (set t.slots (newest_slot N t.ring) words)) t.ring.head (t.ring.len - 1)
        (λ i l. ap (λ (w : List ℕ). record { number = (key_at t.keys (wrap N (t.ring.head + i))).reflector; words = w })
        (get_or-set_other t.slots (newest_slot N t.ring) (wrap N (t.ring.head + i)) words []
        (places_differ N t.ring.head i (t.ring.len - 1) s.ring_fits.head_in l (omega (arith, s.ring_fits.len_in)))))))

    -- Its words are the slot of its reflector number, and every other slot stays.
    pub observed_slot : is_observed (get_or t.slots (newest_slot N t.ring) []) ≡ false → is_observed words ≡ true → (r : ℕ)
        → slot_in (rows_of N observed) r ≡ cond (eqb r newest_row.number) (taken words) (slot_in (rows_of N t) r)
    observed_slot new seen r = rw (rows_observed, rows_newest) (observe_slot newest_row words others new seen r)

    -- A count that rises by at most one is still bounded.
    pub observed-counted : is_observed (get_or t.slots (newest_slot N t.ring) []) ≡ false → is_observed words ≡ true
        → count_of words ≤ suc (count_of (words_of (rows_of N t) newest_row.number)) → Counted (rows_of N t) → Counted (rows_of N observed)
    observed-counted new seen less bd =
        let less' : count_of words ≤ suc (count_of (words_of (newest_row ∷ others) newest_row.number)) = rw rows_newest at less in
        let bd' : Counted (newest_row ∷ others) = rw rows_newest at bd in
        rw rows_observed (observe-counted newest_row words others new seen less' bd')

  -- ---- the oldest key

  -- the key that one more unique reply evicts: the oldest of the last N, where there are N
  pub oldest_is : cond (ltb t.ring.len N) None (Some (key_at t.keys t.ring.head)) ≡ slice_get (keys_of N t) (N - 1)
  unfolding keys_of
  oldest_is = go (lt_test t.ring.len N)
    where
      past : {A : Type 0} (xs : List A) (i : ℕ) → length xs ≤ i → slice_get xs i ≡ None
      past [] i h = refl
      past (x ∷ xs) zero h = absurd (omega arith)
      past (x ∷ xs) (suc i) h = past xs i (omega arith)

      last : {A : Type 0} (xs : List A) (x : A) → slice_get (xs ++ (x ∷ [])) (length xs) ≡ Some x
      last [] x = refl
      last (y ∷ xs) x = last xs x

      go : Test (t.ring.len < N) (ltb t.ring.len N)
          → cond (ltb t.ring.len N) None (Some (key_at t.keys t.ring.head)) ≡ slice_get (contents N (key_at t.keys) t.ring.head t.ring.len) (N - 1)
      go (holds l b) = rw b (sym (past (contents N (key_at t.keys) t.ring.head t.ring.len) (N - 1) (omega (arith, length-contents N (key_at t.keys) t.ring.head t.ring.len))))
      go (fails l b) =
          let all : t.ring.len ≡ suc (N - 1) = omega (arith, s.ring_fits.head_in, s.ring_fits.len_in) in
          let size : N - 1 ≡ length (contents N (key_at t.keys) (wrap N (suc t.ring.head)) (N - 1)) = sym (length-contents N (key_at t.keys) (wrap N (suc t.ring.head)) (N - 1)) in
          let shape : contents N (key_at t.keys) t.ring.head t.ring.len ≡ contents N (key_at t.keys) (wrap N (suc t.ring.head)) (N - 1) ++ (key_at t.keys t.ring.head ∷ []) =
          ap (λ (n : ℕ). contents N (key_at t.keys) t.ring.head n) all ∙ contents-oldest N (key_at t.keys) t.ring.head (N - 1) s.ring_fits.head_in (omega (arith, s.ring_fits.head_in)) in
          rw (b, shape)
          (sym (ap (λ (n : ℕ). slice_get (contents N (key_at t.keys) (wrap N (suc t.ring.head)) (N - 1) ++ (key_at t.keys t.ring.head ∷ [])) n) size
          ∙ last (contents N (key_at t.keys) (wrap N (suc t.ring.head)) (N - 1)) (key_at t.keys t.ring.head)))
