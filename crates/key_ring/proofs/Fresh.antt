-- From a ring that is empty, whatever its rooms hold: which keys are found, and that no count exceeds the observed keys of its number.
-- Assumes nothing.
use mathlib.Core.Path.{◌≡◌, refl, sym, ap, ◌∙◌}
use mathlib.Core.Bool.{true, false}
use mathlib.Core.List.{List, [], ◌∷◌}
use Prim.Native.Nat.{ℕ, zero, suc, ◌≤◌, ◌<◌}
use native.Mathlib.Omega.{arith}
use lib.Dec.{ltb}
use lib.ListN.{length, take, get_or}
use lib.Seq.{take-nil}
use Rattle.call_types.specs.declared.ReplyKey.{ReplyKey}
use Rattle.chains.specs.Rings.{contents}
use Rattle.chains.specs.Links.{Rows}
use Rattle.chains.specs.Hash.{number_hash}
use Rattle.chains.proofs.Chains.{empty_indexed}
use Rattle.chains.proofs.Contents.{length-contents}
use Rattle.chains.proofs.Hashes.{key_hash-below, number_hash-below}
use Rattle.key_ring.specs.Keys.{key_at, has_key, numbers_of}
use Rattle.key_ring.specs.Rows.{count_of, is_observed, words_of, Counted}
use Rattle.key_ring.specs.Table.{Table, table_of, row_at, stored_at, change_at, newest_slot, keys_of, rows_of, find_in, holder_in, accepted_key, accepted_all, Sound, hash_of, find}
use Rattle.key_ring.proofs.Holders.{change-counted, empty-counted, observed-at-most}
use Rattle.key_ring.proofs.Tables.{find_is, change_rows, store_sound, change_sound}
use Rattle.key_ring.proofs.Accepts.{accepted_sound, accepted_keys, accepted-counted, observed-counted}

-- every reflector number is one of 32 bits, as the type of a key says
pub data Typed : List ReplyKey → Type 0 where
  none : Typed []
  one : {k : ReplyKey} {ks : List ReplyKey} → k.reflector < 4294967296 → Typed ks → Typed (k ∷ ks)

-- what is taken is what is taken of the last N
take_cons_take : {A : Type 0} (n : ℕ) (x : A) (xs : List A) → take n (x ∷ take n xs) ≡ take n (x ∷ xs)
take_cons_take zero x xs = refl
take_cons_take {A} (suc n) x xs = ap (λ (l : List A). x ∷ l) (twice n xs)
  where
    twice : (m : ℕ) (ys : List A) → take m (take (suc m) ys) ≡ take m ys
    twice zero ys = refl
    twice (suc m) [] = refl
    twice (suc m) (y ∷ ys) = ap (λ (l : List A). y ∷ l) (twice m ys)

-- rooms of the right sizes with an empty ring are sound, whatever they hold
pub fresh_sound : (N : ℕ) (by_key : ReplyKey → ℕ) (by_number : ℕ → ℕ) (keys slots links : List (List ℕ)) (head : ℕ) → head < N
    → Rows N 2 keys → Rows N 3 slots → Rows N 8 links → Sound N by_key by_number (table_of keys slots links (record { head = head; len = 0 }))
fresh_sound N by_key by_number keys slots links head h a b c = record {
  ring_fits = record { head_in = h; len_in = omega arith };
  keys_fit = a;
  slots_fit = b;
  links_fit = c;
  by_key = empty_indexed N _ _ _ head;
  by_number = empty_indexed N _ _ _ head;
}

module _ (N : ℕ) (by_key : ReplyKey → ℕ) (by_number : ℕ → ℕ) (key_below : (k : ReplyKey) → by_key k < N) (number-below : (r : ℕ) → by_number r < N) where
  all_sound : (t : Table) (ks : List ReplyKey) → Sound N by_key by_number t → Typed ks → Sound N by_key by_number (accepted_all N by_key by_number t ks)
  unfolding accepted_all
  all_sound t [] s none = s
  all_sound t (k ∷ ks) s (one l w) = accepted_sound N by_key by_number key_below number-below (accepted_all N by_key by_number t ks) (all_sound t ks s w) k l

  all_keys : (t : Table) (ks : List ReplyKey) → Sound N by_key by_number t → t.ring.len ≡ 0 → Typed ks → keys_of N (accepted_all N by_key by_number t ks) ≡ take N ks
  unfolding accepted_all keys_of contents
  all_keys t [] s e none = rw e (sym (take-nil N))
  all_keys t (k ∷ ks) s e (one l w) =
      accepted_keys N by_key by_number key_below number-below (accepted_all N by_key by_number t ks) (all_sound t ks s w) k l
      ∙ rw (all_keys t ks s e w) (take_cons_take N k ks)

  -- A key is found exactly if it is among the last N that were accepted.
  pub last_found : (t : Table) (ks : List ReplyKey) (k : ReplyKey) → Sound N by_key by_number t → t.ring.len ≡ 0 → Typed ks
      → ltb (find_in N by_key by_number (accepted_all N by_key by_number t ks).keys (accepted_all N by_key by_number t ks).links (accepted_all N by_key by_number t ks).ring k) N ≡ has_key (take N ks) k
  last_found t ks k s e w =
      find_is N by_key by_number (accepted_all N by_key by_number t ks) (all_sound t ks s w) k ∙ ap (λ (l : List ReplyKey). has_key l k) (all_keys t ks s e w)

  -- ---- what accepted keys, observations and changes at holders reach from an empty ring

  pub data Reached : Table → Type 0 where
    fresh : (t : Table) → Sound N by_key by_number t → t.ring.len ≡ 0 → Reached t
    accepts : (t : Table) (k : ReplyKey) → k.reflector < 4294967296 → Reached t → Reached (accepted_key N by_key by_number t k)
    -- the newest key, which was not observed, is, and the count of its number is at most one more than it was
    observes : (t : Table) (words : List ℕ) → 0 < t.ring.len → length words ≡ 3 → is_observed (get_or t.slots (newest_slot N t.ring) []) ≡ false → is_observed words ≡ true
        → count_of words ≤ suc (count_of (words_of (rows_of N t) (key_at t.keys (newest_slot N t.ring)).reflector))
        → Reached t → Reached (table_of t.keys (stored_at N t.slots (newest_slot N t.ring) words) t.links t.ring)
    -- a change at a holder that raises no count
    changes : (t : Table) (f : List ℕ → List ℕ) (r : ℕ) → ((words : List ℕ) → length words ≡ 3 → length (f words) ≡ 3) → ((words : List ℕ) → is_observed (f words) ≡ is_observed words)
        → ((words : List ℕ) → count_of (f words) ≤ count_of words) → Reached t
        → Reached (table_of t.keys (change_at N by_key by_number f t.slots (holder_in N by_key by_number t.keys t.slots t.links t.ring r)) t.links t.ring)

  pub reached_sound : (t : Table) → Reached t → Sound N by_key by_number t
  reached_sound _ (fresh t s e) = s
  reached_sound _ (accepts t k l w) = accepted_sound N by_key by_number key_below number-below t (reached_sound t w) k l
  reached_sound _ (observes t words some size new seen less w) = store_sound N by_key by_number t (reached_sound t w) (newest_slot N t.ring) words size
  reached_sound _ (changes t f r size keeps less w) =
      change_sound N by_key by_number t (reached_sound t w) f size (holder_in N by_key by_number t.keys t.slots t.links t.ring r)

  -- No count exceeds the observed keys of its number: so where the holder itself is evicted, its count falls to 0.
  pub reached_counted : (t : Table) → Reached t → Counted (rows_of N t)
  unfolding rows_of contents
  reached_counted _ (fresh t s e) = rw e empty-counted
  reached_counted _ (accepts t k l w) = accepted-counted N by_key by_number key_below number-below t (reached_sound t w) k l (reached_counted t w)
  reached_counted _ (observes t words some size new seen less w) = observed-counted N by_key by_number t (reached_sound t w) words some new seen less (reached_counted t w)
  reached_counted _ (changes t f r size keeps less w) = rw (change_rows N by_key by_number t (reached_sound t w) f r) (change-counted f keeps less r (rows_of N t) (reached_counted t w))

  -- and none exceeds N
  pub reached_at-most : (t : Table) → Reached t → (r : ℕ) → count_of (words_of (rows_of N t) r) ≤ N
  unfolding rows_of
  reached_at-most t w r =
      let size : length (rows_of N t) ≡ t.ring.len = length-contents N (row_at t.keys t.slots) t.ring.head t.ring.len in
      omega (arith, reached_counted t w r, observed-at-most (rows_of N t) r, size, (reached_sound t w).ring_fits.len_in)

-- ---- at 4,096, with the hashes of the code

-- For any list of keys accepted into an empty ring over any rooms: found exactly if among the last 4,096.
pub found_exactly : (secret : List ℕ) (t : Table) (ks : List ReplyKey) (k : ReplyKey) → Sound 4096 (hash_of secret) (number_hash secret) t → t.ring.len ≡ 0 → Typed ks
    → ltb (find secret (accepted_all 4096 (hash_of secret) (number_hash secret) t ks).keys (accepted_all 4096 (hash_of secret) (number_hash secret) t ks).links
    (accepted_all 4096 (hash_of secret) (number_hash secret) t ks).ring k) 4096
    ≡ has_key (take 4096 ks) k
found_exactly secret t ks k s e w =
    last_found 4096 (hash_of secret) (number_hash secret) (λ x. key_hash-below secret (numbers_of x) x.t3) (number_hash-below secret) t ks k s e w
