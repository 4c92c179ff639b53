-- The rooms hold what the plain lists say: a key is found exactly if it is among the last N accepted, the holder's words are the slot's, and an
-- accepted key, an observation and a change at a holder do to the lists what specs/Rows.antt says. Any capacity N, any hashes below it.
-- Assumes nothing.
use mathlib.Core.Path.{◌≡◌, refl, sym, ap, ◌∙◌}
use mathlib.Core.Bool.{Bool, true, false, ◌||◌, cond}
use mathlib.Core.Logic.{◌≢◌}
use mathlib.Core.List.{List, [], ◌∷◌}
use Prim.Native.Nat.{ℕ, suc, ◌-◌, ◌≤◌, ◌<◌}
use native.Mathlib.Omega.{arith}
use lib.Dec.{ltb}
use lib.ListN.{length, take, get_or, set, length-set}
use lib.Seq.{get_or-set_same, get_or-set_other}
use Rattle.call_types.specs.declared.ReplyKey.{ReplyKey}
use Rattle.chains.specs.Rings.{wrap, contents, push_slot, RingFits}
use Rattle.chains.specs.Links.{word_of, newest, older, linked, ended, Rows}
use Rattle.chains.specs.Walk.{newest_of, first_of}
use Rattle.chains.specs.Whole.{Indexed}
use Rattle.chains.proofs.Tests.{Test, holds, fails, lt_test, lt_true}
use Rattle.chains.proofs.Places.{push-below, push-fits}
use Rattle.chains.proofs.Contents.{push-contents}
use Rattle.chains.proofs.Chains.{Ready, indexed_ready}
use Rattle.chains.proofs.Lanes.{set_row, linked-fits, link-ready, other-newest, other-older}
use Rattle.chains.proofs.Ends.{ended-fits, ended_elsewhere, ended-newest, ended-older, ended_indexed}
use Rattle.chains.proofs.Scan.{walk_scans, scan_first, scan_change}
use Rattle.key_ring.specs.Keys.{key_of, key_at, key_row, same_key, has_key}
use Rattle.key_ring.specs.Rows.{no_slot, lowered, holds?, words_of, with, change, new_row}
use Rattle.key_ring.specs.Table.{Table, table_of, row_at, words_at, stored_at, keys_of, rows_of, find_in, holder_in, change_at, evicted_slots, ended_key, evicted_links, evicted_key, pushed_key, Sound}
use Rattle.key_ring.proofs.Packing.{key_of_row, same_key_lem}
use Rattle.key_ring.proofs.Holders.{holds-number}

-- ---- keys

-- a key is among the contents exactly if it is the first there that equals itself
has_first : (xs : List ReplyKey) (k : ReplyKey) → first_of (same_key k) (λ x. true) false xs ≡ has_key xs k
unfolding first_of has_key
has_first [] k = refl
has_first (x ∷ xs) k = go (same_key k x) (has_first xs k)
  where
    go : (b : Bool) → first_of (same_key k) (λ x. true) false xs ≡ has_key xs k → cond b true (first_of (same_key k) (λ x. true) false xs) ≡ (b || has_key xs k)
    go true e = refl
    go false e = e

test_is : (b : Bool) → cond b true false ≡ b
test_is true = refl
test_is false = refl

module _ (N : ℕ) (by_key : ReplyKey → ℕ) (by_number : ℕ → ℕ) (t : Table) (s : Sound N by_key by_number t) where
  find_scans : (k : ReplyKey) → find_in N by_key by_number t.keys t.links t.ring k ≡ newest_of N (λ p. same_key k (key_at t.keys p)) t.ring.head t.ring.len
  unfolding find_in
  find_scans k = walk_scans N _ t.ring.head _ _ _ (by_key k) t.ring.len s.ring_fits.head_in s.ring_fits.len_in (λ i e. ap by_key (sym (same_key_lem k _ e))) s.by_key

  -- A key is found exactly if it is among the keys.
  pub find_is : (k : ReplyKey) → ltb (find_in N by_key by_number t.keys t.links t.ring k) N ≡ has_key (keys_of N t) k
  unfolding keys_of
  find_is k =
      sym (test_is _)
      ∙ rw (find_scans k) (scan_first N (key_at t.keys) (same_key k) (λ x. true) false t.ring.head t.ring.len s.ring_fits.head_in s.ring_fits.len_in)
      ∙ has_first _ k

  -- ---- holders

  holder_scans : (r : ℕ) → holder_in N by_key by_number t.keys t.slots t.links t.ring r ≡ newest_of N (λ p. holds? r (row_at t.keys t.slots p)) t.ring.head t.ring.len
  unfolding holder_in
  holder_scans r = walk_scans N _ t.ring.head _ _ _ (by_number r) t.ring.len s.ring_fits.head_in s.ring_fits.len_in (λ i e. ap by_number (sym (holds-number r (row_at t.keys t.slots i) e))) s.by_number

  -- The words at the holder are those of the newest observed row.
  pub holder-words : (r : ℕ) → words_at N t.slots (holder_in N by_key by_number t.keys t.slots t.links t.ring r) ≡ words_of (rows_of N t) r
  unfolding rows_of
  holder-words r =
      rw (holder_scans r) (scan_first N (row_at t.keys t.slots) (holds? r) (λ x. x.words) no_slot t.ring.head t.ring.len s.ring_fits.head_in s.ring_fits.len_in)

  -- A change at the holder changes the newest observed row of that number, and no other.
  pub change_rows : (f : List ℕ → List ℕ) (r : ℕ)
      → rows_of N (table_of t.keys (change_at N by_key by_number f t.slots (holder_in N by_key by_number t.keys t.slots t.links t.ring r)) t.links t.ring) ≡ change f r (rows_of N t)
  unfolding rows_of
  change_rows f r = rw (holder_scans r) (go (newest_of N (λ p. holds? r (row_at t.keys t.slots p)) t.ring.head t.ring.len) refl)
    where
      stored : (p : ℕ) → p < N → row_at t.keys (stored_at N t.slots p (f (get_or t.slots p []))) p ≡ with f (row_at t.keys t.slots p)
      stored p l =
          rw (lt_true p N l)
          (ap (λ (w : List ℕ). record { number = (key_at t.keys p).reflector; words = w }) (get_or-set_same t.slots p (f (get_or t.slots p [])) [] (omega (arith, s.slots_fit.rows_are))))

      elsewhere : (p i : ℕ) → i ≢ p → row_at t.keys (stored_at N t.slots p (f (get_or t.slots p []))) i ≡ row_at t.keys t.slots i
      elsewhere p i ne = ap (λ (w : List ℕ). record { number = (key_at t.keys i).reflector; words = w }) (by (ltb p N))
        where
          by : (b : Bool) → get_or (cond b (set t.slots p (f (get_or t.slots p []))) t.slots) i [] ≡ get_or t.slots i []
          by true = get_or-set_other t.slots p i (f (get_or t.slots p [])) [] ne
          by false = refl

      go : (p : ℕ) → newest_of N (λ p. holds? r (row_at t.keys t.slots p)) t.ring.head t.ring.len ≡ p
          → contents N (row_at t.keys (stored_at N t.slots p (f (get_or t.slots p [])))) t.ring.head t.ring.len
          ≡ change f r (contents N (row_at t.keys t.slots) t.ring.head t.ring.len)
      go p e =
          scan_change N (row_at t.keys t.slots) (row_at t.keys (stored_at N t.slots p (f (get_or t.slots p [])))) (holds? r) (with f) t.ring.head t.ring.len
          s.ring_fits.head_in s.ring_fits.len_in (rw e (stored p)) (rw e (λ i l ne. elsewhere p i ne))

  -- other words of the right number keep the rooms sound
  pub store_sound : (p : ℕ) (words : List ℕ) → length words ≡ 3 → Sound N by_key by_number (table_of t.keys (stored_at N t.slots p words) t.links t.ring)
  store_sound p words e = record {
    ring_fits = s.ring_fits;
    keys_fit = s.keys_fit;
    slots_fit = go (lt_test p N);
    links_fit = s.links_fit;
    by_key = s.by_key;
    by_number = s.by_number;
  }
    where
      go : Test (p < N) (ltb p N) → Rows N 3 (stored_at N t.slots p words)
      go (holds l b) = rw b (set_row N 3 t.slots s.slots_fit p l words e)
      go (fails l b) = rw b s.slots_fit

  pub change_sound : (f : List ℕ → List ℕ) → ((words : List ℕ) → length words ≡ 3 → length (f words) ≡ 3) → (p : ℕ)
      → Sound N by_key by_number (table_of t.keys (change_at N by_key by_number f t.slots p) t.links t.ring)
  change_sound f keeps p = go (lt_test p N)
    where
      go : Test (p < N) (ltb p N) → Sound N by_key by_number (table_of t.keys (change_at N by_key by_number f t.slots p) t.links t.ring)
      go (holds l b) = store_sound p (f (get_or t.slots p [])) (keeps (get_or t.slots p []) (s.slots_fit.widths_are p l))
      go (fails l b) = rw b s

  -- ---- the oldest goes

  abbrev pub oldest_number : ℕ
  oldest_number = (key_at t.keys t.ring.head).reflector

  abbrev its_holder : ℕ
  its_holder = holder_in N by_key by_number t.keys t.slots t.links t.ring oldest_number

  pub evict_rows : rows_of N (evicted_key N by_key by_number t) ≡ cond (ltb t.ring.len N) (rows_of N t) (change lowered oldest_number (rows_of N t))
  unfolding evicted_slots rows_of
  evict_rows = go (ltb t.ring.len N)
    where
      go : (b : Bool) → rows_of N (table_of t.keys
          (cond b t.slots (change_at N by_key by_number lowered t.slots its_holder)) t.links t.ring)
          ≡ cond b (rows_of N t) (change lowered oldest_number (rows_of N t))
      go true = refl
      go false = change_rows lowered oldest_number

-- What a push starts from: the rooms fit, and both chains are whole but for the oldest key of a full ring, which leaves.
pub record ReadyTable (N : ℕ) (by_key : ReplyKey → ℕ) (by_number : ℕ → ℕ) (t : Table) : Type 0 where
  pub ring_fits : RingFits N t.ring
  pub keys_fit : Rows N 2 t.keys
  pub slots_fit : Rows N 3 t.slots
  pub links_fit : Rows N 8 t.links
  pub by_key_lem : Ready N (λ p. by_key (key_at t.keys p)) (newest 0 t.links) (older 0 t.links) t.ring
  pub by_number_lem : Ready N (λ p. by_number (key_at t.keys p).reflector) (newest 2 t.links) (older 2 t.links) t.ring

-- ---- the oldest leaves its chains

module _ (N : ℕ) (by_key : ReplyKey → ℕ) (by_number : ℕ → ℕ) (key_below : (k : ReplyKey) → by_key k < N) (number-below : (r : ℕ) → by_number r < N)
    (t : Table) (s : Sound N by_key by_number t) where
  abbrev oldest_key : ReplyKey
  oldest_key = key_at t.keys t.ring.head

  -- the links after the first chain, and after both
  abbrev ended_once : List (List ℕ)
  ended_once = ended N 0 t.links (by_key oldest_key) t.ring.head

  abbrev ended_twice : List (List ℕ)
  ended_twice = ended_key N by_key by_number t.links oldest_key t.ring.head

  once-fits : Rows N 8 ended_once
  once-fits = ended-fits N 0 t.links s.links_fit (by_key oldest_key) t.ring.head (key_below oldest_key)

  twice_fits : Rows N 8 ended_twice
  twice_fits = ended-fits N 2 ended_once once-fits (by_number oldest_key.reflector) t.ring.head (number-below oldest_key.reflector)

  -- the chains of the others are whole
  twice_by-key : N ≤ t.ring.len → Indexed N (λ p. by_key (key_at t.keys p)) (newest 0 ended_twice) (older 0 ended_twice) (wrap N (suc t.ring.head)) (N - 1)
  twice_by-key l =
      let all : t.ring.len ≡ suc (N - 1) = omega (arith, s.ring_fits.head_in, s.ring_fits.len_in) in
      rw (
        ended-newest N 2 ended_once once-fits (by_number oldest_key.reflector) t.ring.head (number-below oldest_key.reflector) 0 (λ e. omega (arith, e)),
        ended-older N 2 ended_once once-fits (by_number oldest_key.reflector) t.ring.head (number-below oldest_key.reflector) 0 (λ e. omega (arith, e)),
      )
      (ended_indexed N 0 t.links _ (by_key oldest_key) t.ring.head (N - 1) s.links_fit (key_below oldest_key) s.ring_fits.head_in (omega (arith, s.ring_fits.head_in)) (rw all at s.by_key))

  once-by_number : Indexed N (λ p. by_number (key_at t.keys p).reflector) (newest 2 ended_once) (older 2 ended_once) t.ring.head t.ring.len
  once-by_number =
      rw (
        ended-newest N 0 t.links s.links_fit (by_key oldest_key) t.ring.head (key_below oldest_key) 2 (λ e. omega (arith, e)),
        ended-older N 0 t.links s.links_fit (by_key oldest_key) t.ring.head (key_below oldest_key) 2 (λ e. omega (arith, e)),
      )
      s.by_number

  twice_by_number : N ≤ t.ring.len → Indexed N (λ p. by_number (key_at t.keys p).reflector) (newest 2 ended_twice) (older 2 ended_twice) (wrap N (suc t.ring.head)) (N - 1)
  twice_by_number l =
      let all : t.ring.len ≡ suc (N - 1) = omega (arith, s.ring_fits.head_in, s.ring_fits.len_in) in
      ended_indexed N 2 ended_once _ (by_number oldest_key.reflector) t.ring.head (N - 1) once-fits (number-below oldest_key.reflector) s.ring_fits.head_in (omega (arith, s.ring_fits.head_in))
      (rw all at once-by_number)

  slots_evicted : Rows N 3 (evicted_slots N by_key by_number t.keys t.slots t.links t.ring)
  unfolding evicted_slots
  slots_evicted = go (ltb t.ring.len N)
    where
      go : (b : Bool) → Rows N 3 (cond b t.slots (change_at N by_key by_number lowered t.slots (its_holder N by_key by_number t s)))
      go true = s.slots_fit
      go false = (change_sound N by_key by_number t s lowered (λ words e. length-set words 0 _ ∙ e) (its_holder N by_key by_number t s)).slots_fit

  pub evict-ready : ReadyTable N by_key by_number (evicted_key N by_key by_number t)
  unfolding evicted_links
  evict-ready = go (lt_test t.ring.len N)
    where
      go : Test (t.ring.len < N) (ltb t.ring.len N) → ReadyTable N by_key by_number (evicted_key N by_key by_number t)
      go (holds l b) = rw b (record {
        ring_fits = s.ring_fits;
        keys_fit = s.keys_fit;
        slots_fit = slots_evicted;
        links_fit = s.links_fit;
        by_key_lem = indexed_ready N _ _ _ t.ring s.ring_fits s.by_key;
        by_number_lem = indexed_ready N _ _ _ t.ring s.ring_fits s.by_number;
      })
      go (fails l b) = rw b (record {
        ring_fits = s.ring_fits;
        keys_fit = s.keys_fit;
        slots_fit = slots_evicted;
        links_fit = twice_fits;
        by_key_lem = record { with_room = λ m. absurd (l m); without-oldest = twice_by-key };
        by_number_lem = record { with_room = λ m. absurd (l m); without-oldest = twice_by_number };
      })

  -- the words of the other lanes stay
  pub evict_elsewhere : (i j : ℕ) → j ≢ 0 → j ≢ 2 → word_of (evicted_links N by_key by_number t.keys t.links t.ring) i j ≡ word_of t.links i j
  unfolding evicted_links
  evict_elsewhere i j a b = go (ltb t.ring.len N)
    where
      go : (f : Bool) → word_of (cond f t.links ended_twice) i j ≡ word_of t.links i j
      go true = refl
      go false =
          ended_elsewhere N 2 ended_once once-fits (by_number oldest_key.reflector) t.ring.head (number-below oldest_key.reflector) i j b
          ∙ ended_elsewhere N 0 t.links s.links_fit (by_key oldest_key) t.ring.head (key_below oldest_key) i j a

-- ---- a key is pushed, and accepted

module _ (N : ℕ) (by_key : ReplyKey → ℕ) (by_number : ℕ → ℕ) (key_below : (k : ReplyKey) → by_key k < N) (number-below : (r : ℕ) → by_number r < N)
    (t : Table) (s : ReadyTable N by_key by_number t) (k : ReplyKey) (fits : k.reflector < 4294967296) where
  here_in : push_slot N t.ring < N
  here_in = push-below N t.ring s.ring_fits

  -- the key and the row of each slot after the push
  pub key_here : key_at (set t.keys (push_slot N t.ring) (key_row k)) (push_slot N t.ring) ≡ k
  key_here = ap key_of (get_or-set_same t.keys (push_slot N t.ring) (key_row k) [] (omega (arith, s.keys_fit.rows_are, here_in))) ∙ key_of_row k fits

  key_there : (i : ℕ) → i ≢ push_slot N t.ring → key_at (set t.keys (push_slot N t.ring) (key_row k)) i ≡ key_at t.keys i
  key_there i ne = ap key_of (get_or-set_other t.keys (push_slot N t.ring) i (key_row k) [] ne)

  pub words_here : get_or (set t.slots (push_slot N t.ring) no_slot) (push_slot N t.ring) [] ≡ no_slot
  words_here = get_or-set_same t.slots (push_slot N t.ring) no_slot [] (omega (arith, s.slots_fit.rows_are, here_in))

  row_here : row_at (set t.keys (push_slot N t.ring) (key_row k)) (set t.slots (push_slot N t.ring) no_slot) (push_slot N t.ring) ≡ new_row k.reflector
  row_here = λ i. record { number = ap (λ (x : ReplyKey). x.reflector) key_here i; words = words_here i }

  row_there : (i : ℕ) → i ≢ push_slot N t.ring
      → row_at (set t.keys (push_slot N t.ring) (key_row k)) (set t.slots (push_slot N t.ring) no_slot) i ≡ row_at t.keys t.slots i
  row_there i ne = λ j. record { number = ap (λ (x : ReplyKey). x.reflector) (key_there i ne) j; words = get_or-set_other t.slots (push_slot N t.ring) i no_slot [] ne j }

  pub push_keys : keys_of N (pushed_key N by_key by_number t k) ≡ take N (k ∷ keys_of N t)
  unfolding keys_of pushed_key
  push_keys = push-contents N (key_at t.keys) _ t.ring k s.ring_fits key_here key_there

  pub push_rows : rows_of N (pushed_key N by_key by_number t k) ≡ take N (new_row k.reflector ∷ rows_of N t)
  unfolding rows_of pushed_key
  push_rows = push-contents N (row_at t.keys t.slots) _ t.ring (new_row k.reflector) s.ring_fits row_here row_there

  -- the links after the first of the two
  abbrev linked_once : List (List ℕ)
  linked_once = linked 0 t.links (by_key k) (push_slot N t.ring)

  pub push_sound : Sound N by_key by_number (pushed_key N by_key by_number t k)
  unfolding pushed_key
  push_sound = record {
    ring_fits = push-fits N t.ring s.ring_fits;
    keys_fit = set_row N 2 t.keys s.keys_fit (push_slot N t.ring) here_in (key_row k) refl;
    slots_fit = set_row N 3 t.slots s.slots_fit (push_slot N t.ring) here_in no_slot refl;
    links_fit = linked-fits N 2 _ once-linked (by_number k.reflector) (push_slot N t.ring) (omega arith) (number-below k.reflector) here_in;
    by_key =
        rw (
          other-newest N 2 linked_once once-linked (by_number k.reflector) (push_slot N t.ring) (omega arith) (number-below k.reflector) here_in 0 (λ e. omega (arith, e)) (λ e. omega (arith, e)),
          other-older N 2 linked_once once-linked (by_number k.reflector) (push_slot N t.ring) (omega arith) (number-below k.reflector) here_in 0 (λ e. omega (arith, e)) (λ e. omega (arith, e)),
        )
        (link-ready N 0 t.links t.ring _ _ (by_key k) s.links_fit (omega arith) (key_below k) s.ring_fits (ap by_key key_here) (λ i ne. ap by_key (key_there i ne)) s.by_key_lem);
    by_number = link-ready N 2 _ t.ring _ _ (by_number k.reflector) once-linked (omega arith) (number-below k.reflector) s.ring_fits
        (ap (λ (x : ReplyKey). by_number x.reflector) key_here) (λ i ne. ap (λ (x : ReplyKey). by_number x.reflector) (key_there i ne)) once-ready;
  }
    where
      once-linked : Rows N 8 linked_once
      once-linked = linked-fits N 0 t.links s.links_fit (by_key k) (push_slot N t.ring) (omega arith) (key_below k) here_in

      once-ready : Ready N (λ p. by_number (key_at t.keys p).reflector) (newest 2 linked_once) (older 2 linked_once) t.ring
      once-ready =
          rw (
            other-newest N 0 t.links s.links_fit (by_key k) (push_slot N t.ring) (omega arith) (key_below k) here_in 2 (λ e. omega (arith, e)) (λ e. omega (arith, e)),
            other-older N 0 t.links s.links_fit (by_key k) (push_slot N t.ring) (omega arith) (key_below k) here_in 2 (λ e. omega (arith, e)) (λ e. omega (arith, e)),
          )
          s.by_number_lem
