-- Which words of the links a call leaves alone: the probes change lane 4 only, the keys lanes 0 and 2, whatever the rooms hold.
-- Assumes nothing.
use Rattle.std.specs.Prelude.{Option, None}
use Rattle.call_types.specs.declared.PendingPacket.{PendingPacket}
use mathlib.Core.Path.{◌≡◌, refl, ◌∙◌}
use mathlib.Core.Bool.{Bool, true, false, cond}
use mathlib.Core.Logic.{◌≢◌}
use mathlib.Core.List.{List, [], ◌∷◌, map}
use Prim.Native.Nat.{ℕ, zero, suc, ◌+◌, ◌-◌, ◌<◌}
use native.Mathlib.Omega.{arith}
use lib.Dec.{eqb, ltb}
use lib.ListN.{length, get_or, set, length-set, length-map}
use lib.Seq.{get_or-set_other}
use Rattle.call_types.specs.declared.ReplyKey.{ReplyKey}
use Rattle.chains.specs.Rings.{wrap, push_slot}
use Rattle.chains.specs.Links.{word_of, set_word, newest, older, linked, ended, Rows}
use Rattle.chains.specs.Walk.{place_of}
use Rattle.chains.specs.Whole.{Indexed}
use Rattle.probe_ring.specs.declared.HeldProbe.{HeldProbe}
use Rattle.probe_ring.specs.Row.{unanswered, packet_after}
use Rattle.probe_ring.specs.Rooms as probes
use Rattle.probe_ring.specs.Rooms.{Rooms, moved, move_link, mended_link, mend_row, mend_newest, closed_up, taken_out, pushed, remembered_at, remembered}
use Rattle.key_ring.specs.Keys.{key_at}
use Rattle.key_ring.specs.Table.{Table, ended_key, evicted_links, linked_key, pushed_key, accepted_key}
use Rattle.ledger_steps.specs.Accept.{readied, no_packet}

-- the sizes and the two words of a lane are as they were
pub record Untouched (lane : ℕ) (links links' : List (List ℕ)) : Type 0 where
  pub size : length links' ≡ length links
  pub widths : (i : ℕ) → length (get_or links' i []) ≡ length (get_or links i [])
  pub first : (i : ℕ) → word_of links' i lane ≡ word_of links i lane
  pub second : (i : ℕ) → word_of links' i (lane + 1) ≡ word_of links i (lane + 1)

-- ---- a word, whatever the rooms hold

width_set : (links : List (List ℕ)) (to k v i : ℕ) → length (get_or (set_word links to k v) i []) ≡ length (get_or links i [])
width_set [] to k v i = refl
width_set (x ∷ xs) zero k v zero = length-set x k v
width_set (x ∷ xs) zero k v (suc i) = refl
width_set (x ∷ xs) (suc to) k v zero = refl
width_set (x ∷ xs) (suc to) k v (suc i) = width_set xs to k v i

word_set : (links : List (List ℕ)) (to k v i j : ℕ) → j ≢ k → word_of (set_word links to k v) i j ≡ word_of links i j
word_set [] to k v i j ne = refl
word_set (x ∷ xs) zero k v zero j ne = get_or-set_other x k j v 0 ne
word_set (x ∷ xs) zero k v (suc i) j ne = refl
word_set (x ∷ xs) (suc to) k v zero j ne = refl
word_set (x ∷ xs) (suc to) k v (suc i) j ne = word_set xs to k v i j ne

width_mend : (mend : ℕ → ℕ) (links : List (List ℕ)) (i : ℕ) → length (get_or (map (mend_row mend) links) i []) ≡ length (get_or links i [])
width_mend mend [] i = refl
width_mend mend (x ∷ xs) zero = length-set x 4 (mend (get_or x 4 0))
width_mend mend (x ∷ xs) (suc i) = width_mend mend xs i

word_mend : (mend : ℕ → ℕ) (links : List (List ℕ)) (i j : ℕ) → j ≢ 4 → word_of (map (mend_row mend) links) i j ≡ word_of links i j
word_mend mend [] i j ne = refl
word_mend mend (x ∷ xs) zero j ne = get_or-set_other x 4 j (mend (get_or x 4 0)) 0 ne
word_mend mend (x ∷ xs) (suc i) j ne = word_mend mend xs i j ne

-- ---- a lane

module _ (lane : ℕ) where
  pub same : (links : List (List ℕ)) → Untouched lane links links
  same links = record { size = refl; widths = λ i. refl; first = λ i. refl; second = λ i. refl }

  pub then : (a b c : List (List ℕ)) → Untouched lane a b → Untouched lane b c → Untouched lane a c
  then a b c u v = record {
    size = v.size ∙ u.size;
    widths = λ i. v.widths i ∙ u.widths i;
    first = λ i. v.first i ∙ u.first i;
    second = λ i. v.second i ∙ u.second i;
  }

  pub set_elsewhere : (links : List (List ℕ)) (to k v : ℕ) → lane ≢ k → lane + 1 ≢ k → Untouched lane links (set_word links to k v)
  set_elsewhere links to k v a b = record {
    size = length-set links to (set (get_or links to []) k v);
    widths = width_set links to k v;
    first = λ i. word_set links to k v i lane a;
    second = λ i. word_set links to k v i (lane + 1) b;
  }

  -- a link in another lane
  pub link_elsewhere : (other : ℕ) (links : List (List ℕ)) (h p : ℕ) → lane ≢ other → lane ≢ other + 1 → lane + 1 ≢ other → Untouched lane links (linked other links h p)
  unfolding linked
  link_elsewhere other links h p a b c =
      then links (set_word links p (other + 1) (newest other links h)) (set_word (set_word links p (other + 1) (newest other links h)) h other p)
      (set_elsewhere links p (other + 1) (newest other links h) b (λ e. a (omega (arith, e))))
      (set_elsewhere (set_word links p (other + 1) (newest other links h)) h other p a c)

  -- the chains of the lane stay whole, and the rows stay rows
  pub still_rows : (n width : ℕ) (links links' : List (List ℕ)) → Untouched lane links links' → Rows n width links → Rows n width links'
  still_rows n width links links' u r = record { rows_are = u.size ∙ r.rows_are; widths_are = λ i l. u.widths i ∙ r.widths_are i l }

  pub still-whole : (N : ℕ) (hash : ℕ → ℕ) (head len : ℕ) (links links' : List (List ℕ)) → Untouched lane links links'
      → Indexed N hash (newest lane links) (older lane links) head len → Indexed N hash (newest lane links') (older lane links') head len
  still-whole N hash head len links links' u x = rw (first-same, second-same) x
    where
      first-same : newest lane links' ≡ newest lane links
      first-same = λ j i. u.first i j

      second-same : older lane links' ≡ older lane links
      second-same = λ j i. u.second i j

  -- ---- the probes

  module _ (a : lane ≢ 4) (b : lane ≢ 5) (c : lane + 1 ≢ 4) where
    other : lane + 1 ≢ 5
    other e = a (omega (arith, e))

    moved_elsewhere : (N : ℕ) (mend : ℕ → ℕ) (slot m : ℕ) (links : List (List ℕ)) → Untouched lane links (moved N (move_link mend) slot m links)
    unfolding moved
    moved_elsewhere N mend slot zero links = same links
    moved_elsewhere N mend slot (suc m) links =
        then links (move_link mend slot (wrap N (suc slot)) links) (moved N (move_link mend) (wrap N (suc slot)) m (move_link mend slot (wrap N (suc slot)) links))
        (set_elsewhere links slot 5 (mend (older 4 links (wrap N (suc slot)))) b other)
        (moved_elsewhere N mend (wrap N (suc slot)) m (move_link mend slot (wrap N (suc slot)) links))

    mended_elsewhere : (mend : ℕ → ℕ) (links : List (List ℕ)) → Untouched lane links (mend_newest mend links)
    unfolding mend_newest
    mended_elsewhere mend links = record {
      size = length-map links (mend_row mend);
      widths = width_mend mend links;
      first = λ i. word_mend mend links i lane a;
      second = λ i. word_mend mend links i (lane + 1) c;
    }

    closed_elsewhere : (N : ℕ) (mend : ℕ → ℕ) (r : Rooms) (slot m : ℕ) → Untouched lane r.links (closed_up N mend r slot m).links
    unfolding closed_up
    closed_elsewhere N mend r slot m =
        then r.links (mend_newest mend r.links) (moved N (move_link mend) slot m (mend_newest mend r.links))
        (mended_elsewhere mend r.links) (moved_elsewhere N mend slot m (mend_newest mend r.links))

    taken_elsewhere : (N : ℕ) (r : Rooms) (slot : ℕ) → Untouched lane r.links (taken_out N r slot).links
    unfolding taken_out
    taken_elsewhere N r slot =
        closed_elsewhere N (mended_link N (N - r.ring.head) (place_of N r.ring.head slot) (older 4 r.links slot)) r slot
        (r.ring.len - 1 - place_of N r.ring.head slot)

    module _ (N : ℕ) (hash : ℕ → ℕ) where
      pub pushed_elsewhere : (r : Rooms) (p : HeldProbe) → Untouched lane r.links (pushed N hash r p).links
      unfolding pushed
      pushed_elsewhere r p = link_elsewhere 4 r.links (hash p.sequence) (push_slot N r.ring) a b c

      pub remembered_elsewhere : (r : Rooms) (p : HeldProbe) → Untouched lane r.links (remembered N hash r p).links
      unfolding remembered remembered_at
      remembered_elsewhere r p = go (ltb (probes.slot_of N hash r p.sequence) N)
        where
          go : (t : Bool) → Untouched lane r.links (cond t (pushed N hash (taken_out N r (probes.slot_of N hash r p.sequence)) p) (pushed N hash r p)).links
          go true =
              then r.links (taken_out N r (probes.slot_of N hash r p.sequence)).links _ (taken_elsewhere N r (probes.slot_of N hash r p.sequence))
              (pushed_elsewhere (taken_out N r (probes.slot_of N hash r p.sequence)) p)
          go false = pushed_elsewhere r p

      pub readied_elsewhere : (by_key : ReplyKey → ℕ) (r : Rooms) (slot : ℕ) (k : ReplyKey) (p : Option PendingPacket) → Untouched lane r.links (readied N by_key hash r slot k p).links
      unfolding readied
      readied_elsewhere by_key r slot k p = go (ltb slot N)
        where
          go : (t : Bool) → Untouched lane r.links (cond t (probes.outcome r.rows r.links (record { ring = r.ring; slot = slot; evicted = false; lost = false })) (pushed N hash r (unanswered k.sender (packet_after p no_packet) None 0))).links
          go true = same r.links
          go false = pushed_elsewhere r (unanswered k.sender (packet_after p no_packet) None 0)

  -- ---- the keys

  -- a chain of another lane ends
  end_elsewhere : (N other : ℕ) (links : List (List ℕ)) (h p : ℕ) → lane ≢ other → lane + 1 ≢ other → Untouched lane links (ended N other links h p)
  unfolding ended
  end_elsewhere N other links h p a b = go (eqb (newest other links h) p)
    where
      go : (t : Bool) → Untouched lane links (cond t (set_word links h other N) links)
      go true = set_elsewhere links h other N a b
      go false = same links

  module _ (N : ℕ) (by_key : ReplyKey → ℕ) (by_number : ℕ → ℕ) (t : Table) (l : 3 < lane) where
    evicted_elsewhere : Untouched lane t.links (evicted_links N by_key by_number t.keys t.links t.ring)
    unfolding evicted_links
    evicted_elsewhere = go (ltb t.ring.len N)
      where
        oldest : ReplyKey
        oldest = key_at t.keys t.ring.head

        go : (f : Bool) → Untouched lane t.links (cond f t.links (ended_key N by_key by_number t.links (key_at t.keys t.ring.head) t.ring.head))
        go true = same t.links
        go false =
            then t.links (ended N 0 t.links (by_key oldest) t.ring.head) _
            (end_elsewhere N 0 t.links (by_key oldest) t.ring.head (λ e. omega (arith, e)) (λ e. omega (arith, e)))
            (end_elsewhere N 2 (ended N 0 t.links (by_key oldest) t.ring.head) (by_number oldest.reflector) t.ring.head (λ e. omega (arith, e)) (λ e. omega (arith, e)))

    linked_key_elsewhere : (links : List (List ℕ)) (k : ReplyKey) (p : ℕ) → Untouched lane links (linked_key N by_key by_number links k p)
    linked_key_elsewhere links k p =
        then links (linked 0 links (by_key k) p) _
        (link_elsewhere 0 links (by_key k) p (λ e. omega (arith, e)) (λ e. omega (arith, e)) (λ e. omega (arith, e)))
        (link_elsewhere 2 (linked 0 links (by_key k) p) (by_number k.reflector) p (λ e. omega (arith, e)) (λ e. omega (arith, e)) (λ e. omega (arith, e)))

  pub accepted_elsewhere : (N : ℕ) (by_key : ReplyKey → ℕ) (by_number : ℕ → ℕ) (t : Table) (k : ReplyKey) → 3 < lane → Untouched lane t.links (accepted_key N by_key by_number t k).links
  unfolding accepted_key pushed_key
  accepted_elsewhere N by_key by_number t k l =
      then t.links (evicted_links N by_key by_number t.keys t.links t.ring) _ (evicted_elsewhere N by_key by_number t l)
      (linked_key_elsewhere N by_key by_number t l (evicted_links N by_key by_number t.keys t.links t.ring) k (push_slot N t.ring))
