-- The lanes of the links do not meet: 0 to 3 are the keys', 4 and 5 the probes', 6 and 7 the offsets'. What changes one leaves the others whole.
-- Assumes nothing.
use Rattle.std.specs.Prelude.{Option, Some, None}
use Rattle.call_types.specs.declared.CounterPoint.{CounterPoint}
use mathlib.Core.Path.{◌≡◌, refl, ◌∙◌}
use mathlib.Core.List.{List}
use Prim.Native.Nat.{ℕ, ◌+◌, ◌<◌}
use native.Mathlib.Omega.{arith}
use lib.Dec.{ltb}
use Rattle.chains.specs.declared.Ring.{Ring}
use Rattle.chains.specs.Rings.{push_slot}
use Rattle.chains.specs.Links.{word_of, newest, older, linked, Rows}
use Rattle.chains.specs.Whole.{Indexed}
use Rattle.chains.proofs.Tests.{Test, holds, fails, lt_test}
use Rattle.chains.proofs.Places.{push-below}
use Rattle.chains.proofs.Lanes.{linked-fits, linked_elsewhere}
use Rattle.call_types.specs.declared.ReplyKey.{ReplyKey}
use Rattle.call_types.specs.declared.ReplyObservation.{ReplyObservation}
use Rattle.direct.specs.declared.Direct.{Direct}
use Rattle.direct.specs.declared.Offsets.{Offsets}
use Rattle.direct.specs.declared.Offsets.TheVariants.{Kept, Begun, Added, Cleared}
use Rattle.direct.specs.Outcomes.{recorded, sought_in, seen_in}
use Rattle.offset_set.specs.Offsets.{OffsetSet, offset_set, added, contains}
use Rattle.key_ring.specs.Table as key_ring
use Rattle.key_ring.specs.Table.{Table, table_of, evicted_links, accepted_key, pushed_key, keys_of}
use Rattle.key_ring.proofs.Tables.{evict-ready, evict_elsewhere}
use Rattle.probe_ring.specs.Rooms as probe_ring
use Rattle.probe_ring.specs.Rooms.{rooms}
use Rattle.probe_ring.proofs.Laws as probe_laws
use Rattle.ledger_steps.specs.Observe.{offsets_after, direct_by, direct_in}

-- the chains of a lane whose words stay
indexed_stays : (N lane : ℕ) (links links' : List (List ℕ)) (hash : ℕ → ℕ) (head len : ℕ)
    → ((i : ℕ) → word_of links' i lane ≡ word_of links i lane) → ((i : ℕ) → word_of links' i (lane + 1) ≡ word_of links i (lane + 1))
    → Indexed N hash (newest lane links) (older lane links) head len → Indexed N hash (newest lane links') (older lane links') head len
indexed_stays N lane links links' hash head len a b x = rw (first-same, next-same) x
  where
    first-same : newest lane links' ≡ newest lane links
    first-same = λ j i. a i j

    next-same : older lane links' ≡ older lane links
    next-same = λ j i. b i j

-- ---- the keys' lanes stay

pub keys_stay : (N : ℕ) (by_key : ReplyKey → ℕ) (by_number : ℕ → ℕ) (keys slots links links' : List (List ℕ)) (ring : Ring) → Rows N 8 links'
    → ((i j : ℕ) → j < 4 → word_of links' i j ≡ word_of links i j) → key_ring.Sound N by_key by_number (table_of keys slots links ring)
    → key_ring.Sound N by_key by_number (table_of keys slots links' ring)
keys_stay N by_key by_number keys slots links links' ring fit same s = record {
  ring_fits = s.ring_fits;
  keys_fit = s.keys_fit;
  slots_fit = s.slots_fit;
  links_fit = fit;
  by_key = indexed_stays N 0 links links' _ ring.head ring.len (λ i. same i 0 (omega arith)) (λ i. same i 1 (omega arith)) s.by_key;
  by_number = indexed_stays N 2 links links' _ ring.head ring.len (λ i. same i 2 (omega arith)) (λ i. same i 3 (omega arith)) s.by_number;
}

-- the keys are those of the rooms of the keys alone
pub keys_alike : (N : ℕ) (keys slots slots' links links' : List (List ℕ)) (ring : Ring) → keys_of N (table_of keys slots' links' ring) ≡ keys_of N (table_of keys slots links ring)
unfolding keys_of
keys_alike N keys slots slots' links links' ring = refl

-- ---- the probes' lane stays

pub probes_stay : (N : ℕ) (hash : ℕ → ℕ) (rows links links' : List (List ℕ)) (ring : Ring) → Rows N 8 links'
    → ((i : ℕ) → word_of links' i 4 ≡ word_of links i 4) → ((i : ℕ) → word_of links' i 5 ≡ word_of links i 5)
    → probe_laws.Sound N hash (rooms rows links ring) → probe_laws.Sound N hash (rooms rows links' ring)
unfolding probe_ring.held
probes_stay N hash rows links links' ring fit a b s = record {
  hashes = s.hashes;
  rows_fit = s.rows_fit;
  links_fit = fit;
  ring_fits = s.ring_fits;
  chained = indexed_stays N 4 links links' _ ring.head ring.len a b s.chained;
  distinct = s.distinct;
}

-- the probes are those of their rows alone
pub probes_alike : (N : ℕ) (rows links links' : List (List ℕ)) (ring : Ring) → probe_ring.held N (rooms rows links' ring) ≡ probe_ring.held N (rooms rows links ring)
unfolding probe_ring.held
probes_alike N rows links links' ring = refl

-- ---- an accepted key changes only the keys' lanes

module _ (N : ℕ) (by_key : ReplyKey → ℕ) (by_number : ℕ → ℕ) (key_below : (k : ReplyKey) → by_key k < N) (number-below : (r : ℕ) → by_number r < N)
    (t : Table) (s : key_ring.Sound N by_key by_number t) (k : ReplyKey) where
  here_in : push_slot N t.ring < N
  here_in = push-below N t.ring s.ring_fits

  -- the links without the oldest key, and after the first of the new key's two chains
  abbrev fewer : List (List ℕ)
  fewer = evicted_links N by_key by_number t.keys t.links t.ring

  abbrev once : List (List ℕ)
  once = linked 0 fewer (by_key k) (push_slot N t.ring)

  fewer_fits : Rows N 8 fewer
  fewer_fits = (evict-ready N by_key by_number key_below number-below t s).links_fit

  once-fits : Rows N 8 once
  once-fits = linked-fits N 0 fewer fewer_fits (by_key k) (push_slot N t.ring) (omega arith) (key_below k) here_in

  pub accepted_elsewhere : (i j : ℕ) → 4 < j + 1 → word_of (accepted_key N by_key by_number t k).links i j ≡ word_of t.links i j
  unfolding accepted_key pushed_key
  accepted_elsewhere i j l =
      linked_elsewhere N 2 once once-fits (by_number k.reflector) (push_slot N t.ring) (omega arith) (number-below k.reflector) here_in i j
      (λ e. omega (arith, e)) (λ e. omega (arith, e))
      ∙ linked_elsewhere N 0 fewer fewer_fits (by_key k) (push_slot N t.ring) (omega arith) (key_below k) here_in i j (λ e. omega (arith, e)) (λ e. omega (arith, e))
      ∙ evict_elsewhere N by_key by_number key_below number-below t s i j (λ e. omega (arith, e)) (λ e. omega (arith, e))

-- ---- a seen offset changes only the offsets' lane

-- the rows stay of their width, and the words of the other lanes stay
pub record OffsetLane (N : ℕ) (links links' : List (List ℕ)) : Type 0 where
  pub links_fit : Rows N 8 links'
  pub elsewhere : (i j : ℕ) → j < 6 → word_of links' i j ≡ word_of links i j

module _ (N : ℕ) (by_number : ℕ → ℕ) (number-below : (r : ℕ) → by_number r < N) where
  added-lane : (s : OffsetSet) (n : ℕ) → Rows N 8 s.links → OffsetLane N s.links (added N by_number s n).links
  unfolding added
  added-lane s n fit = go (lt_test s.count N)
    where
      go : Test (s.count < N) (ltb s.count N) → OffsetLane N s.links (added N by_number s n).links
      go (holds l t) = rw t (record {
        links_fit = linked-fits N 6 s.links fit (by_number n) s.count (omega arith) (number-below n) l;
        elsewhere = λ i j m. linked_elsewhere N 6 s.links fit (by_number n) s.count (omega arith) (number-below n) l i j (λ e. omega (arith, e)) (λ e. omega (arith, e));
      })
      go (fails l t) = rw t (record { links_fit = fit; elsewhere = λ i j m. refl })

  after-lane : (o : Offsets) (s : OffsetSet) → Rows N 8 s.links → OffsetLane N s.links (offsets_after N by_number o s).links
  after-lane Kept s fit = record { links_fit = fit; elsewhere = λ i j m. refl }
  after-lane Begun s fit = added-lane (offset_set s.offsets s.links 0) 0 fit
  after-lane (Added n) s fit = added-lane s n fit
  after-lane Cleared s fit = record { links_fit = fit; elsewhere = λ i j m. refl }

  by-lane : (c : Option CounterPoint) (d : Direct) (s : OffsetSet) (o : Option ℕ) → Rows N 8 s.links → OffsetLane N s.links (direct_by N by_number c d s o).links
  by-lane None d s o fit = record { links_fit = fit; elsewhere = λ i j m. refl }
  by-lane (Some c) d s o fit = after-lane (recorded N d c o (contains N by_number s (sought_in d.window c))).offsets s fit

  pub direct-lane : (d : Direct) (offsets : List ℕ) (links : List (List ℕ)) (o : ReplyObservation) → Rows N 8 links → OffsetLane N links (direct_in N by_number d offsets links o).links
  unfolding direct_in
  direct-lane d offsets links o fit = by-lane o.counters d (offset_set offsets links (seen_in d.window)) o.ordinal fit
