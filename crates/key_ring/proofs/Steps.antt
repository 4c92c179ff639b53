-- What `evict`, `end_chains`, `push` and `accept_key` leave, from what their callees do, and the newest slot of an empty ring.
-- Assumes nothing.
use mathlib.Core.Path.{◌≡◌, sym, ap, ◌∙◌}
use mathlib.Core.List.{List, [], ◌∷◌}
use Prim.Native.Nat.{ℕ, ◌+◌, ◌-◌, ◌%◌, ◌≤◌, ◌<◌}
use native.Mathlib.Omega.{arith}
use lib.ListN.{get_or, set}
use Rattle.call_types.specs.declared.ReplyKey.{ReplyKey}
use Rattle.chains.specs.declared.Ring.{Ring}
use Rattle.chains.specs.Rings.{wrap, push_slot, after_push}
use Rattle.chains.proofs.Places.{wrap-low}
use Rattle.chains.specs.Links.{linked, ended}
use Rattle.chains.specs.Hash.{key_hash, number_hash}
use Rattle.chains.proofs.Tests.{lt_true, lt_false}
use Rattle.key_ring.specs.Keys.{key_at, numbers_of}
use Rattle.correlation.specs.Slots.{lower_word}
use Rattle.key_ring.specs.Table.{Table, table_of, newest_slot, evicted_slots, evicted_links, pushed_key, accepted_key, hash_of, holder, evicted, unlinked, pushed, accepted}

module _ (secret : List ℕ) (keys slots links : List (List ℕ)) (ring : Ring) where
  pub evict_room : ring.len < 4096 → slots ≡ evicted secret keys slots links ring
  unfolding evicted_slots
  evict_room l = rw (lt_true ring.len 4096 l)

  pub evict_nobody : (at : ℕ) → 4096 ≤ ring.len → at ≡ holder secret keys slots links ring (key_at keys ring.head).reflector → 4096 ≤ at → slots ≡ evicted secret keys slots links ring
  unfolding evicted_slots
  evict_nobody at l e m = rw (lt_false ring.len 4096 l, ← e, lt_false at 4096 m)

  pub evict_lowers : (at word : ℕ) → 4096 ≤ ring.len → at ≡ holder secret keys slots links ring (key_at keys ring.head).reflector → at < 4096 → word ≡ lower_word (get_or (get_or slots at []) 0 0)
      → set slots at (set (get_or slots at []) 0 word) ≡ evicted secret keys slots links ring
  unfolding evicted_slots
  evict_lowers at word l e m f = rw (lt_false ring.len 4096 l, ← e, lt_true at 4096 m, f)

  pub ends_room : ring.len < 4096 → links ≡ unlinked secret keys links ring
  unfolding evicted_links
  ends_room l = rw (lt_true ring.len 4096 l)

  pub ends_full : (both h g : ℕ) (once twice : List (List ℕ)) → 4096 ≤ ring.len → both ≡ get_or (get_or keys ring.head []) 0 0
      → h ≡ key_hash secret both (get_or (get_or keys ring.head []) 1 0) → once ≡ ended 4096 0 links h ring.head
      → g ≡ number_hash secret (both % 4294967296) → twice ≡ ended 4096 2 once g ring.head → twice ≡ unlinked secret keys links ring
  unfolding evicted_links
  ends_full both h g once twice l a b c d e =
      let whole : numbers_of (key_at keys ring.head) ≡ both = omega (arith, a) in
      rw (lt_false ring.len 4096 l, whole, ← a, ← b, ← c, ← d) e

  pub push_is : (k : ReplyKey) (p both h g : ℕ) (once twice : List (List ℕ)) (after : Ring)
      → p ≡ push_slot 4096 ring → both ≡ numbers_of k → h ≡ hash_of secret k → once ≡ linked 0 links h p → g ≡ number_hash secret k.reflector → twice ≡ linked 2 once g p → after ≡ after_push 4096 ring
      → table_of (set keys p (both ∷ k.t3 ∷ [])) (set slots p (0 ∷ 0 ∷ 0 ∷ [])) twice after ≡ pushed secret (table_of keys slots links ring) k
  unfolding pushed_key
  push_is k p both h g once twice after a b c d e f q = rw (f, d, c, e, b, a, q)

  pub accept_is : (k : ReplyKey) (lower fewer : List (List ℕ)) (t : Table) → lower ≡ evicted secret keys slots links ring → fewer ≡ unlinked secret keys links ring
      → t ≡ pushed secret (table_of keys lower fewer ring) k → t ≡ accepted secret (table_of keys slots links ring) k
  unfolding accepted_key
  accept_is k lower fewer t e f g = rw (← e, ← f) g

-- of an empty ring the newest slot is the head
pub newest-empty : (ring : Ring) → ring.head < 4096 → ring.len ≡ 0 → ring.head ≡ newest_slot 4096 ring
newest-empty ring l e =
    let same : ring.head + (ring.len - 1) ≡ ring.head = omega arith in
    sym (ap (wrap 4096) same ∙ wrap-low 4096 ring.head l)
