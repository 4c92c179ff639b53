-- What `remember` and `put` leave, over the held probes as a list; and from an empty ring on, whatever its rooms held.
-- Assumes nothing.
use mathlib.Core.Path.{◌≡◌, refl, sym, ap, ◌∙◌}
use mathlib.Core.Bool.{Bool, true, false, not, ◌&&◌}
use mathlib.Core.Logic.{◌≢◌}
use mathlib.Core.List.{List, [], ◌∷◌}
use Prim.Native.Nat.{ℕ, zero, suc, ◌+◌, ◌-◌, ◌≤◌, ◌<◌}
use native.Mathlib.Nat.{add-zero}
use native.Mathlib.Omega.{arith}
use borrow.Author.Tests.{lt-leb}
use lib.Dec.{eqb, ltb, leb}
use lib.ListN.{length, get_or, take}
use Rattle.limits.specs.Limits.{capacity}
use Rattle.chains.specs.Rings.{wrap, contents, push_slot}
use Rattle.chains.specs.Links.{word_of, older, Rows}
use Rattle.chains.specs.Hash.{number_hash}
use Rattle.chains.proofs.Tests.{Test, holds, fails, lt_test}
use Rattle.chains.proofs.Walks.{Walked, found, nothing, walked}
use Rattle.chains.proofs.Places.{wrap-low, slot_full}
use Rattle.chains.proofs.Contents.{length-contents}
use Rattle.chains.proofs.Hashes.{number_hash-below}
use Rattle.probe_ring.specs.declared.HeldProbe.{HeldProbe}
use Rattle.probe_ring.specs.Row.{sequence_of, replies_of, held_probe_of, ProbeFits}
use Rattle.probe_ring.specs.Held as list
use Rattle.probe_ring.specs.Held.{others, remembering, remembering_all, once, evicts, oldest, loses}
use Rattle.probe_ring.specs.Rooms.{Rooms, rooms, lane, Outcome, rooms_after, taken_out, closed_up, slot_of, pushed, remembered_at, remembered, held}
use Rattle.probe_ring.proofs.Lists.{others_gone, remembering-new, held_are}
use Rattle.probe_ring.proofs.Laws.{Sound, empty_sound, empty-held, found_sequence, find_is, pushed-held, pushed_sound, pushed_elsewhere, pushed-found}
use Rattle.probe_ring.proofs.Taken.{taken-held, taken_sound, taken_elsewhere}

taken_len : (N : ℕ) (r : Rooms) (slot : ℕ) → (taken_out N r slot).ring.len ≡ r.ring.len - 1
unfolding taken_out closed_up
taken_len N r slot = refl

pushed-evicts : (N : ℕ) (hash : ℕ → ℕ) (r : Rooms) (p : HeldProbe) → (pushed N hash r p).answer.evicted ≡ leb N r.ring.len
unfolding pushed
pushed-evicts N hash r p = refl

pushed-loses : (N : ℕ) (hash : ℕ → ℕ) (r : Rooms) (p : HeldProbe)
    → (pushed N hash r p).answer.lost ≡ (leb N r.ring.len && eqb (replies_of (get_or r.rows (push_slot N r.ring) [])) 0)
unfolding pushed
pushed-loses N hash r p = refl

-- the oldest entry stands at the head
oldest-contents : (N : ℕ) (at : ℕ → HeldProbe) (head n : ℕ) (p : HeldProbe) → oldest p (contents N at head (suc n)) ≡ at (wrap N (head + 0))
unfolding oldest contents
oldest-contents N at head zero p = refl
oldest-contents N at head (suc n) p = oldest-contents N at head n (at (wrap N (head + suc n)))

-- the place of a slot that is found
pub record Place (N head len slot : ℕ) : Type 0 where
  pub p : ℕ
  pub above : ℕ
  pub len_is : len ≡ suc (above + p)
  pub slot_is : slot ≡ wrap N (head + p)

module _ (N : ℕ) (hash : ℕ → ℕ) (r : Rooms) (sound : Sound N hash r) where
  pub found-place : (s : ℕ) → slot_of N hash r s < N → Place N r.ring.head r.ring.len (slot_of N hash r s)
  unfolding slot_of
  found-place s l = go (walked N _ _ r.ring.head r.ring.len _) l
    where
      go : {slot : ℕ} → Walked N (λ slot. eqb s (sequence_of (get_or r.rows slot []))) (older lane r.links) r.ring.head r.ring.len slot
          → slot < N → Place N r.ring.head r.ring.len slot
      go (found p m f t) l = record { p = p; above = r.ring.len - 1 - p; len_is = omega arith; slot_is = f }
      go (nothing f) l = absurd (omega arith)

  held-length : length (held N r) ≡ r.ring.len
  unfolding held
  held-length = length-contents N (λ slot. held_probe_of (get_or r.rows slot [])) r.ring.head r.ring.len

  -- where N are held, the push goes over the oldest
  oldest_is : (p : HeldProbe) → N ≤ r.ring.len → replies_of (get_or r.rows (push_slot N r.ring) []) ≡ (oldest p (held N r)).replies
  unfolding held held_probe_of
  oldest_is p l = go r.ring.len (omega (arith, sound.ring_fits.head_in, l))
    where
      go : (n : ℕ) → 0 < n → replies_of (get_or r.rows (push_slot N r.ring) []) ≡ (oldest p (contents N (λ slot. held_probe_of (get_or r.rows slot [])) r.ring.head n)).replies
      go zero m = absurd (omega (arith, m))
      go (suc n) m =
          let at_head : wrap N (r.ring.head + 0) ≡ r.ring.head = rw (add-zero r.ring.head) (wrap-low N r.ring.head sound.ring_fits.head_in) in
          rw (oldest-contents N (λ slot. held_probe_of (get_or r.rows slot [])) r.ring.head n p, at_head, ← slot_full N r.ring l)

  lost_is : (p : HeldProbe) → (leb N r.ring.len && eqb (replies_of (get_or r.rows (push_slot N r.ring) [])) 0) ≡ (leb N r.ring.len && eqb (oldest p (held N r)).replies 0)
  lost_is p = go (lt_test r.ring.len N)
    where
      go : Test (r.ring.len < N) (ltb r.ring.len N)
          → (leb N r.ring.len && eqb (replies_of (get_or r.rows (push_slot N r.ring) [])) 0) ≡ (leb N r.ring.len && eqb (oldest p (held N r)).replies 0)
      go (holds l t) = rw (lt-leb N r.ring.len l)
      go (fails l t) = rw (oldest_is p (omega arith))

  -- what taking out the probe of a found sequence leaves
  record Without (s : ℕ) (rest : Rooms) : Type 0 where
    rest_sound : Sound N hash rest
    rest_held : held N rest ≡ others s (held N r)
    rest_len : suc rest.ring.len ≡ r.ring.len
    rest_elsewhere : (i j : ℕ) → j ≢ lane → j ≢ lane + 1 → word_of rest.links i j ≡ word_of r.links i j

  without : (s : ℕ) → slot_of N hash r s < N → Without s (taken_out N r (slot_of N hash r s))
  without s l = go (found-place s l)
    where
      go : Place N r.ring.head r.ring.len (slot_of N hash r s) → Without s (taken_out N r (slot_of N hash r s))
      go at =
          let same : slot_of N hash r s ≡ wrap N (r.ring.head + at.p) = at.slot_is in
          let its : sequence_of (get_or r.rows (wrap N (r.ring.head + at.p)) []) ≡ s = rw same at (found_sequence N hash r s (slot_of N hash r s) refl l) in
          rw same (record {
            rest_sound = taken_sound N hash r sound at.p at.above at.len_is;
            rest_held = taken-held N hash r sound at.p at.above at.len_is ∙ ap (λ (x : ℕ). others x (held N r)) its;
            rest_len = ap suc (taken_len N r (wrap N (r.ring.head + at.p))) ∙ omega (arith, at.len_is);
            rest_elsewhere = taken_elsewhere N hash r sound at.p at.above at.len_is;
          })

  -- WHAT REMEMBERING LEAVES.
  pub record Remembers (p : HeldProbe) (o : Outcome) : Type 0 where
    pub after_sound : Sound N hash (rooms_after o)
    pub after-held : held N (rooms_after o) ≡ remembering N p (held N r)
    pub after-found : slot_of N hash (rooms_after o) p.sequence ≡ o.answer.slot
    pub after-evicted : o.answer.evicted ≡ evicts N p (held N r)
    pub after-lost : o.answer.lost ≡ loses N p (held N r)
    pub after_elsewhere : (i j : ℕ) → j ≢ lane → j ≢ lane + 1 → word_of o.links i j ≡ word_of r.links i j

  module _ (p : HeldProbe) (fits : ProbeFits p) where
    -- one that is not held
    pub remembers-new : list.holds (held N r) p.sequence ≡ false → Remembers p (pushed N hash r p)
    unfolding evicts loses
    remembers-new absent = record {
      after_sound = pushed_sound N hash r sound p fits absent;
      after-held = pushed-held N hash r sound p fits ∙ sym (remembering-new N p (held N r) absent);
      after-found = pushed-found N hash r sound p fits;
      after-evicted = pushed-evicts N hash r p ∙ sym (rw (absent, held-length));
      after-lost = pushed-loses N hash r p ∙ lost_is p ∙ sym (rw (absent, held-length));
      after_elsewhere = pushed_elsewhere N hash r sound p fits;
    }

    remembers-held : (l : slot_of N hash r p.sequence < N) → list.holds (held N r) p.sequence ≡ true
        → Remembers p (pushed N hash (taken_out N r (slot_of N hash r p.sequence)) p)
    unfolding evicts loses remembering
    remembers-held l there = go (taken_out N r (slot_of N hash r p.sequence)) (without p.sequence l)
      where
        go : (rest : Rooms) → Without p.sequence rest → Remembers p (pushed N hash rest p)
        go rest w =
            let absent : list.holds (held N rest) p.sequence ≡ false = rw w.rest_held (others_gone p.sequence (held N r)) in
            record {
              after_sound = pushed_sound N hash rest w.rest_sound p fits absent;
              after-held = pushed-held N hash rest w.rest_sound p fits ∙ rw w.rest_held;
              after-found = pushed-found N hash rest w.rest_sound p fits;
              after-evicted = pushed-evicts N hash rest p ∙ lt-leb N rest.ring.len (omega (arith, w.rest_len, sound.ring_fits.len_in)) ∙ sym (rw there);
              after-lost = pushed-loses N hash rest p ∙ rw (lt-leb N rest.ring.len (omega (arith, w.rest_len, sound.ring_fits.len_in)), there);
              after_elsewhere = λ i j a b. pushed_elsewhere N hash rest w.rest_sound p fits i j a b ∙ w.rest_elsewhere i j a b;
            }

    -- REMEMBERING, HELD OR NOT.
    pub remembers : Remembers p (remembered N hash r p)
    unfolding remembered remembered_at
    remembers = go (lt_test (slot_of N hash r p.sequence) N)
      where
        go : Test (slot_of N hash r p.sequence < N) (ltb (slot_of N hash r p.sequence) N) → Remembers p (remembered N hash r p)
        go (holds l t) = rw t (remembers-held l (sym (find_is N hash r sound p.sequence) ∙ t))
        go (fails l t) = rw t (remembers-new (sym (find_is N hash r sound p.sequence) ∙ t))

-- ---- from an empty ring on, whatever its rooms held

-- all of these remembered, the last of the list first
unfoldable pub remembered_all : (N : ℕ) → (ℕ → ℕ) → Rooms → List HeldProbe → Rooms
remembered_all N hash r [] = r
remembered_all N hash r (p ∷ ps) = rooms_after (remembered N hash (remembered_all N hash r ps) p)

-- every one of them fits its words
unfoldable pub AllFit : List HeldProbe → Type 0
AllFit [] = Unit
AllFit (p ∷ ps) = ProbeFits p × AllFit ps

all_remembered : (N : ℕ) (hash : ℕ → ℕ) (r : Rooms) (ps : List HeldProbe) → Sound N hash r → held N r ≡ [] → AllFit ps
    → Sound N hash (remembered_all N hash r ps) × (held N (remembered_all N hash r ps) ≡ remembering_all N ps)
unfolding remembered_all remembering_all AllFit
all_remembered N hash r [] sound none f = (sound, none)
all_remembered N hash r (p ∷ ps) sound none f =
    let before = all_remembered N hash r ps sound none f.1 in
    let after = remembers N hash (remembered_all N hash r ps) before.0 p f.0 in
    (after.after_sound, after.after-held ∙ ap (remembering N p) before.1)

-- Whatever the two rooms held: after these probes were remembered in the empty ring, the held ones are the 4,096 most recently remembered
-- distinct sequences, and a sequence is found exactly if it is one of those.
module _ (rows links : List (List ℕ)) (head : ℕ) (secret : List ℕ) (ps : List HeldProbe) (rows_fit : length rows ≡ capacity) (links_fit : Rows capacity 8 links)
    (head_in : head < capacity) (all_fit : AllFit ps) where
  abbrev after : Rooms
  after = remembered_all capacity (number_hash secret) (rooms rows links (record { head = head; len = 0 })) ps

  all : Sound capacity (number_hash secret) after × (held capacity after ≡ remembering_all capacity ps)
  all =
      all_remembered capacity (number_hash secret) (rooms rows links (record { head = head; len = 0 })) ps
      (empty_sound capacity (number_hash secret) rows links head (number_hash-below secret) rows_fit links_fit head_in)
      (empty-held capacity (number_hash secret) rows links head) all_fit

  pub held_exactly : held capacity after ≡ take capacity (once ps)
  held_exactly = all.1 ∙ held_are capacity ps

  pub found_exactly : (s : ℕ) → ltb (slot_of capacity (number_hash secret) after s) capacity ≡ list.holds (take capacity (once ps)) s
  found_exactly s = find_is capacity (number_hash secret) after all.0 s ∙ ap (λ (l : List HeldProbe). list.holds l s) held_exactly
