-- What the rooms hold: how a probe is found among the held ones, and what a push leaves.
-- Assumes nothing.
use mathlib.Core.Path.{◌≡◌, refl, sym, ap, ◌∙◌}
use mathlib.Core.Bool.{Bool, true, false, ◌||◌, cond}
use mathlib.Core.Logic.{◌≢◌}
use mathlib.Core.List.{List, [], ◌∷◌}
use Prim.Native.Nat.{ℕ, suc, ◌+◌, ◌-◌, ◌<◌}
use native.Mathlib.Omega.{arith}
use lib.Dec.{eqb, ltb}
use lib.ListN.{length, get_or, set, take, length-set}
use lib.Seq.{get_or-set_same, get_or-set_other}
use Rattle.chains.specs.Rings.{wrap, contents, push_slot, after_push, RingFits}
use Rattle.chains.specs.Links.{word_of, newest, older, Rows}
use Rattle.chains.specs.Whole.{Indexed}
use Rattle.chains.specs.Walk.{first_of}
use Rattle.chains.proofs.Tests.{Test, holds, fails, eq_test, eq_true, true_not_false}
use Rattle.chains.proofs.Places.{last-place, Pushed, room, full, push_is, push-below, push-fits}
use Rattle.chains.proofs.Contents.{push-contents}
use Rattle.chains.proofs.Chains.{empty_indexed}
use Rattle.chains.proofs.Walks.{walk_here, Walked, found, nothing, walked}
use Rattle.chains.proofs.Scan.{walk_scans, scan_first}
use Rattle.chains.proofs.Lanes.{linked-fits, linked-newest, linked_elsewhere, link_indexed}
use Rattle.probe_ring.specs.declared.HeldProbe.{HeldProbe}
use Rattle.probe_ring.specs.Row.{sequence_of, words_of, held_probe_of, ProbeFits}
use Rattle.probe_ring.specs.Held as list
use Rattle.probe_ring.specs.Held.{Distinct}
pub use Rattle.probe_ring.specs.Sound.{Sound}
use Rattle.probe_ring.specs.Rooms.{Rooms, rooms, lane, rooms_after, slot_of, pushed, held}
use Rattle.probe_ring.proofs.Rows.{sequence_back, probe-back}
use Rattle.probe_ring.proofs.Lists.{remembering-new, remembering-distinct}

eqb_is : (m n : ℕ) → eqb m n ≡ true → m ≡ n
eqb_is m n e = go (eq_test m n)
  where
    go : Test (m ≡ n) (eqb m n) → m ≡ n
    go (holds p t) = p
    go (fails p t) = absurd (true_not_false e t)

first_holds : (s : ℕ) (ps : List HeldProbe) → first_of (λ p. eqb s p.sequence) (λ p. true) false ps ≡ list.holds ps s
unfolding first_of list.holds
first_holds s [] = refl
first_holds s (p ∷ ps) = go (eqb s p.sequence) (first_holds s ps)
  where
    go : (b : Bool) → first_of (λ p. eqb s p.sequence) (λ p. true) false ps ≡ list.holds ps s
        → cond b true (first_of (λ p. eqb s p.sequence) (λ p. true) false ps) ≡ (b || list.holds ps s)
    go true ih = refl
    go false ih = ih

module _ (N : ℕ) (hash : ℕ → ℕ) where
  -- an empty ring, whatever its rooms hold
  pub empty_sound : (rows links : List (List ℕ)) (head : ℕ) → ((s : ℕ) → hash s < N) → length rows ≡ N → Rows N 8 links → head < N
      → Sound N hash (rooms rows links (record { head = head; len = 0 }))
  unfolding held contents Distinct
  empty_sound rows links head below fit widths l = record {
    hashes = below;
    rows_fit = fit;
    links_fit = widths;
    ring_fits = record { head_in = l; len_in = omega arith };
    chained = empty_indexed N _ _ _ head;
    distinct = tt;
  }

  pub empty-held : (rows links : List (List ℕ)) (head : ℕ) → held N (rooms rows links (record { head = head; len = 0 })) ≡ []
  unfolding held contents
  empty-held rows links head = refl

  -- a slot that is found has the sequence
  pub found_sequence : (r : Rooms) (s slot : ℕ) → slot ≡ slot_of N hash r s → slot < N → sequence_of (get_or r.rows slot []) ≡ s
  unfolding slot_of
  found_sequence r s slot e l = rw e (go (walked N _ _ r.ring.head r.ring.len _) (rw e at l))
    where
      go : {slot : ℕ} → Walked N (λ slot. eqb s (sequence_of (get_or r.rows slot []))) (older lane r.links) r.ring.head r.ring.len slot
          → slot < N → sequence_of (get_or r.rows slot []) ≡ s
      go (found p m f t) l = rw f (sym (eqb_is s _ t))
      go (nothing f) l = absurd (omega arith)

  module _ (r : Rooms) (sound : Sound N hash r) where
    -- What is found is the held probe of the sequence: f of it, or d where none is held.
    pub find_first : {B : Type 0} (f : HeldProbe → B) (d : B) (s : ℕ)
        → cond (ltb (slot_of N hash r s) N) (f (held_probe_of (get_or r.rows (slot_of N hash r s) []))) d ≡ first_of (λ p. eqb s p.sequence) f d (held N r)
    unfolding slot_of held held_probe_of
    find_first f d s =
        rw (walk_scans N (λ slot. eqb s (sequence_of (get_or r.rows slot []))) r.ring.head (λ slot. hash (sequence_of (get_or r.rows slot []))) (newest lane r.links) (older lane r.links)
        (hash s) r.ring.len sound.ring_fits.head_in sound.ring_fits.len_in (λ i e. ap hash (sym (eqb_is s _ e))) sound.chained)
        (scan_first N (λ slot. held_probe_of (get_or r.rows slot [])) (λ p. eqb s p.sequence) f d r.ring.head r.ring.len sound.ring_fits.head_in sound.ring_fits.len_in)

    -- A sequence is found exactly if it is held.
    pub find_is : (s : ℕ) → ltb (slot_of N hash r s) N ≡ list.holds (held N r) s
    find_is s = as_bool (ltb (slot_of N hash r s) N) ∙ find_first (λ p. true) false s ∙ first_holds s (held N r)
      where
        as_bool : (b : Bool) → b ≡ cond b true false
        as_bool true = refl
        as_bool false = refl

    -- ---- a push of a probe that is not held

    module _ (p : HeldProbe) (fits : ProbeFits p) where
      there : (i : ℕ) → i ≢ push_slot N r.ring → get_or (set r.rows (push_slot N r.ring) (words_of p)) i [] ≡ get_or r.rows i []
      there i ne = get_or-set_other r.rows (push_slot N r.ring) i (words_of p) [] ne

      here : get_or (set r.rows (push_slot N r.ring) (words_of p)) (push_slot N r.ring) [] ≡ words_of p
      here = get_or-set_same r.rows (push_slot N r.ring) (words_of p) [] (omega (arith, sound.rows_fit, push-below N r.ring sound.ring_fits))

      pub pushed-held : held N (rooms_after (pushed N hash r p)) ≡ take N (p ∷ held N r)
      unfolding held pushed
      pushed-held =
          push-contents N (λ slot. held_probe_of (get_or r.rows slot [])) (λ slot. held_probe_of (get_or (set r.rows (push_slot N r.ring) (words_of p)) slot [])) r.ring p sound.ring_fits
          (ap held_probe_of here ∙ probe-back p fits) (λ i ne. ap held_probe_of (there i ne))

      pub pushed_sound : list.holds (held N r) p.sequence ≡ false → Sound N hash (rooms_after (pushed N hash r p))
      unfolding pushed
      pushed_sound absent = record {
        hashes = sound.hashes;
        rows_fit = length-set r.rows (push_slot N r.ring) (words_of p) ∙ sound.rows_fit;
        links_fit = linked-fits N lane r.links sound.links_fit (hash p.sequence) (push_slot N r.ring) (omega arith) (sound.hashes p.sequence) (push-below N r.ring sound.ring_fits);
        ring_fits = push-fits N r.ring sound.ring_fits;
        chained =
            link_indexed N lane r.links r.ring (λ slot. hash (sequence_of (get_or r.rows slot [])))
            (λ slot. hash (sequence_of (get_or (set r.rows (push_slot N r.ring) (words_of p)) slot []))) (hash p.sequence) sound.links_fit (omega arith)
            (sound.hashes p.sequence) sound.ring_fits (ap (λ (row : List ℕ). hash (sequence_of row)) here ∙ ap hash (sequence_back p fits))
            (λ i ne. ap (λ (row : List ℕ). hash (sequence_of row)) (there i ne)) sound.chained;
        distinct = rw (pushed-held) (sole absent);
      }
        where
          sole : list.holds (held N r) p.sequence ≡ false → Distinct (take N (p ∷ held N r))
          sole e = rw (remembering-new N p (held N r) e) at (remembering-distinct N p (held N r) sound.distinct)

      -- the words of the other lanes stay
      pub pushed_elsewhere : (i j : ℕ) → j ≢ lane → j ≢ lane + 1 → word_of (pushed N hash r p).links i j ≡ word_of r.links i j
      unfolding pushed
      pushed_elsewhere i j a b =
          linked_elsewhere N lane r.links sound.links_fit (hash p.sequence) (push_slot N r.ring) (omega arith) (sound.hashes p.sequence)
          (push-below N r.ring sound.ring_fits) i j a b

      newest-place : Pushed N r.ring → ((after_push N r.ring).len ≡ suc ((after_push N r.ring).len - 1)) × (push_slot N r.ring ≡ wrap N ((after_push N r.ring).head + ((after_push N r.ring).len - 1)))
      newest-place (room l s h n) =
          let less : suc r.ring.len - 1 ≡ r.ring.len = omega arith in
          (rw n (omega arith), rw (s, h, n, less))
      newest-place (full l s h n) =
          let all : r.ring.len ≡ N = omega (arith, sound.ring_fits.len_in) in
          (rw (n, all) (omega (arith, sound.ring_fits.head_in)), rw (s, h, n, all) (sym (last-place N r.ring.head sound.ring_fits.head_in)))

      -- it is found where the answer says
      pub pushed-found : slot_of N hash (rooms_after (pushed N hash r p)) p.sequence ≡ (pushed N hash r p).answer.slot
      unfolding slot_of pushed
      pushed-found =
          let s_in : push_slot N r.ring < N = push-below N r.ring sound.ring_fits in
          let newest_is_lem = linked-newest N lane r.links sound.links_fit (hash p.sequence) (push_slot N r.ring) (omega arith) (sound.hashes p.sequence) s_in in
          let last = newest-place (push_is N r.ring) in
          let row : get_or (set r.rows (push_slot N r.ring) (words_of p)) (push_slot N r.ring) [] ≡ words_of p =
          get_or-set_same r.rows (push_slot N r.ring) (words_of p) [] (omega (arith, sound.rows_fit, s_in)) in
          rw (newest_is_lem, last.0)
          (walk_here N _ _ (after_push N r.ring).head ((after_push N r.ring).len - 1) (push_slot N r.ring) last.1
          (eq_true p.sequence _ (sym (ap sequence_of row ∙ sequence_back p fits))))
