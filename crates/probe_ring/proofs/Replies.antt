-- What writing a probe back leaves: its row is another, and nothing else changes.
-- Assumes nothing.
use mathlib.Core.Path.{◌≡◌, refl, sym, ap, ap₂, ◌∙◌, subst}
use mathlib.Core.Bool.{Bool, true, false, ◌||◌, cond}
use mathlib.Core.Logic.{◌≢◌}
use mathlib.Core.List.{List, [], ◌∷◌}
use Prim.Native.Nat.{ℕ, zero, suc, ◌+◌, ◌-◌, ◌<◌}
use native.Mathlib.Omega.{arith}
use lib.Dec.{eqb, ltb}
use lib.ListN.{get_or, set, length-set}
use lib.Seq.{get_or-set_same, get_or-set_other}
use Rattle.chains.specs.Rings.{wrap, contents}
use Rattle.chains.specs.Links.{newest, older}
use Rattle.chains.specs.Whole.{Indexed}
use Rattle.chains.proofs.Tests.{Test, holds, fails, eq_test, lt_test, eq_true, eq_false, true_not_false}
use Rattle.chains.proofs.Places.{slot_once}
use Rattle.probe_ring.specs.declared.HeldProbe.{HeldProbe}
use Rattle.probe_ring.specs.Row.{sequence_of, words_of, held_probe_of, ProbeFits}
use Rattle.probe_ring.specs.Held as list
use Rattle.probe_ring.specs.Held.{replacing, Distinct}
use Rattle.probe_ring.specs.Rooms.{Rooms, rooms, lane, slot_of, held}
use Rattle.probe_ring.proofs.Rows.{sequence_back, probe-back}
use Rattle.probe_ring.proofs.Laws.{Sound, found_sequence}
use Rattle.probe_ring.proofs.Remembering.{Place, found-place}

-- ---- lists

or_true : (b : Bool) → (b || true) ≡ true
or_true true = refl
or_true false = refl

holds-place : (N : ℕ) (at : ℕ → HeldProbe) (head n i : ℕ) → i < n → list.holds (contents N at head n) (at (wrap N (head + i))).sequence ≡ true
unfolding contents list.holds
holds-place N at head zero i h = absurd (omega arith)
holds-place N at head (suc n) i h = go (eq_test i n) (holds-place N at head n i)
  where
    go : Test (i ≡ n) (eqb i n) → (i < n → list.holds (contents N at head n) (at (wrap N (head + i))).sequence ≡ true)
        → (eqb (at (wrap N (head + i))).sequence (at (wrap N (head + n))).sequence || list.holds (contents N at head n) (at (wrap N (head + i))).sequence) ≡ true
    go (holds q t) ih = rw (q, eq_true (at (wrap N (head + n))).sequence (at (wrap N (head + n))).sequence refl)
    go (fails q t) ih = rw (ih (omega arith), or_true (eqb (at (wrap N (head + i))).sequence (at (wrap N (head + n))).sequence))

-- two places hold two sequences
places_two : (N : ℕ) (at : ℕ → HeldProbe) (head n i j : ℕ) → Distinct (contents N at head n) → i < j → j < n → (at (wrap N (head + i))).sequence ≢ (at (wrap N (head + j))).sequence
unfolding contents Distinct
places_two N at head zero i j d l m = absurd (omega arith)
places_two N at head (suc n) i j d l m = go (eq_test j n) (places_two N at head n i j d.1 l)
  where
    go : Test (j ≡ n) (eqb j n) → (j < n → (at (wrap N (head + i))).sequence ≢ (at (wrap N (head + j))).sequence) → (at (wrap N (head + i))).sequence ≢ (at (wrap N (head + j))).sequence
    go (holds q t) ih e =
        let last : (at (wrap N (head + i))).sequence ≡ (at (wrap N (head + n))).sequence = e ∙ ap (λ (x : ℕ). (at (wrap N (head + x))).sequence) q in
        true_not_false (sym (ap (list.holds (contents N at head n)) last) ∙ holds-place N at head n i (omega arith)) d.0
    go (fails q t) ih e = ih (omega arith) e

replacing_all : (N : ℕ) (at at' : ℕ → HeldProbe) (head : ℕ) (p : HeldProbe) (n : ℕ)
    → ((i : ℕ) → i < n → at' (wrap N (head + i)) ≡ cond (eqb p.sequence (at (wrap N (head + i))).sequence) p (at (wrap N (head + i))))
    → contents N at' head n ≡ replacing p (contents N at head n)
unfolding contents replacing
replacing_all N at at' head p zero e = refl
replacing_all N at at' head p (suc n) e = ap₂ (λ (q : HeldProbe) (qs : List HeldProbe). q ∷ qs) (e n (omega arith)) (replacing_all N at at' head p n (λ i l. e i (omega arith)))

holds-replacing : (p : HeldProbe) (ps : List HeldProbe) (s : ℕ) → list.holds (replacing p ps) s ≡ list.holds ps s
unfolding replacing list.holds
holds-replacing p [] s = refl
holds-replacing p (q ∷ qs) s = ap₂ (λ (a b : Bool). a || b) (go (eq_test p.sequence q.sequence)) (holds-replacing p qs s)
  where
    go : Test (p.sequence ≡ q.sequence) (eqb p.sequence q.sequence) → eqb s (cond (eqb p.sequence q.sequence) p q).sequence ≡ eqb s q.sequence
    go (holds e t) = rw (t, e)
    go (fails e t) = rw t

replacing-distinct : (p : HeldProbe) (ps : List HeldProbe) → Distinct ps → Distinct (replacing p ps)
unfolding replacing Distinct
replacing-distinct p [] d = tt
replacing-distinct p (q ∷ qs) d = (head-new (eq_test p.sequence q.sequence), replacing-distinct p qs d.1)
  where
    head-new : Test (p.sequence ≡ q.sequence) (eqb p.sequence q.sequence) → list.holds (replacing p qs) (cond (eqb p.sequence q.sequence) p q).sequence ≡ false
    head-new (holds e t) = rw t (ap (list.holds (replacing p qs)) e ∙ holds-replacing p qs q.sequence ∙ d.0)
    head-new (fails e t) = rw t (holds-replacing p qs q.sequence ∙ d.0)

-- ---- another row for a held probe

module _ (N : ℕ) (hash : ℕ → ℕ) (r : Rooms) (sound : Sound N hash r) (p : HeldProbe) (fits : ProbeFits p) (slot : ℕ) (slot_is : slot ≡ slot_of N hash r p.sequence) (slot_in_lem : slot < N) where
  abbrev rows' : List (List ℕ)
  rows' = set r.rows slot (words_of p)

  its : sequence_of (get_or r.rows slot []) ≡ p.sequence
  its = found_sequence N hash r p.sequence slot slot_is slot_in_lem

  here : get_or rows' slot [] ≡ words_of p
  here = get_or-set_same r.rows slot (words_of p) [] (omega (arith, sound.rows_fit))

  there : (i : ℕ) → i ≢ slot → get_or rows' i [] ≡ get_or r.rows i []
  there i ne = get_or-set_other r.rows slot i (words_of p) [] ne

  place : Place N r.ring.head r.ring.len slot
  place = rw slot_is (found-place N hash r sound p.sequence (rw slot_is at slot_in_lem))

  sequences : (i : ℕ) → sequence_of (get_or rows' i []) ≡ sequence_of (get_or r.rows i [])
  sequences i = go (eq_test i slot)
    where
      go : Test (i ≡ slot) (eqb i slot) → sequence_of (get_or rows' i []) ≡ sequence_of (get_or r.rows i [])
      go (holds e t) = rw e (ap sequence_of here ∙ sequence_back p fits ∙ sym its)
      go (fails e t) = ap sequence_of (there i e)

  each : (i : ℕ) → i < r.ring.len
      → held_probe_of (get_or rows' (wrap N (r.ring.head + i)) [])
      ≡ cond (eqb p.sequence (held_probe_of (get_or r.rows (wrap N (r.ring.head + i)) [])).sequence) p (held_probe_of (get_or r.rows (wrap N (r.ring.head + i)) []))
  unfolding held_probe_of held
  each i l = go (eq_test i place.p)
    where
      at : slot ≡ wrap N (r.ring.head + place.p)
      at = place.slot_is

      same_sequence : p.sequence ≡ sequence_of (get_or r.rows (wrap N (r.ring.head + place.p)) [])
      same_sequence = sym its ∙ ap (λ (x : ℕ). sequence_of (get_or r.rows x [])) at

      differ : (i ≡ place.p → ⊥) → Test (i < place.p) (ltb i place.p) → p.sequence ≢ sequence_of (get_or r.rows (wrap N (r.ring.head + i)) [])
      differ ne (holds m t) e = places_two N (λ slot. held_probe_of (get_or r.rows slot [])) r.ring.head r.ring.len i place.p sound.distinct m (omega (arith, place.len_is)) (sym e ∙ same_sequence)
      differ ne (fails m t) e = places_two N (λ slot. held_probe_of (get_or r.rows slot [])) r.ring.head r.ring.len place.p i sound.distinct (above (eq_test i place.p)) l (sym same_sequence ∙ e)
        where
          above : Test (i ≡ place.p) (eqb i place.p) → place.p < i
          above (holds q t) = absurd (ne q)
          above (fails q t) = omega arith

      go : Test (i ≡ place.p) (eqb i place.p)
          → held_probe_of (get_or rows' (wrap N (r.ring.head + i)) [])
          ≡ cond (eqb p.sequence (sequence_of (get_or r.rows (wrap N (r.ring.head + i)) []))) p (held_probe_of (get_or r.rows (wrap N (r.ring.head + i)) []))
      go (holds e t) = rw (e, eq_true _ _ same_sequence) (ap (λ (x : ℕ). held_probe_of (get_or rows' x [])) (sym at) ∙ ap held_probe_of here ∙ probe-back p fits)
      go (fails e t) =
          rw (eq_false _ _ (differ e (lt_test i place.p)))
          (ap held_probe_of (there (wrap N (r.ring.head + i))
          (λ f. e (slot_once N r.ring.head i place.p sound.ring_fits.head_in (omega (arith, sound.ring_fits.len_in)) (omega (arith, place.len_is, sound.ring_fits.len_in)) (f ∙ at)))))

  -- THE ROW OF ITS SEQUENCE IS THE NEW ONE, AND EVERY OTHER STAYS.
  pub put-held : held N (rooms rows' r.links r.ring) ≡ replacing p (held N r)
  unfolding held
  put-held = replacing_all N (λ slot. held_probe_of (get_or r.rows slot [])) (λ slot. held_probe_of (get_or rows' slot [])) r.ring.head p r.ring.len each

  pub put_sound : Sound N hash (rooms rows' r.links r.ring)
  put_sound = record {
    hashes = sound.hashes;
    rows_fit = length-set r.rows slot (words_of p) ∙ sound.rows_fit;
    links_fit = sound.links_fit;
    ring_fits = sound.ring_fits;
    chained = chained';
    distinct = rw put-held (replacing-distinct p (held N r) sound.distinct);
  }
    where
      alike : ◌≡◌ {A = ℕ → ℕ} (λ i. hash (sequence_of (get_or rows' i []))) (λ i. hash (sequence_of (get_or r.rows i [])))
      alike = λ j i. hash (sequences i j)

      chained' : Indexed N (λ i. hash (sequence_of (get_or rows' i []))) (newest lane r.links) (older lane r.links) r.ring.head r.ring.len
      chained' = subst (λ (f : ℕ → ℕ). Indexed N f (newest lane r.links) (older lane r.links) r.ring.head r.ring.len) (sym alike) sound.chained
