-- What the set of seen offsets holds: from a count of 0 on, whatever the rooms held, exactly the offsets that were added.
-- Assumes nothing.
use mathlib.Core.Path.{◌≡◌, refl, sym, ap, ◌∙◌}
use mathlib.Core.Bool.{Bool, true, false, ◌||◌, cond}
use mathlib.Core.Logic.{◌≢◌}
use mathlib.Core.List.{List, [], ◌∷◌}
use Prim.Native.Nat.{ℕ, ◌+◌, ◌≤◌, ◌<◌}
use native.Mathlib.Nat.{zero-add}
use native.Mathlib.Omega.{arith}
use lib.Dec.{eqb, ltb}
use lib.ListN.{length, get_or, set, length-set}
use lib.Seq.{get_or-set_same, get_or-set_other, take_all}
use Rattle.limits.specs.Limits.{capacity}
use Rattle.chains.specs.Rings.{contents, push_slot, after_push, RingFits}
use Rattle.chains.specs.Links.{word_of, newest, older, linked, Rows}
use Rattle.chains.specs.Whole.{Indexed}
use Rattle.chains.specs.Walk.{newest_of, first_of}
use Rattle.chains.specs.Hash.{number_hash}
use Rattle.chains.proofs.Tests.{Test, holds, fails, eq_test, lt_true, lt_false}
use Rattle.chains.proofs.Places.{room, wrap-low}
use Rattle.chains.proofs.Contents.{length-contents, push-contents}
use Rattle.chains.proofs.Chains.{empty_indexed}
use Rattle.chains.proofs.Scan.{walk_scans, scan_first}
use Rattle.chains.proofs.Lanes.{linked-fits, linked_elsewhere, link_indexed}
use Rattle.chains.proofs.Hashes.{number_hash-below}
pub use Rattle.offset_set.specs.Sound.{Sound}
use Rattle.offset_set.specs.Offsets.{OffsetSet, offset_set, has, lane, seen, contains, added, added_all}

-- ---- `add`, as the code leaves the rooms

module _ (N : ℕ) (hash : ℕ → ℕ) (s : OffsetSet) (offset : ℕ) where
  pub added_room : (h : ℕ) (links : List (List ℕ)) → s.count < N → h ≡ hash offset → links ≡ linked lane s.links h s.count
      → offset_set (set s.offsets s.count offset) links (s.count + 1) ≡ added N hash s offset
  unfolding added
  added_room h links l e f = rw (f, e, lt_true s.count N l)

  pub added_full : N ≤ s.count → s ≡ added N hash s offset
  unfolding added
  added_full l = rw (lt_false s.count N l)

-- ---- a set that calls have left

first-has : (offset : ℕ) (xs : List ℕ) → first_of (eqb offset) (λ x. true) false xs ≡ has xs offset
unfolding first_of has
first-has offset [] = refl
first-has offset (x ∷ xs) = go (eqb offset x) (first-has offset xs)
  where
    go : (b : Bool) → first_of (eqb offset) (λ x. true) false xs ≡ has xs offset → cond b true (first_of (eqb offset) (λ x. true) false xs) ≡ (b || has xs offset)
    go true ih = refl
    go false ih = ih

-- a push behind `count` entries from slot 0 on
push_at : (N count : ℕ) → count < N → (push_slot N (record { head = 0; len = count }) ≡ count) × (after_push N (record { head = 0; len = count }) ≡ record { head = 0; len = count + 1 })
unfolding push_slot after_push
push_at N count l = (rw (lt_true count N l, zero-add count) (wrap-low N count l), rw (lt_true count N l))

module _ (N : ℕ) (hash : ℕ → ℕ) where
  -- a cleared set, whatever its rooms hold
  pub cleared_sound : (offsets : List ℕ) (links : List (List ℕ)) → 0 < N → ((n : ℕ) → hash n < N) → length offsets ≡ N → Rows N 8 links
      → Sound N hash (offset_set offsets links 0)
  cleared_sound offsets links some below fit rows = record {
    some = some;
    hashes = below;
    offsets_fit = fit;
    links_fit = rows;
    count_in = omega arith;
    chained = empty_indexed N _ _ _ 0;
  }

  pub seen_none : (offsets : List ℕ) (links : List (List ℕ)) → seen N (offset_set offsets links 0) ≡ []
  unfolding seen contents
  seen_none offsets links = refl

  pub seen-count : (s : OffsetSet) → length (seen N s) ≡ s.count
  unfolding seen
  seen-count s = length-contents N (λ slot. get_or s.offsets slot 0) 0 s.count

  module _ (s : OffsetSet) (sound : Sound N hash s) where
    -- Seen exactly if it is among the offsets.
    pub contains_is : (offset : ℕ) → contains N hash s offset ≡ has (seen N s) offset
    unfolding contains seen
    contains_is offset =
        rw (walk_scans N (λ slot. eqb offset (get_or s.offsets slot 0)) 0 (λ slot. hash (get_or s.offsets slot 0)) (newest lane s.links) (older lane s.links)
        (hash offset) s.count sound.some sound.count_in (λ i e. ap hash (sym (same i e))) sound.chained)
        (as_bool (ltb (newest_of N (λ slot. eqb offset (get_or s.offsets slot 0)) 0 s.count) N)
        ∙ scan_first N (λ slot. get_or s.offsets slot 0) (eqb offset) (λ x. true) false 0 s.count sound.some sound.count_in
        ∙ first-has offset (contents N (λ slot. get_or s.offsets slot 0) 0 s.count))
      where
        same : (i : ℕ) → eqb offset (get_or s.offsets i 0) ≡ true → offset ≡ get_or s.offsets i 0
        same i e = go (eq_test offset (get_or s.offsets i 0))
          where
            go : Test (offset ≡ get_or s.offsets i 0) (eqb offset (get_or s.offsets i 0)) → offset ≡ get_or s.offsets i 0
            go (holds p t) = p
            go (fails p t) = absurd (never (sym e ∙ t))
              where
                never : true ≡ false → ⊥
                never f = let z : ◌≡◌ {A = ℕ} 0 1 = cc in omega arith

        as_bool : (b : Bool) → b ≡ cond b true false
        as_bool true = refl
        as_bool false = refl

    module _ (offset : ℕ) (more : s.count < N) where
      added_is : added N hash s offset ≡ offset_set (set s.offsets s.count offset) (linked lane s.links (hash offset) s.count) (s.count + 1)
      added_is = sym (added_room N hash s offset (hash offset) (linked lane s.links (hash offset) s.count) more refl refl)

      here : get_or (set s.offsets s.count offset) s.count 0 ≡ offset
      here = get_or-set_same s.offsets s.count offset 0 (omega (arith, sound.offsets_fit))

      there : (i : ℕ) → i ≢ s.count → get_or (set s.offsets s.count offset) i 0 ≡ get_or s.offsets i 0
      there i ne = get_or-set_other s.offsets s.count i offset 0 ne

      fits : RingFits N (record { head = 0; len = s.count })
      fits = record { head_in = sound.some; len_in = sound.count_in }

      -- One more is the newest.
      pub added-seen : seen N (added N hash s offset) ≡ offset ∷ seen N s
      unfolding seen
      added-seen =
          let at = push_at N s.count more in
          let pushed = push-contents N (λ slot. get_or s.offsets slot 0) (λ slot. get_or (set s.offsets s.count offset) slot 0)
          (record { head = 0; len = s.count }) offset fits (rw at.0 here) (rw at.0 there) in
          rw added_is (rw at.1 at pushed) ∙ take_all N (offset ∷ contents N (λ slot. get_or s.offsets slot 0) 0 s.count) (omega (arith, seen-count s))

      pub added_sound : Sound N hash (added N hash s offset)
      added_sound =
          let at = push_at N s.count more in
          let indexed = link_indexed N lane s.links (record { head = 0; len = s.count }) (λ slot. hash (get_or s.offsets slot 0))
          (λ slot. hash (get_or (set s.offsets s.count offset) slot 0)) (hash offset) sound.links_fit (omega arith) (sound.hashes offset) fits
          (rw at.0 (ap hash here)) (rw at.0 (λ i ne. ap hash (there i ne))) sound.chained in
          rw added_is (record {
            some = sound.some;
            hashes = sound.hashes;
            offsets_fit = length-set s.offsets s.count offset ∙ sound.offsets_fit;
            links_fit = linked-fits N lane s.links sound.links_fit (hash offset) s.count (omega arith) (sound.hashes offset) more;
            count_in = omega (arith, more);
            chained = rw (at.0, at.1) at indexed;
          })

      -- The words of the other lanes stay.
      pub added_elsewhere : (i j : ℕ) → j ≢ lane → j ≢ lane + 1 → word_of (added N hash s offset).links i j ≡ word_of s.links i j
      added_elsewhere i j a b = rw added_is (linked_elsewhere N lane s.links sound.links_fit (hash offset) s.count (omega arith) (sound.hashes offset) more i j a b)

  -- From a cleared set on: what is seen is what was added, and the set stays sound.
  pub all_added : (s : OffsetSet) (xs : List ℕ) → Sound N hash s → s.count ≡ 0 → length xs ≤ N → Sound N hash (added_all N hash s xs) × (seen N (added_all N hash s xs) ≡ xs)
  unfolding added_all
  all_added s [] sound none l = (sound, rw none (seen_none s.offsets s.links))
  all_added s (x ∷ xs) sound none l =
      let before = all_added s xs sound none (omega arith) in
      let room : (added_all N hash s xs).count < N = omega (arith, seen-count (added_all N hash s xs), ap length before.1) in
      (added_sound (added_all N hash s xs) before.0 x room, added-seen (added_all N hash s xs) before.0 x room ∙ ap (λ (l : List ℕ). x ∷ l) before.1)

-- Whatever the two rooms held: after these offsets were added to the cleared set, at most 4,096 of them, an offset is found exactly if it is
-- one of them.
pub found_exactly : (offsets : List ℕ) (links : List (List ℕ)) (secret : List ℕ) (xs : List ℕ) (offset : ℕ) → length offsets ≡ capacity → Rows capacity 8 links
    → length xs ≤ capacity → contains capacity (number_hash secret) (added_all capacity (number_hash secret) (offset_set offsets links 0) xs) offset ≡ has xs offset
found_exactly offsets links secret xs offset fit rows l =
    let all = all_added capacity (number_hash secret) (offset_set offsets links 0) xs
    (cleared_sound capacity (number_hash secret) offsets links (omega arith) (number_hash-below secret) fit rows) refl l in
    contains_is capacity (number_hash secret) (added_all capacity (number_hash secret) (offset_set offsets links 0) xs) all.0 offset
    ∙ ap (λ (ys : List ℕ). has ys offset) all.1
