-- A probe is taken out of the middle: the others are held as they were, and their chains are whole.
-- Assumes nothing.
use Rattle.std.specs.Prelude.{None, Some, slice_get}
use mathlib.Core.Path.{◌≡◌, refl, sym, ap, ap₂, ◌∙◌}
use mathlib.Core.Bool.{Bool, true, false, ◌||◌, cond}
use mathlib.Core.Logic.{◌≢◌}
use mathlib.Core.List.{List, [], ◌∷◌}
use Prim.Native.Nat.{ℕ, zero, suc, ◌+◌, ◌-◌, ◌≤◌, ◌<◌}
use native.Mathlib.Omega.{arith}
use native.Mathlib.Nat.{zero-add, suc-add}
use lib.Dec.{eqb}
use lib.ListN.{length, get_or, length-set, length-map, get_or-map}
use lib.Seq.{get_or-set_same, get_or-set_other}
use Rattle.chains.specs.Rings.{wrap, contents}
use Rattle.chains.specs.Links.{word_of, newest, older, Rows}
use Rattle.chains.specs.Whole.{Indexed}
use Rattle.chains.proofs.Tests.{Test, holds, fails, eq_test, eq_true, true_not_false}
use Rattle.chains.proofs.Places.{place_of_slot, wrap-below}
use Rattle.chains.proofs.Contents.{contents-same}
use Rattle.chains.proofs.Lanes.{set_word_lem, word_same, word-other, word-other_row}
use Rattle.probe_ring.specs.declared.HeldProbe.{HeldProbe}
use Rattle.probe_ring.specs.Row.{sequence_of, held_probe_of}
use Rattle.probe_ring.specs.Held as list
use Rattle.probe_ring.specs.Held.{others, Distinct}
use Rattle.probe_ring.specs.Rooms.{Rooms, rooms, lane, moved, move_row, move_link, mended_link, mend_row, mend_newest, closed_up, taken_out, held}
use Rattle.probe_ring.proofs.Mends.{mends}
use Rattle.probe_ring.proofs.Removal.{removed_indexed}
use Rattle.probe_ring.proofs.Moved.{moved-fits, moved_out, moved_in, moved_keeps}
use Rattle.probe_ring.proofs.Lists.{others-absent, distinct-others}
use Rattle.probe_ring.proofs.Laws.{Sound}

-- ---- lists: one element out

-- the list without its element i
abbrev cut : {A : Type 0} → ℕ → List A → List A
cut i [] = []
cut zero (x ∷ xs) = xs
cut (suc i) (x ∷ xs) = x ∷ cut i xs

-- the entries below place p stay, and those from p on are what stood one place up
contents_cut : {A : Type 0} (N : ℕ) (at at' : ℕ → A) (head p d : ℕ) → ((i : ℕ) → i < p → at' (wrap N (head + i)) ≡ at (wrap N (head + i)))
    → ((i : ℕ) → p ≤ i → i < d + p → at' (wrap N (head + i)) ≡ at (wrap N (head + suc i)))
    → contents N at' head (d + p) ≡ cut d (contents N at head (suc (d + p)))
unfolding contents
contents_cut N at at' head p zero low mid = rw (zero-add p) (contents-same N at at' head p low)
contents_cut {A} N at at' head p (suc d) low mid =
    rw (suc-add d p)
    (ap₂ (λ (x : A) (xs : List A). x ∷ xs) (mid (d + p) (omega arith) (omega arith)) (contents_cut N at at' head p d low (λ i l m. mid i l (omega arith))))

elem_contents : {A : Type 0} (N : ℕ) (at : ℕ → A) (head d p : ℕ) → slice_get (contents N at head (suc (d + p))) d ≡ Some (at (wrap N (head + p)))
unfolding contents
elem_contents N at head zero p = rw (zero-add p)
elem_contents N at head (suc d) p = rw (suc-add d p) (elem_contents N at head d p)

holds_at : (ps : List HeldProbe) (i s : ℕ) (q : HeldProbe) → slice_get ps i ≡ Some q → q.sequence ≡ s → list.holds ps s ≡ true
unfolding list.holds
holds_at [] i s q e f = absurd (never e)
  where
    never : None ≡ Some q → ⊥
    never g = let z : ◌≡◌ {A = ℕ} 0 1 = cc in omega arith
holds_at (x ∷ ps) zero s q e f = let same : x ≡ q = cc in rw (same, f, eq_true s s refl)
holds_at (x ∷ ps) (suc i) s q e f = rw (holds_at ps i s q e f) (or_true (eqb s x.sequence))
  where
    or_true : (b : Bool) → (b || true) ≡ true
    or_true true = refl
    or_true false = refl

-- where no sequence stands twice, taking one out is cutting its place
others_cut : (ps : List HeldProbe) (i s : ℕ) (q : HeldProbe) → Distinct ps → slice_get ps i ≡ Some q → q.sequence ≡ s → others s ps ≡ cut i ps
unfolding Distinct others
others_cut [] i s q d e f = refl
others_cut (x ∷ ps) zero s q d e f =
    let same : x ≡ q = cc in
    let here : x.sequence ≡ s = ap (λ (y : HeldProbe). y.sequence) same ∙ f in
    rw (here, eq_true s s refl) (others-absent s ps (rw here at d.0))
others_cut (x ∷ ps) (suc i) s q d e f = go (eq_test s x.sequence) (others_cut ps i s q d.1 e f)
  where
    go : Test (s ≡ x.sequence) (eqb s x.sequence) → others s ps ≡ cut i ps → cond (eqb s x.sequence) (others s ps) (x ∷ others s ps) ≡ x ∷ cut i ps
    go (holds g t) ih = absurd (true_not_false (holds_at ps i s q e f) (rw (← g) at d.0))
    go (fails g t) ih = rw t (ap (λ (l : List HeldProbe). x ∷ l) ih)

-- ---- the links to the newest, mended

module _ (N : ℕ) (mend : ℕ → ℕ) (links : List (List ℕ)) (fit : Rows N 8 links) where
  mend_row_lem : (i : ℕ) → get_or (mend_newest mend links) i [] ≡ mend_row mend (get_or links i [])
  unfolding mend_newest
  mend_row_lem i = get_or-map (mend_row mend) links i []

  mend_fits : Rows N 8 (mend_newest mend links)
  unfolding mend_newest
  mend_fits = record {
    rows_are = length-map links (mend_row mend) ∙ fit.rows_are;
    widths_are = λ i l. ap length (get_or-map (mend_row mend) links i []) ∙ length-set (get_or links i []) lane (mend (get_or (get_or links i []) lane 0)) ∙ fit.widths_are i l;
  }

  mend_newest_lem : (h : ℕ) → h < N → newest lane (mend_newest mend links) h ≡ mend (newest lane links h)
  mend_newest_lem h l =
      ap (λ (row : List ℕ). get_or row lane 0) (mend_row_lem h)
      ∙ get_or-set_same (get_or links h []) lane (mend (get_or (get_or links h []) lane 0)) 0 (omega (arith, fit.widths_are h l))

  mend_elsewhere : (i j : ℕ) → j ≢ lane → word_of (mend_newest mend links) i j ≡ word_of links i j
  mend_elsewhere i j ne =
      ap (λ (row : List ℕ). get_or row j 0) (mend_row_lem i) ∙ get_or-set_other (get_or links i []) lane j (mend (get_or (get_or links i []) lane 0)) 0 ne

-- ---- moves of rows and of links

module _ (N : ℕ) where
  rows_keep : (to from : ℕ) (room : List (List ℕ)) → to < N → length room ≡ N → length (move_row to from room) ≡ N
  rows_keep to from room l k = length-set room to (get_or room from []) ∙ k

  rows_here : (to from : ℕ) (room : List (List ℕ)) → to < N → length room ≡ N → get_or (move_row to from room) to [] ≡ get_or room from []
  rows_here to from room l k = get_or-set_same room to (get_or room from []) [] (omega arith)

  rows_there : (to from i : ℕ) (room : List (List ℕ)) → to < N → length room ≡ N → i ≢ to → get_or (move_row to from room) i [] ≡ get_or room i []
  rows_there to from i room l k ne = get_or-set_other room to i (get_or room from []) [] ne

  module _ (mend : ℕ → ℕ) where
    links_keep : (to from : ℕ) (room : List (List ℕ)) → to < N → Rows N 8 room → Rows N 8 (move_link mend to from room)
    links_keep to from room l k = set_word_lem N 8 room k to l (lane + 1) (mend (older lane room from))

    links_here : (to from : ℕ) (room : List (List ℕ)) → to < N → Rows N 8 room → older lane (move_link mend to from room) to ≡ mend (older lane room from)
    links_here to from room l k = word_same N 8 room k to l (lane + 1) (mend (older lane room from)) (omega arith)

    links_there : (to from i : ℕ) (room : List (List ℕ)) → to < N → Rows N 8 room → i ≢ to → older lane (move_link mend to from room) i ≡ older lane room i
    links_there to from i room l k ne = word-other_row N 8 room k to l (lane + 1) (mend (older lane room from)) i (lane + 1) ne

    links_elsewhere : (i j : ℕ) → j ≢ lane + 1 → (to from : ℕ) (room : List (List ℕ)) → to < N → Rows N 8 room → word_of (move_link mend to from room) i j ≡ word_of room i j
    links_elsewhere i j ne to from room l k = word-other N 8 room k to l (lane + 1) (mend (older lane room from)) i j ne

-- ---- the probe at place p goes, with d probes above it

module _ (N : ℕ) (hash : ℕ → ℕ) (r : Rooms) (sound : Sound N hash r) (p d : ℕ) (len_is : r.ring.len ≡ suc (d + p)) where
  abbrev slot : ℕ
  slot = wrap N (r.ring.head + p)

  abbrev mend : ℕ → ℕ
  mend = mended_link N (N - r.ring.head) p (older lane r.links slot)

  abbrev rows' : List (List ℕ)
  rows' = moved N move_row slot d r.rows

  abbrev links' : List (List ℕ)
  links' = moved N (move_link mend) slot d (mend_newest mend r.links)

  inside : p + d < N
  inside = omega (arith, len_is, sound.ring_fits.len_in)

  slot_in_lem : slot < N
  slot_in_lem = wrap-below N (r.ring.head + p) (omega (arith, inside, sound.ring_fits.head_in))

  taken_is : taken_out N r slot ≡ rooms rows' links' (record { head = r.ring.head; len = d + p })
  unfolding taken_out closed_up
  taken_is =
      let less : r.ring.len - 1 ≡ d + p = omega (arith, len_is) in
      let above : d + p - p ≡ d = omega arith in
      rw (place_of_slot N r.ring.head p sound.ring_fits.head_in (omega (arith, inside)), less, above)

  row_low : (i : ℕ) → i < p → get_or rows' (wrap N (r.ring.head + i)) [] ≡ get_or r.rows (wrap N (r.ring.head + i)) []
  row_low i l =
      moved_out N r.ring.head sound.ring_fits.head_in move_row (λ room i. get_or room i []) (λ x. x) (λ room. length room ≡ N) (rows_keep N) (rows_here N) (rows_there N)
      p d r.rows i inside sound.rows_fit (omega (arith, inside)) (λ a b. omega (arith, a))

  row_high : (i : ℕ) → p ≤ i → i < d + p → get_or rows' (wrap N (r.ring.head + i)) [] ≡ get_or r.rows (wrap N (r.ring.head + suc i)) []
  row_high i l m =
      moved_in N r.ring.head sound.ring_fits.head_in move_row (λ room i. get_or room i []) (λ x. x) (λ room. length room ≡ N) (rows_keep N) (rows_here N) (rows_there N)
      p d r.rows i inside sound.rows_fit l (omega arith)

  links_fit : Rows N 8 links'
  links_fit =
      moved-fits N r.ring.head sound.ring_fits.head_in (move_link mend) (λ room i. older lane room i) mend (Rows N 8) (links_keep N mend) (links_here N mend) (links_there N mend)
      p d (mend_newest mend r.links) inside (mend_fits N mend r.links sound.links_fit)

  link-low : (i : ℕ) → i < p → older lane links' (wrap N (r.ring.head + i)) ≡ older lane r.links (wrap N (r.ring.head + i))
  link-low i l =
      moved_out N r.ring.head sound.ring_fits.head_in (move_link mend) (λ room i. older lane room i) mend (Rows N 8) (links_keep N mend) (links_here N mend) (links_there N mend)
      p d (mend_newest mend r.links) i inside (mend_fits N mend r.links sound.links_fit) (omega (arith, inside)) (λ a b. omega (arith, a))
      ∙ mend_elsewhere N mend r.links sound.links_fit (wrap N (r.ring.head + i)) (lane + 1) (λ e. omega (arith, e))

  link-high : (i : ℕ) → p ≤ i → i < d + p → older lane links' (wrap N (r.ring.head + i)) ≡ mend (older lane r.links (wrap N (r.ring.head + suc i)))
  link-high i l m =
      moved_in N r.ring.head sound.ring_fits.head_in (move_link mend) (λ room i. older lane room i) mend (Rows N 8) (links_keep N mend) (links_here N mend) (links_there N mend)
      p d (mend_newest mend r.links) i inside (mend_fits N mend r.links sound.links_fit) l (omega arith)
      ∙ ap mend (mend_elsewhere N mend r.links sound.links_fit (wrap N (r.ring.head + suc i)) (lane + 1) (λ e. omega (arith, e)))

  -- words that the moves do not touch
  link_elsewhere : (i j : ℕ) → j ≢ lane + 1 → word_of links' i j ≡ word_of (mend_newest mend r.links) i j
  link_elsewhere i j ne =
      moved_keeps N (move_link mend) (λ room. word_of room i j) (Rows N 8) (links_keep N mend) (links_elsewhere N mend i j ne) slot d (mend_newest mend r.links) slot_in_lem
      (mend_fits N mend r.links sound.links_fit)

  chained' : Indexed N (λ slot. hash (sequence_of (get_or rows' slot []))) (newest lane links') (older lane links') r.ring.head (d + p)
  chained' =
      removed_indexed N (λ slot. hash (sequence_of (get_or r.rows slot []))) (newest lane r.links) (older lane r.links) r.ring.head p (d + p) mend
      (mends N r.ring.head sound.ring_fits.head_in p (d + p) (older lane r.links slot) (omega arith) (omega (arith, inside))) (omega arith) (rw len_is at sound.chained)
      (λ slot. hash (sequence_of (get_or rows' slot []))) (newest lane links') (older lane links')
      (λ i l. ap (λ (row : List ℕ). hash (sequence_of row)) (row_low i l)) (λ i l m. ap (λ (row : List ℕ). hash (sequence_of row)) (row_high i l m))
      N (λ i. sound.hashes (sequence_of (get_or rows' i [])))
      (λ h l. link_elsewhere h lane (λ e. omega (arith, e)) ∙ mend_newest_lem N mend r.links sound.links_fit h l) link-low link-high

  held-others : contents N (λ slot. held_probe_of (get_or rows' slot [])) r.ring.head (d + p) ≡ others (sequence_of (get_or r.rows slot [])) (held N r)
  unfolding held held_probe_of
  held-others =
      contents_cut N (λ slot. held_probe_of (get_or r.rows slot [])) (λ slot. held_probe_of (get_or rows' slot [])) r.ring.head p d (λ i l. ap held_probe_of (row_low i l)) (λ i l m. ap held_probe_of (row_high i l m))
      ∙ sym (rw len_is (others_cut (contents N (λ slot. held_probe_of (get_or r.rows slot [])) r.ring.head (suc (d + p))) d (sequence_of (get_or r.rows slot []))
      (held_probe_of (get_or r.rows slot [])) (rw len_is at sound.distinct) (elem_contents N (λ slot. held_probe_of (get_or r.rows slot [])) r.ring.head d p) refl))

  held_after : held N (rooms rows' links' (record { head = r.ring.head; len = d + p })) ≡ others (sequence_of (get_or r.rows slot [])) (held N r)
  unfolding held
  held_after = held-others

  -- THE OTHERS ARE HELD AS THEY WERE.
  pub taken-held : held N (taken_out N r slot) ≡ others (sequence_of (get_or r.rows slot [])) (held N r)
  taken-held = ap (held N) taken_is ∙ held_after

  -- Their chains are whole.
  pub taken_sound : Sound N hash (taken_out N r slot)
  taken_sound = rw taken_is (record {
    hashes = sound.hashes;
    rows_fit =
        moved-fits N r.ring.head sound.ring_fits.head_in move_row (λ room i. get_or room i []) (λ x. x) (λ room. length room ≡ N) (rows_keep N) (rows_here N) (rows_there N)
        p d r.rows inside sound.rows_fit;
    links_fit = links_fit;
    ring_fits = record { head_in = sound.ring_fits.head_in; len_in = omega (arith, inside) };
    chained = chained';
    distinct = rw held_after (distinct-others (sequence_of (get_or r.rows slot [])) (held N r) sound.distinct);
  })

  -- The words of the other lanes stay.
  pub taken_elsewhere : (i j : ℕ) → j ≢ lane → j ≢ lane + 1 → word_of (taken_out N r slot).links i j ≡ word_of r.links i j
  taken_elsewhere i j a b = rw taken_is (link_elsewhere i j b ∙ mend_elsewhere N mend r.links sound.links_fit i j a)
