-- The room of the seen offsets holds the transmit offsets since the anchor, and the counters of any class keep that. Assumes nothing.
use mathlib.Core.Path.{◌≡◌, refl, sym, ap, ◌∙◌}
use mathlib.Core.List.{List, [], ◌∷◌}
use Prim.Native.Nat.{ℕ, suc, ◌<◌}
use native.Mathlib.Omega.{arith}
use native.Mathlib.Numerals.{add-one}
use lib.ListN.{length}
use Rattle.call_types.specs.declared.CounterPoint.{CounterPoint}
use Rattle.chains.specs.Links.{linked}
use Rattle.direct.specs.Outcomes.{seen_in}
use Rattle.offset_set.specs.Offsets.{OffsetSet, offset_set, seen, added, lane}
use Rattle.offset_set.proofs.Laws.{Sound, cleared_sound, seen_none, added_room, added-seen, added_sound}
use Rattle.history.specs.DirectLoss.{anchor_of, DirectClass, mismatch, zeros, anchors, jump, again, exceeded, reordered, advanced, next_window}
use Rattle.ledger_steps.specs.Observe.{offsets_after}
use Rattle.observe_history.specs.Direct.{window_of, seen_since}
use Rattle.observe_history.proofs.Windows.{offset_self}
use Rattle.observe_history.proofs.DirectSteps.{sought, offsets_by, RoomFor}

-- a window has seen as many offsets as it has counters
pub seen-length : (w : List CounterPoint) → seen_in (window_of w) ≡ length w
seen-length [] = refl
seen-length (c ∷ w) = refl

module _ (N : ℕ) (by_number : ℕ → ℕ) where
  -- the set holds these offsets, and its chains are whole
  pub record Seen (s : OffsetSet) (xs : List ℕ) : Type 0 where
    pub offsets : seen N s ≡ xs
    pub sound : Sound N by_number s

  -- cleared by its count alone
  pub cleared : (s : OffsetSet) (xs : List ℕ) → Seen s xs → Seen (offset_set s.offsets s.links 0) []
  cleared s xs h = record {
    offsets = seen_none N by_number s.offsets s.links;
    sound = cleared_sound N by_number s.offsets s.links h.sound.some h.sound.hashes h.sound.offsets_fit h.sound.links_fit;
  }

  -- one more
  pub one_more : (s : OffsetSet) (xs : List ℕ) (n : ℕ) → Seen s xs → s.count < N
      → Seen (offset_set (added N by_number s n).offsets (added N by_number s n).links (suc s.count)) (n ∷ xs)
  one_more s xs n h more =
      let is = added_room N by_number s n (by_number n) (linked lane s.links (by_number n) s.count) more refl refl in
      let counted : suc s.count ≡ (added N by_number s n).count = sym (add-one s.count) ∙ ap (λ (t : OffsetSet). t.count) is in
      rw counted (record {
        offsets = added-seen N by_number s h.sound n more ∙ ap (λ (l : List ℕ). n ∷ l) h.offsets;
        sound = added_sound N by_number s h.sound n more;
      })

  module _ (c : CounterPoint) where
    -- the set after counters of a class
    abbrev pub set_after : DirectClass → List CounterPoint → OffsetSet → OffsetSet
    set_after x w s =
        offset_set (offsets_after N by_number (offsets_by x c w) s).offsets (offsets_after N by_number (offsets_by x c w) s).links
        (seen_in (window_of (next_window N x c w)))

    as_it_is : (w : List CounterPoint) (s : OffsetSet) → s.count ≡ length w → Seen s (seen_since w)
        → Seen (offset_set s.offsets s.links (seen_in (window_of w))) (seen_since w)
    as_it_is w s e h = rw (seen-length w, ← e) h

    begun : (w : List CounterPoint) (s : OffsetSet) → 0 < N → Seen s (seen_since w) → Seen (set_after anchors w s) (seen_since (c ∷ []))
    unfolding anchor_of
    begun w s more h = rw (offset_self c.transmitted.0) (one_more (offset_set s.offsets s.links 0) [] 0 (cleared s (seen_since w) h) more)

    grown : (w : List CounterPoint) (s : OffsetSet) → s.count ≡ length w → Seen s (seen_since w) → 0 < length w → length w < N
        → Seen (offset_set (added N by_number s (sought w c)).offsets (added N by_number s (sought w c)).links (suc (length w))) (seen_since (c ∷ w))
    unfolding anchor_of
    grown [] s e h some more = absurd (omega arith)
    grown (d ∷ w) s e h some more = rw (← e) (one_more s (seen_since (d ∷ w)) (sought (d ∷ w) c) h (omega arith))

    pub after_class : (x : DirectClass) (w : List CounterPoint) (s : OffsetSet) → s.count ≡ length w → Seen s (seen_since w) → RoomFor N x w
        → Seen (set_after x w s) (seen_since (next_window N x c w))
    after_class mismatch w s e h r = as_it_is w s e h
    after_class zeros w s e h r = as_it_is w s e h
    after_class anchors w s e h r = begun w s h.sound.some h
    after_class jump w s e h r = cleared s (seen_since w) h
    after_class again w s e h r = cleared s (seen_since w) h
    after_class exceeded w s e h r = cleared s (seen_since w) h
    after_class reordered w s e h r = grown w s e h r.0 r.1
    after_class advanced w s e h r = grown w s e h r.0 r.1
