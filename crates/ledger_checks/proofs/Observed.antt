-- The refusal of `observe` by the branch that the code takes: the rooms and rings first, and the newest key only in those that fit. Assumes nothing.
use mathlib.Core.Path.{◌≡◌, sym, ap, ◌∙◌}
use mathlib.Core.Bool.{Bool, true, false, not, ◌&&◌}
use mathlib.Core.List.{List}
use Prim.Native.Nat.{ℕ}
use lib.ListN.{length}
use borrow.Author.Tests.{not-true, not-false}
use Rattle.call_types.specs.declared.ReplyObservation.{ReplyObservation}
use Rattle.ranges.specs.Ranges.{in_range}
use Rattle.ledger_state.specs.declared.Ledger.{Ledger}
use Rattle.ledger_state.specs.Refusal.{first_refusal, sized, rings_fit, room_for_call}
use Rattle.ledger_steps.specs.Refusals.{awaits_key, refusal_of_observe}

module _ (l : Ledger) (keys : List (List ℕ)) (slots offsets links : ℕ) where
  -- the test with the ring's part as the code has it
  abbrev pub placed_by : Bool → Bool
  placed_by fit = sized (length keys) && sized slots && sized offsets && sized links && fit

  pub placed_is : (fit : Bool) → fit ≡ rings_fit l → not (placed_by fit) ≡ false → placed_by (rings_fit l) ≡ true
  placed_is fit e h = ap placed_by (sym e) ∙ not-false (placed_by fit) h

  pub misplaced_is : (o : ReplyObservation) (fit : Bool) → fit ≡ rings_fit l → not (placed_by fit) ≡ true → 5 ≡ refusal_of_observe l keys slots offsets links o
  unfolding refusal_of_observe
  misplaced_is o fit e h =
      sym (ap (λ (t : Bool). first_refusal t (in_range o) true (room_for_call l) (awaits_key l keys o.key) true) (ap placed_by (sym e) ∙ not-true (placed_by fit) h))

  pub tested_is : (o : ReplyObservation) → placed_by (rings_fit l) ≡ true →
      first_refusal true (in_range o) true (room_for_call l) (awaits_key l keys o.key) true ≡ refusal_of_observe l keys slots offsets links o
  unfolding refusal_of_observe
  tested_is o h = ap (λ (t : Bool). first_refusal t (in_range o) true (room_for_call l) (awaits_key l keys o.key) true) (sym h)
