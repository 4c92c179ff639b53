-- The ways through a sample, each a law of the definition. Assumes nothing.
use Rattle.std.proofs.Common.{◌≡◌, ℕ, ◌-◌, ◌^◌, ◌<◌, ◌≤◌, Bool, true, false, not, ◌&&◌, ◌||◌, eqb, ltb, List, sym, refl, ap, ◌∙◌, le-ltb, lt-ltb}
use Rattle.buckets.specs.Signed.{index_of}
use Rattle.std.specs.Prelude.{Option, Result}
use Rattle.limits.specs.declared.Refusal.{Refusal}
use Rattle.limits.specs.Refusals.{wrong_room, counts_full}
use Rattle.limits.specs.Limits.{capacity}
use Rattle.quantiles.specs.declared.Quantiles.{Quantiles}
use Rattle.quantile_room.specs.Room.{sized, full_at}
use Rattle.quantiles.specs.State.{crossed}
use Rattle.quantiles.specs.Record.{Outcome, outcome, still, taken, passes, refuses, grown, stored, pick_outcome, recorded}
use Rattle.series.specs.Series.{recorded_beside}

module _ (q : Quantiles) (room : List ℕ) (v : ℕ) where
  -- ---- the sums have no room

  -- what is then answered, by the quantiles' own test
  without : Bool → Outcome
  without r = pick_outcome r (still wrong_room q room) (still counts_full q room)

  beside_none : without (refuses q room v) ≡ recorded_beside false q room v
  unfolding recorded_beside without
  beside_none = refl

  by_test : (r : Bool) → refuses q room v ≡ r → without r ≡ recorded_beside false q room v
  by_test r e = ap without (sym e) ∙ beside_none

  wrong_size : sized q.signed room ≡ false → refuses q room v ≡ true
  unfolding refuses
  wrong_size e = ap (λ (b : Bool). not b || (crossed q || passes q room v)) e

  is_crossed : sized q.signed room ≡ true → crossed q ≡ true → refuses q room v ≡ true
  unfolding refuses
  is_crossed e f = ap (λ (b : Bool). not b || (crossed q || passes q room v)) e ∙ ap (λ (b : Bool). b || passes q room v) f

  passes_none : q.count ≤ 4096 → passes q room v ≡ false
  unfolding passes
  passes_none h = let most : ltb capacity q.count ≡ false = le-ltb 4096 q.count h in rw most

  none-refuses : q.count ≤ 4096 → sized q.signed room ≡ true → crossed q ≡ false → refuses q room v ≡ false
  unfolding refuses
  none-refuses h e f =
      ap (λ (b : Bool). not b || (crossed q || passes q room v)) e ∙ ap (λ (b : Bool). b || passes q room v) f ∙ passes_none h

  pub way_size : sized q.signed room ≡ false → still wrong_room q room ≡ recorded_beside false q room v
  unfolding without
  way_size e = by_test true (wrong_size e)

  pub way_crossed : sized q.signed room ≡ true → crossed q ≡ true → still wrong_room q room ≡ recorded_beside false q room v
  unfolding without
  way_crossed e f = by_test true (is_crossed e f)

  pub way_sums : q.count ≤ 4096 → sized q.signed room ≡ true → crossed q ≡ false → still counts_full q room ≡ recorded_beside false q room v
  unfolding without
  way_sums h e f = by_test false (none-refuses h e f)

  -- ---- a histogram: the value's bucket and the total of its block

  abbrev full : Bool
  full = full_at q.signed room (index_of q.signed v)

  passes-by : 4096 < q.count → passes q room v ≡ full
  unfolding passes
  passes-by h = ap (λ (t : Bool). t && full) (lt-ltb 4096 q.count h)

  refuses-by : sized q.signed room ≡ true → crossed q ≡ false → 4096 < q.count → refuses q room v ≡ full
  unfolding refuses
  refuses-by e f h = ap (λ (b : Bool). not b || (crossed q || passes q room v)) e ∙ ap (λ (b : Bool). b || passes q room v) f ∙ passes-by h

  pub way_full : sized q.signed room ≡ true → crossed q ≡ false → 4096 < q.count → full ≡ true → still wrong_room q room ≡ recorded_beside false q room v
  unfolding without
  way_full e f h t = by_test true (refuses-by e f h ∙ t)

  pub way_left : sized q.signed room ≡ true → crossed q ≡ false → 4096 < q.count → full ≡ false → still counts_full q room ≡ recorded_beside false q room v
  unfolding without
  way_left e f h t = by_test false (refuses-by e f h ∙ t)

  -- ---- the sums have room

  beside-fits : recorded q room v ≡ recorded_beside true q room v
  unfolding recorded_beside recorded
  beside-fits = go (refuses q room v)
    where
      go : (r : Bool) → pick_outcome r (still wrong_room q room) (pick_outcome (eqb q.count (2 ^ 64 - 1)) (still 0 q room) (taken (grown q v) (stored q room v)))
          ≡ pick_outcome r (still wrong_room q room) (pick_outcome r (still wrong_room q room) (pick_outcome (eqb q.count (2 ^ 64 - 1)) (still 0 q room) (taken (grown q v) (stored q room v))))
      go true = refl
      go false = refl

  pub way_fits : (a : Result (Option Quantiles) Refusal) (after : List ℕ) (fits : Bool) → fits ≡ true → outcome q a after ≡ recorded q room v
      → outcome q a after ≡ recorded_beside fits q room v
  way_fits a after fits f left = left ∙ beside-fits ∙ ap (λ (t : Bool). recorded_beside t q room v) (sym f)
