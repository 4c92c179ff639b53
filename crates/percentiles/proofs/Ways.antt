-- The ways through `percentiles`, each a law of the definition. Assumes nothing.
use mathlib.Core.Path.{◌≡◌, refl, sym, ◌∙◌, ap}
use mathlib.Core.Bool.{Bool, true, false, not, ◌&&◌, ◌||◌}
use mathlib.Core.List.{List, map}
use Prim.Native.Nat.{ℕ, ◌≤◌, ◌<◌}
use native.Mathlib.Omega.{arith}
use borrow.Author.Tests.{lt-ltb, le-ltb, eq-eqb, ne_eqb}
use lib.Dec.{ltb, eqb}
use lib.Ieee.{Float}
use lib.ListN.{length}
use Rattle.quantiles.specs.declared.Quantiles.{Quantiles}
use Rattle.quantile_room.specs.Room.{room_size, sized}
use Rattle.quantiles.specs.State.{crossed}
use Rattle.std.specs.Prelude.{Ok, Err}
use Rattle.limits.specs.declared.Refusal.TheVariants as why
use Rattle.percentiles.specs.Percentiles.{Outcome, outcome, spoilt, refuses, percentile, pick_outcome, percentiles_of}

module _ (q : Quantiles) (room : List ℕ) (ps : List Float) (shown : List ℕ) where
  by_tests : Bool → Bool → Outcome
  by_tests refusal none = pick_outcome refusal (outcome (Err why.WrongRoom) shown) (pick_outcome none (outcome (Ok false) shown) (outcome (Ok true) (map (percentile q room) ps)))

  by : (refusal none : Bool) → refuses q room ps shown ≡ refusal → eqb q.count 0 ≡ none → by_tests refusal none ≡ percentiles_of q room ps shown
  unfolding percentiles_of by_tests
  by refusal none e f = sym (ap (λ (t : Bool). by_tests t (eqb q.count 0)) e ∙ ap (by_tests refusal) f)

  refusal : Bool → Bool → Bool → Bool → Bool → Bool
  refusal right long cross late spoil = not right || (not long || (cross || (late && spoil)))

  refuses-by : (right long cross late spoil : Bool) → sized q.signed room ≡ right → eqb (length shown) (length ps) ≡ long → crossed q ≡ cross → ltb 4096 q.count ≡ late → spoilt q room ps ≡ spoil
      → refuses q room ps shown ≡ refusal right long cross late spoil
  unfolding refuses refusal
  refuses-by right long cross late spoil a b c d e =
      ap (λ (t : Bool). refusal t (eqb (length shown) (length ps)) (crossed q) (ltb 4096 q.count) (spoilt q room ps)) a
      ∙ ap (λ (t : Bool). refusal right t (crossed q) (ltb 4096 q.count) (spoilt q room ps)) b
      ∙ ap (λ (t : Bool). refusal right long t (ltb 4096 q.count) (spoilt q room ps)) c
      ∙ ap (λ (t : Bool). refusal right long cross t (spoilt q room ps)) d
      ∙ ap (refusal right long cross late) e

  refused : refuses q room ps shown ≡ true → outcome (Err why.WrongRoom) shown ≡ percentiles_of q room ps shown
  unfolding by_tests
  refused e = by true (eqb q.count 0) e refl

  -- a room of the wrong size
  pub way_size : (length room ≡ room_size q.signed → ⊥) → outcome (Err why.WrongRoom) shown ≡ percentiles_of q room ps shown
  unfolding refusal
  way_size n =
      refused (refuses-by false (eqb (length shown) (length ps)) (crossed q) (ltb 4096 q.count) (spoilt q room ps) (ne_eqb (length room) (room_size q.signed) n) refl refl refl refl)

  -- a lent answer of the wrong size
  pub way_answer : length room ≡ room_size q.signed → (length shown ≡ length ps → ⊥) → outcome (Err why.WrongRoom) shown ≡ percentiles_of q room ps shown
  unfolding refusal
  way_answer h n =
      refused
      (refuses-by true false (crossed q) (ltb 4096 q.count) (spoilt q room ps) (eq-eqb (length room) (room_size q.signed) h) (ne_eqb (length shown) (length ps) n) refl refl refl)

  module _ (h : length room ≡ room_size q.signed) (l : length shown ≡ length ps) where
    right : sized q.signed room ≡ true
    right = eq-eqb (length room) (room_size q.signed) h

    long : eqb (length shown) (length ps) ≡ true
    long = eq-eqb (length shown) (length ps) l

    -- the minimum above the maximum
    pub way_crossed : crossed q ≡ true → outcome (Err why.WrongRoom) shown ≡ percentiles_of q room ps shown
    unfolding refusal
    way_crossed e = refused (refuses-by true true true (ltb 4096 q.count) (spoilt q room ps) right long e refl refl)

    -- a histogram that is spoilt
    pub way_spoilt : crossed q ≡ false → 4096 < q.count → spoilt q room ps ≡ true → outcome (Err why.WrongRoom) shown ≡ percentiles_of q room ps shown
    unfolding refusal
    way_spoilt e g f = refused (refuses-by true true false true true right long e (lt-ltb 4096 q.count g) f)

    early : crossed q ≡ false → q.count ≤ 4096 → refuses q room ps shown ≡ false
    unfolding refusal
    early e g = refuses-by true true false false (spoilt q room ps) right long e (le-ltb 4096 q.count g) refl

    -- no samples
    pub way_empty : crossed q ≡ false → q.count ≤ 4096 → q.count ≡ 0 → outcome (Ok false) shown ≡ percentiles_of q room ps shown
    unfolding by_tests
    way_empty e g z = by false true (early e g) (eq-eqb q.count 0 z)

    -- the exact mode
    pub way_exact : crossed q ≡ false → q.count ≤ 4096 → (q.count ≡ 0 → ⊥) → outcome (Ok true) (map (percentile q room) ps) ≡ percentiles_of q room ps shown
    unfolding by_tests
    way_exact e g z = by false false (early e g) (ne_eqb q.count 0 z)

    -- a histogram
    pub way_histogram : crossed q ≡ false → 4096 < q.count → spoilt q room ps ≡ false → outcome (Ok true) (map (percentile q room) ps) ≡ percentiles_of q room ps shown
    unfolding by_tests refusal
    way_histogram e g f =
        by false false (refuses-by true true false true false right long e (lt-ltb 4096 q.count g) f) (ne_eqb q.count 0 (some q.count g))
      where
        some : (n : ℕ) → 4096 < n → n ≡ 0 → ⊥
        some n g e = omega arith
