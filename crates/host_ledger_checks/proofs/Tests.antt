-- Tests that are made one after the other, or in another order, say what the definitions say. Assumes nothing.
use mathlib.Core.Path.{◌≡◌, refl, sym, ap, ◌∙◌}
use mathlib.Core.Bool.{Bool, true, false, not, ◌&&◌, and_comm, and-false, true≢false, false≢true}
use Prim.Native.Nat.{ℕ}
use lib.Dec.{ltb}
use Rattle.limits.specs.Limits.{most_calls}
use Rattle.limits.specs.Refusals.{wrong_room, counts_full}
use Rattle.replies.specs.Bounds.{replies_fit}
use Rattle.delays.specs.Bounds as delays
use Rattle.clock_quality.specs.Bounds as clock_quality
use Rattle.direct.specs.Outcomes.{counts_in_bounds}
use Rattle.follow_ups.specs.Bounds as follow_ups
use Rattle.ledger_state.specs.declared.Ledger.{Ledger}
use Rattle.ledger_state.specs.Refusal.{first_refusal, room_for_call}

pub no : (b : Bool) → not b ≡ true → b ≡ false
no true h = absurd (false≢true h)
no false h = refl

pub yes : (b : Bool) → not b ≡ false → b ≡ true
yes true h = refl
yes false h = absurd (true≢false h)

-- ---- `rings_fit`: a and b of the ring of keys, c and d of the probes', e of the seen offsets

module _ (a b c d e : Bool) where
  abbrev All : Bool
  All = (a && b) && (c && d) && e

  pub first_fails : not a ≡ true → false ≡ All
  first_fails h = rw (no a h)

  module _ (ha : not a ≡ false) where
    pub second_fails : not b ≡ true → false ≡ All
    second_fails h = rw (yes a ha, no b h)

    module _ (hb : not b ≡ false) where
      pub third_fails : not c ≡ true → false ≡ All
      third_fails h = rw (yes a ha, yes b hb, no c h)

      module _ (hc : not c ≡ false) where
        pub fourth_fails : not d ≡ true → false ≡ All
        fourth_fails h = rw (yes a ha, yes b hb, yes c hc, no d h)

        pub last_decides : not d ≡ false → e ≡ All
        last_decides h = rw (yes a ha, yes b hb, yes c hc, yes d h)

-- ---- `room_for_call`: p replies, d direct loss, f follow-ups, q clock quality, r round trips, l delays

counts_regrouped : (p d f q r l : Bool) → (p && d && f && q) && (r && l) ≡ p && r && d && (f && l && q)
counts_regrouped false d f q r l = refl
counts_regrouped true false f q true l = refl
counts_regrouped true false f q false l = refl
counts_regrouped true true f q false l = and-false (f && q)
counts_regrouped true true false q true l = refl
counts_regrouped true true true q true l = and_comm q l

pub room_as : (w : Ledger) (p d f q r l : Bool)
    → p ≡ replies_fit w.counts.replies → d ≡ counts_in_bounds w.counts.direct.counts → f ≡ follow_ups.counts_fit w.counts.follow.counts
    → q ≡ clock_quality.counts_fit w.counts.follow.quality → r ≡ delays.counts_fit w.counts.rtt → l ≡ delays.counts_fit w.counts.follow.delay
    → (p && d && f && q) && (r && l) && ltb w.calls most_calls ≡ room_for_call w
room_as w p d f q r l ep ed ef eq er el =
    and_comm ((p && d && f && q) && (r && l)) (ltb w.calls most_calls)
    ∙ ap (λ (b : Bool). ltb w.calls most_calls && b) (counts_regrouped p d f q r l)
    ∙ (λ i. ltb w.calls most_calls && (ep i && er i && ed i && (ef i && el i && eq i)))

-- ---- `refusal`

module _ (placed counted : Bool) where
  pub none : placed ≡ true → counted ≡ true → 0 ≡ first_refusal placed true true counted true true
  none h k = rw (h, k)

  pub full : placed ≡ true → counted ≡ false → counts_full ≡ first_refusal placed true true counted true true
  full h k = rw (h, k)

  pub wrong : placed ≡ false → wrong_room ≡ first_refusal placed true true counted true true
  wrong h = rw h
