-- THE CLASS OF A FOLLOW-UP THAT LOOKING BACK FINDS IS THAT OF THE HISTORY: of few replies none is evicted. Assumes nothing.
use Rattle.std.specs.Prelude.{Option, None, slice_get}
use mathlib.Core.Path.{◌≡◌, refl, ap, ◌∙◌}
use mathlib.Core.List.{List, [], ◌∷◌}
use Prim.Native.Nat.{ℕ, zero, suc, ◌-◌, ◌≤◌, ◌<◌}
use native.Mathlib.Omega.{arith}
use lib.IntN.{ℤ}
use lib.ListN.{length}
use Rattle.call_types.specs.declared.ReplyKey.{ReplyKey}
use Rattle.call_types.specs.declared.FollowUpTelemetry.{FollowUpTelemetry}
use Rattle.history.specs.Given.{follow_of}
use Rattle.history.specs.Ledger.{Event, remembered, replied, observed, accepted}
use Rattle.history.specs.FollowUps.{Slot, record_of, evicting, following, observing, evicted, slot_at, follow_number, follow_class, class_at}
use Rattle.recount_follow.specs.Slots.{slot_in}
use Rattle.recount_follow.specs.Brief.{brief_of, class_of}
use Rattle.recount_follow.proofs.Laws.{class_is}

past_end : {A : Type 0} (xs : List A) (i : ℕ) → length xs ≤ i → slice_get xs i ≡ None
past_end [] i l = refl
past_end (x ∷ xs) zero l = absurd (omega (arith, l))
past_end (x ∷ xs) (suc i) l = past_end xs i (omega (arith, l))

module _ (N copies : ℕ) where
  none-evicted : (ks : List ReplyKey) (r : ℕ) (s : Slot) → length ks < N → evicting (evicted N copies ks) r s ≡ s
  none-evicted ks r s l = ap (λ (x : Option ReplyKey). evicting x r s) (past_end ks (N - 1) (omega (arith, l)))

  pub slot_in_lem : (es : List Event) → length (accepted es) ≤ N → (r : ℕ) → slot_at N copies es r ≡ slot_in copies es r
  unfolding slot_at slot_in accepted
  slot_in_lem [] l r = refl
  slot_in_lem (remembered s o t p ∷ es) l r = slot_in_lem es l r
  slot_in_lem (replied k p ∷ es) l r = none-evicted (accepted es) r (slot_at N copies es r) l ∙ slot_in_lem es (omega (arith, l)) r
  slot_in_lem (observed o ∷ es) l r =
      ap (λ (slot : ℕ → Slot). observing (record_of copies o) o.key.reflector r (following (follow_of o.follow) o.key.reflector o.offset slot r)) (λ i q. slot_in_lem es l q i)

  -- THE CLASS
  pub class_back : (f : FollowUpTelemetry) (own : ℕ) (offset : ℤ) (es : List Event) → length (accepted es) ≤ N
      → follow_number (class_at N copies f own offset es) ≡ class_of f own offset (brief_of (slot_in copies es f.sequence))
  class_back f own offset es l = ap (λ (s : Slot). follow_number (follow_class f own offset s)) (slot_in_lem es l f.sequence) ∙ class_is f own offset (slot_in copies es f.sequence)
