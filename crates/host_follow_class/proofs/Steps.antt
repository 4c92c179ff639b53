-- What the answers of the functions that are called say together: the class of a follow-up, and that its times are in range. At any capacity N.
-- Assumes nothing.
use mathlib.Core.Path.{◌≡◌, sym, ap, ◌∙◌, subst}
use mathlib.Core.List.{List}
use Prim.Native.Nat.{ℕ}
use lib.IntN.{ℤ}
use Rattle.call_types.specs.declared.FollowUpTelemetry.{FollowUpTelemetry}
use Rattle.call_types.specs.declared.ReplyKey.{ReplyKey}
use Rattle.chains.specs.declared.Ring.{Ring}
use Rattle.correlation.specs.declared.Slot.{Slot}
use Rattle.correlation.specs.Words.{slot_of}
use Rattle.correlation.specs.Class.{Class, Found, found_by, class_of, MatchedInRange}
use Rattle.correlation.proofs.Ranged.{found_in, class_in_lem}
use Rattle.key_ring.specs.Table.{words_at}
use Rattle.ledger_steps.specs.Observe.{class_at, corrected_at, holder_of}
use Rattle.host_follow_class.specs.Class.{ClassOutcome, class_outcome, class_with, class_in}

-- the times of a matched follow-up are in range, whatever words its slot was read from
pub class_ranged : (N : ℕ) (slots : List (List ℕ)) (p own : ℕ) (offset : ℤ) (f : FollowUpTelemetry) → MatchedInRange (class_at N slots p own offset f)
class_ranged N slots p own offset f =
    class_in_lem (found_by f.unknown f.timestamp f.sequence own (slot_of (words_at N slots p))) f.timestamp offset
    (found_in f.unknown f.timestamp f.sequence own (words_at N slots p))

module _ (N : ℕ) where
  -- the class of a follow-up, of the slot that stands at a place
  pub class_as :
      (slots slots' : List (List ℕ)) (at own : ℕ) (offset wide : ℤ) (f : FollowUpTelemetry) (slot : Slot) (found : Found) (c : Class)
      → slot ≡ slot_of (words_at N slots at)
      → found ≡ found_by f.unknown f.timestamp f.sequence own slot
      → c ≡ class_of found f.timestamp wide
      → wide ≡ offset
      → slots' ≡ corrected_at c N slots at
      → class_outcome c slots' ≡ class_with N slots at own offset f
  class_as slots slots' at own offset wide f slot found c e₁ e₂ e₃ e₄ e₅ = rw (e₅, e₃, e₂, e₁, e₄)

module _ (N : ℕ) (by_key : ReplyKey → ℕ) (by_number : ℕ → ℕ) where
  -- a follow-up whose slot was found
  pub found_as :
      (ring : Ring) (keys slots links : List (List ℕ)) (own : ℕ) (offset wide : ℤ) (f : FollowUpTelemetry) (at : ℕ) (out : ClassOutcome)
      → at ≡ holder_of N by_key by_number ring keys slots links f.sequence → out ≡ class_with N slots at own wide f → wide ≡ offset
      → out ≡ class_in N by_key by_number ring keys slots links own offset f
  unfolding class_in
  found_as ring keys slots links own offset wide f at out e h k = h ∙ (λ i. class_with N slots (e i) own (k i) f)

  -- its times are in range
  pub found-ranged :
      (ring : Ring) (keys slots slots' links : List (List ℕ)) (own : ℕ) (offset : ℤ) (f : FollowUpTelemetry) (c : Class)
      → class_outcome c slots' ≡ class_in N by_key by_number ring keys slots links own offset f → MatchedInRange c
  unfolding class_in
  found-ranged ring keys slots slots' links own offset f c e =
      subst MatchedInRange (sym (ap (λ (x : ClassOutcome). x.class) e)) (class_ranged N slots (holder_of N by_key by_number ring keys slots links f.sequence) own offset f)
