-- The reflector numbers of the accepted keys: they fit 32 bits, and the highest moves as the history says.
-- Assumes nothing.
use Rattle.std.specs.Prelude.{Option, None, Some}
use mathlib.Core.Path.{◌≡◌, refl, sym, ap}
use mathlib.Core.Bool.{Bool, true, false, not, cond}
use mathlib.Core.List.{List, [], ◌∷◌}
use Prim.Native.Nat.{ℕ, ◌+◌, ◌-◌, ◌%◌, ◌^◌, ◌<◌}
use native.Mathlib.Omega.{arith}
use borrow.Author.Tests.{lt-leb, le-leb}
use lib.Dec.{eqb, ltb, leb}
use Rattle.chains.proofs.Tests.{Test, holds, fails, eq_test, lt_test}
use Rattle.call_types.specs.declared.ReplyKey.{ReplyKey}
use Rattle.call_types.specs.declared.PendingPacket.{PendingPacket}
use Rattle.call_types.specs.declared.Call.{Call}
use Rattle.call_types.specs.declared.Call.TheVariants.{Sent, Accept, Observe, Advance, Idle}
use Rattle.replies.specs.Served.{step_from, highest_by, highest_after, is_reordered}
use Rattle.history.specs.Counting.{has, offset, or_else}
use Rattle.history.specs.Given.{packet_of}
use Rattle.history.specs.Ledger.{Event, remembered, Class, duplicate, unknown, unique, accepted, held, no_packet, ready, after_reply, reply_class, events, new_highest, behind, highest_reflector}
use Rattle.reply_history.specs.Fits.{KeyFits, AllFit}
use Rattle.reply_history.specs.Follows.{as_reflector}

-- ---- every accepted key fits

unfoldable pub KeysFit : List ReplyKey → Type 0
KeysFit [] = Unit
KeysFit (k ∷ ks) = KeyFits k × KeysFit ks

-- an unheld probe's remembering leaves the keys
pub ready-accepted : (N : ℕ) (es : List Event) (k : ReplyKey) (p : Option PendingPacket) → accepted (ready N es k p) ≡ accepted es
unfolding ready accepted
ready-accepted N es k p = go (has (held N es) k.sender)
  where
    go : (b : Bool) → accepted (cond b es (remembered k.sender None 0 (or_else p no_packet) ∷ es)) ≡ accepted es
    go true = refl
    go false = refl

module _ (N : ℕ) where
  after-fits : (x : Class) (es : List Event) (k : ReplyKey) (p : Option PendingPacket) → KeyFits k → KeysFit (accepted es) → KeysFit (accepted (after_reply N x es k p))
  unfolding after_reply accepted KeysFit
  after-fits duplicate es k p f w = w
  after-fits unknown es k p f w = w
  after-fits unique es k p f w = rw (ready-accepted N es k p) (f, w)

  pub accepted_fit : (h : List Call) → AllFit h → KeysFit (accepted (events N h))
  unfolding AllFit events accepted KeysFit
  accepted_fit [] f = tt
  accepted_fit (Sent s ∷ h) f = accepted_fit h f.1
  accepted_fit (Accept a ∷ h) f =
      after-fits (reply_class N (events N h) a.key (packet_of a.pending)) (events N h) a.key (packet_of a.pending) f.0 (accepted_fit h f.1)
  accepted_fit (Observe o ∷ h) f = accepted_fit h f.1
  accepted_fit (Advance t ∷ h) f = accepted_fit h f.1
  accepted_fit (Idle ∷ h) f = accepted_fit h f.1

-- ---- the highest

abbrev pub HighestFits : Option ℕ → Type 0
HighestFits None = Unit
HighestFits (Some n) = n < 2 ^ 32

higher_fits : (r : ℕ) (o : Option ℕ) → r < 2 ^ 32 → HighestFits o → HighestFits (new_highest r o)
higher_fits r None l f = l
higher_fits r (Some h) l f = go (ltb (offset h r) (2 ^ 31))
  where
    go : (b : Bool) → HighestFits (cond b (Some r) (Some h))
    go true = l
    go false = f

pub highest-fits : (ks : List ReplyKey) → KeysFit ks → HighestFits (highest_reflector ks)
unfolding KeysFit highest_reflector
highest-fits [] f = tt
highest-fits (k ∷ ks) f = higher_fits k.reflector (highest_reflector ks) f.0.reflector_in (highest-fits ks f.1)

-- a step of 0 is the same number
same_number : (h r : ℕ) → h < 4294967296 → r < 4294967296 → (r + 4294967296 - h) % 4294967296 ≡ 0 → r ≡ h
same_number h r l m e = omega arith

step_is : (h r : ℕ) → step_from h r ≡ offset h r
unfolding step_from offset
step_is h r = refl

step_zero : (h r : ℕ) → h < 2 ^ 32 → r < 2 ^ 32 → offset h r ≡ 0 → r ≡ h
unfolding offset
step_zero h r l m e = same_number h r l m e

pub highest-same : (r : ℕ) (o : Option ℕ) → r < 2 ^ 32 → HighestFits o → highest_after (as_reflector o) r ≡ as_reflector (new_highest r o)
highest-same r None l f = refl
highest-same r (Some h) l f = rw (step_is h r) (go (eq_test (offset h r) 0) (lt_test (offset h r) (2 ^ 31)))
  where
    go : Test (offset h r ≡ 0) (eqb (offset h r) 0) → Test (offset h r < 2 ^ 31) (ltb (offset h r) (2 ^ 31))
        → highest_by (eqb (offset h r) 0) (not (ltb (offset h r) (2 ^ 31))) h r ≡ as_reflector (cond (ltb (offset h r) (2 ^ 31)) (Some r) (Some h))
    go (holds e t) (holds m u) = rw (t, u) (ap (λ (n : ℕ). as_reflector (Some n)) (sym (step_zero h r f l e)))
    go (holds e t) (fails m u) = absurd (m (rw e (omega arith)))
    go (fails e t) (holds m u) = rw (t, u)
    go (fails e t) (fails m u) = rw (t, u)

not_below : (a b : ℕ) → not (ltb a b) ≡ leb b a
not_below a b = go (lt_test a b)
  where
    go : Test (a < b) (ltb a b) → not (ltb a b) ≡ leb b a
    go (holds l t) = rw (t, lt-leb b a l)
    go (fails l t) = rw (t, le-leb b a (omega arith))

pub behind-same : (r : ℕ) (o : Option ℕ) → is_reordered (as_reflector o) r ≡ behind r o
behind-same r None = refl
behind-same r (Some h) = rw (step_is h r) (not_below (offset h r) (2 ^ 31))
