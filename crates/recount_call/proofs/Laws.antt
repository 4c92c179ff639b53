-- The marks by the tests that the code makes. Assumes nothing.
use Rattle.std.specs.Prelude.{Option, Some, None}
use mathlib.Core.Path.{◌≡◌, refl, sym}
use mathlib.Core.Bool.{Bool, true, false}
use mathlib.Core.List.{List}
use Prim.Native.Nat.{ℕ, ◌+◌, ◌-◌, ◌^◌, ◌<◌}
use native.Mathlib.Omega.{arith}
use lib.Dec.{leb, ltb}
use borrow.Author.Tests.{le-leb, lt-leb, ltb-true, ltb-false}
use Rattle.call_types.specs.declared.PendingPacket.{PendingPacket}
use Rattle.call_types.specs.declared.Reply.{Reply}
use Rattle.call_types.specs.declared.ReplyObservation.{ReplyObservation}
use Rattle.ranges.specs.Ranges.{in_range}
use Rattle.history.specs.Counting.{has}
use Rattle.history.specs.Ledger.{Event, has_key, accepted, rememberings, awaiting}
use Rattle.recount_back.specs.Back.{awaits}
use Rattle.recount_call.specs.Mark.{reply_mark, observe_mark}

-- the test of the code is that of the definition
pub late_is : (timeout time : ℕ) → timeout < 2 ^ 64 → ltb (2 ^ 64 - 1 - timeout) time ≡ leb (2 ^ 64) (time + timeout)
late_is timeout time fits = go (ltb (2 ^ 64 - 1 - timeout) time) refl
  where
    go : (b : Bool) → ltb (2 ^ 64 - 1 - timeout) time ≡ b → b ≡ leb (2 ^ 64) (time + timeout)
    go true e = sym (le-leb (2 ^ 64) (time + timeout) (omega (arith, ltb-true (2 ^ 64 - 1 - timeout) time e)))
    go false e = sym (lt-leb (2 ^ 64) (time + timeout) (omega (arith, ltb-false (2 ^ 64 - 1 - timeout) time e)))

module _ (es : List Event) (a : Reply) where
  pub known_key : has_key (accepted es) a.key ≡ true → 2 ≡ reply_mark es a
  unfolding reply_mark
  known_key k = rw k

  pub known_probe : has_key (accepted es) a.key ≡ false → has (rememberings es) a.key.sender ≡ true → 4 ≡ reply_mark es a
  unfolding reply_mark
  known_probe k p = rw (k, p)

  pub no_packet : has_key (accepted es) a.key ≡ false → has (rememberings es) a.key.sender ≡ false → (x : Option PendingPacket) → a.pending ≡ x → x ≡ None → 3 ≡ reply_mark es a
  unfolding reply_mark
  no_packet k p x e n = rw (k, p, e, n)

  pub has-packet : has_key (accepted es) a.key ≡ false → has (rememberings es) a.key.sender ≡ false → (x : Option PendingPacket) (q : PendingPacket) → a.pending ≡ x → x ≡ Some q → 5 ≡ reply_mark es a
  unfolding reply_mark
  has-packet k p x q e n = rw (k, p, e, n)

module _ (es : List Event) (o : ReplyObservation) where
  pub out_of_range : in_range o ≡ false → 0 ≡ observe_mark es o
  unfolding observe_mark
  out_of_range r = rw r

  pub awaited : in_range o ≡ true → awaits (awaiting es) o.key ≡ true → 1 ≡ observe_mark es o
  unfolding observe_mark
  awaited r k = rw (r, k)

  pub not_awaited : in_range o ≡ true → awaits (awaiting es) o.key ≡ false → 0 ≡ observe_mark es o
  unfolding observe_mark
  not_awaited r k = rw (r, k)
