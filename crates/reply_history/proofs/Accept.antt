-- A served `accept` keeps what the ledger shows of replies, and answers as the history says.
-- Assumes nothing.
use mathlib.Core.Path.{◌≡◌, refl}
use mathlib.Core.List.{List}
use Prim.Native.Nat.{ℕ, ◌^◌, ◌<◌}
use Rattle.call_types.specs.declared.ReplyKey.{ReplyKey}
use Rattle.call_types.specs.declared.Reply.{Reply}
use Rattle.call_types.specs.declared.Call.{Call}
use Rattle.history.specs.Given.{packet_of}
use Rattle.history.specs.Ledger.{Class, duplicate, unknown, unique, reply_class, events}
use Rattle.ledger_steps.specs.Rooms.{LedgerStand}
use Rattle.reply_history.specs.Fits.{KeyFits, AllFit}
use Rattle.reply_history.specs.Stands.{accept_of}
use Rattle.reply_history.specs.Follows.{RepliesFollow}
use Rattle.reply_history.proofs.Classes.{AcceptFollows, by, accept_by_class, duplicate_follows, unknown_follows}
use Rattle.reply_history.proofs.Unique.{unique_follows}

module _ (N : ℕ) (some-room : 0 < N) (by_key : ReplyKey → ℕ) (by_number : ℕ → ℕ) (key_below : (k : ReplyKey) → by_key k < N) (number-below : (r : ℕ) → by_number r < N)
    (copies : ℕ) (copies_in : copies < 2 ^ 16) (h : List Call) (all_fit : AllFit h) (s : LedgerStand) (a : Reply) (fits : KeyFits a.key)
    (f : RepliesFollow N by_key by_number copies h s) where
  by_class : (x : Class) → reply_class N (events N h) a.key (packet_of a.pending) ≡ x
      → AcceptFollows N some-room by_key by_number copies h s a fits f (by N some-room by_key by_number copies h s a fits f x)
  by_class duplicate e = duplicate_follows N some-room by_key by_number copies h s a fits f e
  by_class unknown e = unknown_follows N some-room by_key by_number copies h s a fits f e
  by_class unique e = unique_follows N some-room by_key by_number key_below number-below copies copies_in h all_fit s a fits f e

  -- WHAT IT LEAVES AND WHAT IT ANSWERS FOLLOW FROM THE SERVED CALLS.
  pub accept_follows : AcceptFollows N some-room by_key by_number copies h s a fits f (accept_of N by_key by_number s a)
  accept_follows =
      rw (accept_by_class N some-room by_key by_number copies h s a fits f)
      (by_class (reply_class N (events N h) a.key (packet_of a.pending)) refl)
