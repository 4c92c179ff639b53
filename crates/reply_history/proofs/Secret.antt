-- No served call changes the words of the hash.
-- Assumes nothing.
use mathlib.Core.Path.{◌≡◌, refl}
use mathlib.Core.List.{List}
use Prim.Native.Nat.{ℕ}
use lib.Dec.{ltb}
use Rattle.call_types.specs.declared.ReplyKey.{ReplyKey}
use Rattle.call_types.specs.declared.Reply.{Reply}
use Rattle.call_types.specs.declared.Call.{Call}
use Rattle.call_types.specs.declared.Call.TheVariants.{Sent, Accept, Observe, Advance, Idle}
use Rattle.replies.specs.declared.ReplyClass.{ReplyClass}
use Rattle.replies.specs.declared.ReplyClass.TheVariants as class
use Rattle.replies.specs.Served.{class_by}
use Rattle.ledger_state.specs.declared.Ledger.{Ledger}
use Rattle.ledger_steps.specs.Rooms.{LedgerStand}
use Rattle.ledger_steps.specs.Sent.{sent_in}
use Rattle.ledger_steps.specs.Accept.{is_pending, key_slot, probe_slot, accept_by, accept_in, unique_in}
use Rattle.ledger_steps.specs.Observe.{observe_in}
use Rattle.reply_history.specs.Stands.{stepped}

module _ (N : ℕ) (by_key : ReplyKey → ℕ) (by_number : ℕ → ℕ) where
  accept-secret : (x : ReplyClass) (l : Ledger) (keys slots probes links : List (List ℕ)) (at : ℕ) (a : Reply) → (accept_by N by_key by_number x l keys slots probes links at a).ledger.secret ≡ l.secret
  unfolding unique_in
  accept-secret class.Duplicate l keys slots probes links at a = refl
  accept-secret class.Unknown l keys slots probes links at a = refl
  accept-secret class.Unique l keys slots probes links at a = refl

  pub secret-kept : (s : LedgerStand) (c : Call) → (stepped N by_key by_number s c).ledger.secret ≡ s.ledger.secret
  unfolding sent_in accept_in observe_in
  secret-kept s (Sent p) = refl
  secret-kept s (Accept a) =
      accept-secret (class_by (ltb (key_slot N by_key by_number s.ledger s.rooms.keys s.rooms.links a.key) N)
      (ltb (probe_slot N by_key by_number s.ledger s.rooms.probes s.rooms.links a.key) N) (is_pending a.pending))
      s.ledger s.rooms.keys s.rooms.slots s.rooms.probes s.rooms.links (probe_slot N by_key by_number s.ledger s.rooms.probes s.rooms.links a.key) a
  secret-kept s (Observe o) = refl
  secret-kept s (Advance t) = refl
  secret-kept s Idle = refl
