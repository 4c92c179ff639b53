-- "Each returns its number only and changes nothing": a refused call leaves the whole link as it was, the ledger, its rooms, the monitor and its queue.
-- Assumes nothing.
use Rattle.std.specs.Prelude.{Option, Some, None}
use Rattle.monitor.specs.declared.Monitor.{Monitor}
use mathlib.Core.Path.{◌≡◌, refl, ap}
use mathlib.Core.Bool.{false}
use mathlib.Core.List.{List}
use Prim.Native.Nat.{ℕ, zero, suc}
use native.Mathlib.Omega.{arith}
use lib.ListN.{length}
use Rattle.limits.specs.Limits.{capacity}
use Rattle.call_types.specs.declared.SentProbe.{SentProbe}
use Rattle.call_types.specs.declared.Reply.{Reply}
use Rattle.call_types.specs.declared.ReplyObservation.{ReplyObservation}
use Rattle.call_types.specs.declared.Call.{Call}
use Rattle.call_types.specs.declared.Call.TheVariants.{Sent, Accept, Observe, Advance, Idle}
use Rattle.chains.proofs.Tests.{eq_false}
use Rattle.probe_queue.specs.declared.QueuedProbe.{QueuedProbe}
use Rattle.monitor.specs.Operations.{sent_if, reply_if, advance_if}
use Rattle.ledger_steps.specs.Refusals.{refusal_of_sent, refusal_of_accept, refusal_of_observe}
use Rattle.ledger_steps.specs.Sent.{SentOutcome, sent_on}
use Rattle.ledger_steps.specs.Accept.{AcceptOutcome, accept_on}
use Rattle.ledger_steps.specs.Observe.{ObserveOutcome, observe_on}
use Rattle.ledger_steps.specs.Calls.{number, accept_number, sent_by, accept_by, observe_by, sent_to, accept_to, observe_to}
use Rattle.link_steps.specs.Steps.{LinkStand, Watched, standing, watch_refuses_sent, watch_refuses, watch_sent, watch_reply, watch_advance, watch_idle, sent_leaves, accept_leaves, observe_leaves, refuses, after}

-- a monitor and its queue, as they are
abbrev pub kept : Option Monitor → List QueuedProbe → Watched
kept w queue = record { watch = w; queue = queue }

-- ---- the monitor, where the call does not go on or is refused

sent_off : (w : Option Monitor) (queue : List QueuedProbe) (s : SentProbe) → watch_sent false w queue s ≡ kept w queue
unfolding sent_if
sent_off None queue s = refl
sent_off (Some m) queue s = refl

pub reply_off : (w : Option Monitor) (queue : List QueuedProbe) (a : Reply) → watch_reply false w queue a ≡ kept w queue
unfolding reply_if
reply_off None queue a = refl
reply_off (Some m) queue a = refl

advance_off : (w : Option Monitor) (queue : List QueuedProbe) (t n : ℕ) → watch_refuses w (length queue) ≡ suc n → watch_advance w queue t ≡ kept w queue
unfolding advance_if
advance_off None queue t n e = refl
advance_off (Some m) queue t n e = rw (e, eq_false (suc n) 0 (λ q. omega (arith, q)))

idle_off : (w : Option Monitor) (queue : List QueuedProbe) (n : ℕ) → watch_refuses w capacity ≡ suc n → watch_idle w queue ≡ kept w queue
idle_off None queue n e = refl
idle_off (Some m) queue n e = rw (e, eq_false (suc n) 0 (λ q. omega (arith, q)))

-- ---- the calls

module _ (k : LinkStand) where
  -- the link with another monitor or queue
  abbrev with : Watched → LinkStand
  with x = standing k.link.ledger k.rooms x

  sent-same : (s : SentProbe) (n : ℕ) → refuses k (Sent s) ≡ suc n → after k (Sent s) ≡ k
  unfolding refuses after sent_to
  sent-same s n = go (refusal_of_sent (watch_refuses_sent k.link.watch (length k.queue) s) k.link.ledger (length k.rooms.probes) (length k.rooms.links))
    where
      o : SentOutcome
      o = sent_on k.link.ledger k.rooms.probes k.rooms.links s

      go : (r : ℕ) → number (sent_by r o k.rooms.probes k.rooms.links).answer ≡ suc n → sent_leaves k s (sent_by r o k.rooms.probes k.rooms.links) ≡ k
      go zero e = absurd (omega (arith, e))
      go (suc r) e = ap with (sent_off k.link.watch k.queue s)

  accept-same : (a : Reply) (n : ℕ) → refuses k (Accept a) ≡ suc n → after k (Accept a) ≡ k
  unfolding refuses after accept_to
  accept-same a n = go (refusal_of_accept (watch_refuses k.link.watch (length k.queue)) k.link.ledger (length k.rooms.keys) (length k.rooms.slots) (length k.rooms.probes) (length k.rooms.links))
    where
      o : AcceptOutcome
      o = accept_on k.link.ledger k.rooms.keys k.rooms.slots k.rooms.probes k.rooms.links a

      go : (r : ℕ) → accept_number (accept_by r o k.rooms.keys k.rooms.slots k.rooms.probes k.rooms.links).answer ≡ suc n
          → accept_leaves k a (accept_by r o k.rooms.keys k.rooms.slots k.rooms.probes k.rooms.links) ≡ k
      go zero e = absurd (omega (arith, e))
      go (suc r) e = ap with (reply_off k.link.watch k.queue a)

  observe-same : (o : ReplyObservation) (n : ℕ) → refuses k (Observe o) ≡ suc n → after k (Observe o) ≡ k
  unfolding refuses after observe_to
  observe-same o n = go (refusal_of_observe k.link.ledger k.rooms.keys (length k.rooms.slots) (length k.rooms.offsets) (length k.rooms.links) o)
    where
      x : ObserveOutcome
      x = observe_on k.link.ledger k.rooms.keys k.rooms.slots k.rooms.offsets k.rooms.links o

      go : (r : ℕ) → number (observe_by r x k.rooms.slots k.rooms.offsets k.rooms.links).answer ≡ suc n
          → observe_leaves k (observe_by r x k.rooms.slots k.rooms.offsets k.rooms.links) ≡ k
      go zero e = absurd (omega (arith, e))
      go (suc r) e = refl

  -- A REFUSAL CHANGES NOTHING.
  pub refused_changes_nothing : (c : Call) (n : ℕ) → refuses k c ≡ suc n → after k c ≡ k
  unfolding refuses after
  refused_changes_nothing (Sent s) n e = sent-same s n e
  refused_changes_nothing (Accept a) n e = accept-same a n e
  refused_changes_nothing (Observe o) n e = observe-same o n e
  refused_changes_nothing (Advance t) n e = ap with (advance_off k.link.watch k.queue t n e)
  refused_changes_nothing Idle n e = ap with (idle_off k.link.watch k.queue n e)
