-- The ledger of a link after any calls is that of a link without a monitor after the calls that it was served.
-- Assumes nothing.
use Rattle.std.specs.Prelude.{Option, Some, None}
use Rattle.monitor.specs.declared.Monitor.{Monitor}
use mathlib.Core.Path.{◌≡◌, refl, sym, ap, ◌∙◌, subst}
use mathlib.Core.Bool.{Bool}
use mathlib.Core.List.{List, [], ◌∷◌}
use Prim.Native.Nat.{ℕ, zero, suc}
use native.Mathlib.Omega.{arith}
use lib.ListN.{length}
use Rattle.call_types.specs.declared.SentProbe.{SentProbe}
use Rattle.call_types.specs.declared.Reply.{Reply}
use Rattle.call_types.specs.declared.Call.{Call}
use Rattle.call_types.specs.declared.Call.TheVariants.{Sent, Accept, Observe, Advance, Idle}
use Rattle.ledger_steps.specs.Refusals.{earlier, refusal_of_sent, refusal_of_accept}
use Rattle.ledger_steps.specs.Sent.{SentOutcome, sent_on}
use Rattle.ledger_steps.specs.Accept.{AcceptOutcome, accept_on}
use Rattle.ledger_steps.specs.Calls.{number, accept_number, SentResult, AcceptResult, sent_by, accept_by, sent_to, accept_to}
use Rattle.monitor_model.specs.Playing as monitor
use Rattle.link_steps.specs.Steps.{LinkStand, watch_refuses_sent, watch_refuses, sent_result, accept_result, sent_leaves, accept_leaves, refuses, after, played, kept_if, served}
use Rattle.link_history.proofs.Unchanged.{refused_changes_nothing}
use Rattle.link_history.proofs.Monitor.{watch_serves_sent, watch_serves}
use Rattle.link_mixed_history.specs.Mixed.{MixedCall, watched, plain, alone, unwatched, beside, alone_leaves, alone_number, number_of, leaves, mixed_played, ledger_kept, ledger_served}

-- ---- a served call of the link is one of the ledger without the monitor

module _ (k : LinkStand) where
  abbrev u : LinkStand
  u = unwatched k

  -- what both say of a call
  abbrev Same : Call → Type 0
  Same c = (refuses u c ≡ 0) × (unwatched (after k c) ≡ after u c)

  sent_alike : (s : SentProbe) → refuses k (Sent s) ≡ 0 → sent_result k s ≡ sent_result u s
  unfolding refuses sent_to refusal_of_sent
  sent_alike s = go (refusal_of_sent other k.link.ledger (length k.rooms.probes) (length k.rooms.links)) refl
    where
      other : ℕ
      other = watch_refuses_sent k.link.watch (length k.queue) s

      o : SentOutcome
      o = sent_on k.link.ledger k.rooms.probes k.rooms.links s

      go : (n : ℕ) → refusal_of_sent other k.link.ledger (length k.rooms.probes) (length k.rooms.links) ≡ n
          → number (sent_by n o k.rooms.probes k.rooms.links).answer ≡ 0 → sent_result k s ≡ sent_result u s
      go zero e z =
          ap (λ (x : ℕ). sent_to x k.link.ledger k.rooms.probes k.rooms.links s) (watch_serves_sent _ k.link.watch (length k.queue) s e)
      go (suc n) e z = absurd (omega (arith, z))

  pub accept_alike : (a : Reply) → refuses k (Accept a) ≡ 0 → accept_result k a ≡ accept_result u a
  unfolding refuses accept_to refusal_of_accept
  accept_alike a = go (refusal_of_accept other k.link.ledger (length k.rooms.keys) (length k.rooms.slots) (length k.rooms.probes) (length k.rooms.links)) refl
    where
      other : ℕ
      other = watch_refuses k.link.watch (length k.queue)

      o : AcceptOutcome
      o = accept_on k.link.ledger k.rooms.keys k.rooms.slots k.rooms.probes k.rooms.links a

      go : (n : ℕ) → refusal_of_accept other k.link.ledger (length k.rooms.keys) (length k.rooms.slots) (length k.rooms.probes) (length k.rooms.links) ≡ n
          → accept_number (accept_by n o k.rooms.keys k.rooms.slots k.rooms.probes k.rooms.links).answer ≡ 0 → accept_result k a ≡ accept_result u a
      go zero e z =
          ap (λ (x : ℕ). accept_to x k.link.ledger k.rooms.keys k.rooms.slots k.rooms.probes k.rooms.links a)
          (watch_serves _ k.link.watch (length k.queue) e)
      go (suc n) e z = absurd (omega (arith, z))

  pub served_alike : (c : Call) → refuses k c ≡ 0 → Same c
  unfolding refuses after
  served_alike (Sent s) e =
      let r = sent_alike s e in
      (ap (λ (x : SentResult). number x.answer) (sym r) ∙ e, ap (λ (x : SentResult). sent_leaves u s x) r)
  served_alike (Accept a) e =
      let r = accept_alike a e in
      (ap (λ (x : AcceptResult). accept_number x.answer) (sym r) ∙ e, ap (λ (x : AcceptResult). accept_leaves u a x) r)
  served_alike (Observe o) e = (e, refl)
  served_alike (Advance t) e = (refl, refl)
  served_alike Idle e = (refl, refl)

  -- a call without the monitor
  pub plain_alike : (c : Call) → unwatched (beside (after u c) k) ≡ after u c
  unfolding after
  plain_alike (Sent s) = refl
  plain_alike (Accept a) = refl
  plain_alike (Observe o) = refl
  plain_alike (Advance t) = refl
  plain_alike Idle = refl

  -- a call of the monitor alone leaves the ledger
  pub alone_alike : (w : Option Monitor) (c : monitor.Call) → unwatched (alone_leaves w k c) ≡ u
  alone_alike None c = refl
  alone_alike (Some m) c = refl

-- ---- any calls

-- the ledger stands as after its served calls, and each of them is served there
abbrev pub LedgerAlike : LinkStand → List Call → LinkStand → Type 0
LedgerAlike k h x = (unwatched x ≡ played (unwatched k) h) × (served (unwatched k) h ≡ h)

module _ (k : LinkStand) where
  -- one served call more
  serves : (h : List Call) (x : LinkStand) (c : Call) → LedgerAlike k h x → refuses (unwatched x) c ≡ 0 → (y : LinkStand) → unwatched y ≡ after (unwatched x) c → LedgerAlike k (c ∷ h) y
  unfolding played served
  serves h x c a e y q = (
    q ∙ ap (λ (z : LinkStand). after z c) a.0,
    ap (λ (n : ℕ). kept_if n c (served (unwatched k) h)) (ap (λ (z : LinkStand). refuses z c) (sym a.0) ∙ e) ∙ ap (λ (t : List Call). c ∷ t) a.1,
  )

  -- one call more of any kind
  steps : (h : List Call) (x : LinkStand) (c : MixedCall) → LedgerAlike k h x → LedgerAlike k (ledger_kept (number_of x c) c h) (leaves x c)
  unfolding number_of leaves
  steps h x (watched c) a = go (refuses x c) refl
    where
      go : (n : ℕ) → refuses x c ≡ n → LedgerAlike k (kept_if n c h) (after x c)
      go zero e = serves h x c a (served_alike x c e).0 (after x c) (served_alike x c e).1
      go (suc n) e = subst (λ (y : LinkStand). LedgerAlike k h y) (sym (refused_changes_nothing x c n e)) a
  steps h x (plain c) a = go (refuses (unwatched x) c) refl
    where
      go : (n : ℕ) → refuses (unwatched x) c ≡ n → LedgerAlike k (kept_if n c h) (beside (after (unwatched x) c) x)
      go zero e = serves h x c a e (beside (after (unwatched x) c) x) (plain_alike x c)
      go (suc n) e = (plain_alike x c ∙ refused_changes_nothing (unwatched x) c n e ∙ a.0, a.1)
  steps h x (alone c) a = (alone_alike x x.link.watch c ∙ a.0, a.1)

  -- THE LEDGER AFTER ANY CALLS is the one that its served calls leave, none of them refused, on a link without a monitor.
  pub ledger_alike : (cs : List MixedCall) → LedgerAlike k (ledger_served k cs) (mixed_played k cs)
  unfolding mixed_played ledger_served played served
  ledger_alike [] = (refl, refl)
  ledger_alike (c ∷ cs) = steps (ledger_served k cs) (mixed_played k cs) c (ledger_alike cs)
