-- A link made fresh, after any calls, refused ones included: what its monitor shows follows from the served calls.
-- Assumes nothing.
use Rattle.std.specs.Prelude.{Result}
use Rattle.ledger_state.specs.declared.Ledger.{Ledger}
use Rattle.ledger_steps.specs.declared.Accepted.{Accepted}
use mathlib.Core.Path.{◌≡◌, refl, sym, subst}
use mathlib.Core.List.{List, [], ◌∷◌}
use Prim.Native.Nat.{ℕ, zero, suc}
use native.Mathlib.Omega.{arith}
use lib.ListN.{length}
use Rattle.call_types.specs.declared.SentProbe.{SentProbe}
use Rattle.call_types.specs.declared.Reply.{Reply}
use Rattle.call_types.specs.declared.Call.{Call}
use Rattle.call_types.specs.declared.Call.TheVariants.{Sent, Accept, Observe, Advance, Idle}
use Rattle.history.specs.Ledger.{copies_of}
use Rattle.ledger_steps.specs.Refusals.{refusal_of_sent, refusal_of_accept}
use Rattle.ledger_steps.specs.Sent.{SentOutcome, sent_on}
use Rattle.ledger_steps.specs.Accept.{AcceptOutcome, accept_on}
use Rattle.ledger_steps.specs.Calls.{number, accept_number, sent_by, accept_by, sent_to, accept_to}
use Rattle.reply_history.specs.Fits.{KeyFits}
use Rattle.link_steps.specs.Steps.{LinkStand, watch_refuses_sent, watch_refuses, watch_reply, was_unique, sent_leaves, refuses, after, played, kept_if, served}
use Rattle.link_history.specs.Fresh.{Watching, Making, MakingFits, fresh_link, Fits, AllFits}
use Rattle.link_history.specs.Shows.{LedgerShows}
use Rattle.link_history.specs.Monitor.{WatchShows}
use Rattle.link_history.proofs.Shows.{ledger_follows}
use Rattle.link_history.proofs.Unchanged.{refused_changes_nothing}
use Rattle.link_history.proofs.Monitor.{WatchFollows, watch_fresh, watch_sent_lem, watch_accept, watch_observe, watch_advance_lem, watch_idle_lem, watch_shown, watch_serves_sent, watch_serves}

-- ---- the monitor, by one call of the link that is served

module _ (v : Watching) (copies : ℕ) (h : List Call) (k : LinkStand) (shows : LedgerShows copies h k) (f : WatchFollows v h k.link.watch k.queue) where
  -- what a call leaves of it
  abbrev Left : Call → LinkStand → Type 0
  Left c x = WatchFollows v (c ∷ h) x.link.watch x.queue

  sent-left : (s : SentProbe) → refuses k (Sent s) ≡ 0 → Left (Sent s) (after k (Sent s))
  unfolding refuses after sent_to refusal_of_sent
  sent-left s = go (refusal_of_sent other k.link.ledger (length k.rooms.probes) (length k.rooms.links)) refl
    where
      other : ℕ
      other = watch_refuses_sent k.link.watch (length k.queue) s

      o : SentOutcome
      o = sent_on k.link.ledger k.rooms.probes k.rooms.links s

      go : (n : ℕ) → refusal_of_sent other k.link.ledger (length k.rooms.probes) (length k.rooms.links) ≡ n
          → number (sent_by n o k.rooms.probes k.rooms.links).answer ≡ 0 → Left (Sent s) (sent_leaves k s (sent_by n o k.rooms.probes k.rooms.links))
      go zero e z = watch_sent_lem h v k.link.watch k.queue s (watch_serves_sent _ k.link.watch (length k.queue) s e) f
      go (suc n) e z = absurd (omega (arith, z))

  -- the monitor serves what the link serves
  accept-other : (a : Reply) → refuses k (Accept a) ≡ 0 → watch_refuses k.link.watch (length k.queue) ≡ 0
  unfolding refuses accept_to refusal_of_accept
  accept-other a = go (refusal_of_accept other k.link.ledger (length k.rooms.keys) (length k.rooms.slots) (length k.rooms.probes) (length k.rooms.links)) refl
    where
      other : ℕ
      other = watch_refuses k.link.watch (length k.queue)

      o : AcceptOutcome
      o = accept_on k.link.ledger k.rooms.keys k.rooms.slots k.rooms.probes k.rooms.links a

      go : (n : ℕ) → refusal_of_accept other k.link.ledger (length k.rooms.keys) (length k.rooms.slots) (length k.rooms.probes) (length k.rooms.links) ≡ n
          → accept_number (accept_by n o k.rooms.keys k.rooms.slots k.rooms.probes k.rooms.links).answer ≡ 0 → other ≡ 0
      go zero e z = watch_serves _ k.link.watch (length k.queue) e
      go (suc n) e z = absurd (omega (arith, z))

  accept-left : (a : Reply) → KeyFits a.key → refuses k (Accept a) ≡ 0 → Left (Accept a) (after k (Accept a))
  unfolding after
  accept-left a fits e =
      subst (λ (x : Result (Ledger × Accepted) ℕ). WatchFollows v (Accept a ∷ h) (watch_reply (was_unique x) k.link.watch k.queue a).watch (watch_reply (was_unique x) k.link.watch k.queue a).queue)
      (sym (shows.accepted a fits e))
      (watch_accept h v k.link.watch k.queue a (accept-other a e) f)

  pub watch_left : (c : Call) → Fits c → refuses k c ≡ 0 → Left c (after k c)
  unfolding refuses after
  watch_left (Sent s) fits e = sent-left s e
  watch_left (Accept a) fits e = accept-left a fits.0 e
  watch_left (Observe o) fits e = watch_observe h v k.link.watch k.queue o f
  watch_left (Advance t) fits e = watch_advance_lem h v k.link.watch k.queue t e f
  watch_left Idle fits e = watch_idle_lem h v k.link.watch k.queue e f

-- ---- any calls

module _ (m : Making) (ok : MakingFits m) where
  abbrev k₀ : LinkStand
  k₀ = fresh_link m

  pub watch_follows : (cs : List Call) → AllFits cs → WatchFollows m.monitor (served k₀ cs) (played k₀ cs).link.watch (played k₀ cs).queue
  unfolding played served AllFits
  watch_follows [] w = watch_fresh m.monitor m.queue ok.queue-fits
  watch_follows (c ∷ cs) w = go (refuses k c) refl (watch_follows cs w.1)
    where
      k : LinkStand
      k = played k₀ cs

      go : (n : ℕ) → refuses k c ≡ n → WatchFollows m.monitor (served k₀ cs) k.link.watch k.queue
          → WatchFollows m.monitor (kept_if n c (served k₀ cs)) (after k c).link.watch (after k c).queue
      go zero e f = watch_left m.monitor (copies_of m.copies) (served k₀ cs) k (ledger_follows m ok cs w.1) f c w.0 e
      go (suc n) e f = rw (refused_changes_nothing k c n e) f

  -- WHATEVER ITS ROOM HELD, WHATEVER WAS CALLED AND WHATEVER WAS REFUSED: what the monitor shows follows from the served calls.
  pub watch_shows : (cs : List Call) → AllFits cs → WatchShows m.monitor (served k₀ cs) (played k₀ cs).link.watch (played k₀ cs).queue
  watch_shows cs w = watch_shown m.monitor (served k₀ cs) (played k₀ cs).link.watch (played k₀ cs).queue (watch_follows cs w)
