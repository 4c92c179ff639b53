-- THE THEOREM OF CONDITION 3 FOR ANY SEQUENCE OF CALLS, each with the monitor, without it or of the monitor alone, refused ones included.
-- Assumes nothing.
use mathlib.Core.Path.{◌≡◌, refl, sym, ap, ◌∙◌, subst}
use mathlib.Core.Bool.{Bool, true, false}
use mathlib.Core.List.{List, [], ◌∷◌}
use Prim.Native.Nat.{ℕ, zero, suc}
use native.Mathlib.Omega.{arith}
use lib.ListN.{length}
use Rattle.limits.specs.Limits.{capacity}
use Rattle.call_types.specs.declared.SentProbe.{SentProbe}
use Rattle.call_types.specs.declared.Reply.{Reply}
use Rattle.call_types.specs.declared.Call.{Call}
use Rattle.call_types.specs.declared.Call.TheVariants.{Sent, Accept, Observe, Advance, Idle}
use Rattle.probe_queue.specs.declared.QueuedProbe.{QueuedProbe}
use Rattle.monitor_model.specs.Playing as monitor
use Rattle.history.specs.Given.{packet_of}
use Rattle.history.specs.Ledger.{copies_of, unique?, events}
use Rattle.ledger_state.specs.declared.Ledger.{Ledger}
use Rattle.ledger_steps.specs.Refusals.{earlier, refusal_of_sent, refusal_of_accept}
use Rattle.ledger_steps.specs.Sent.{SentOutcome, sent_on}
use Rattle.ledger_steps.specs.Accept.{AcceptOutcome, accept_on}
use Rattle.ledger_steps.specs.Calls.{number, accept_number, AcceptResult, sent_by, accept_by, sent_to, accept_to}
use Rattle.reply_history.specs.Fits.{KeyFits}
use Rattle.link_steps.specs.Steps.{LinkStand, watch_refuses_sent, watch_refuses, watch_sent, watch_reply, was_unique, accept_result, sent_leaves, refuses, after, played, kept_if, served}
use Rattle.link_history.specs.Fresh.{Watching, Making, MakingFits, fresh_link, stand_of, words_in, Fits, AllFits}
use Rattle.link_history.specs.Fresh as making
use Rattle.link_history.specs.Shows.{LedgerShows, accepted_from}
use Rattle.link_history.specs.Link.{ledger_refuses, refuses_from}
use Rattle.link_history.proofs.Follows.{Follow, copies_fit, link_follows}
use Rattle.link_history.proofs.Shows.{ledger_follows}
use Rattle.link_history.proofs.Sums.{EventsIn, events_in}
use Rattle.link_history.proofs.Unchanged.{reply_off, refused_changes_nothing}
use Rattle.link_history.proofs.Monitor.{says_unique, watch_serves_sent, watch_serves}
use Rattle.link_history.proofs.Refused.{sent-number, accept-number, sent-refusal, accept-refusal}
use Rattle.link_history.proofs.Link.{refusals_follow}
use Rattle.link_mixed_history.specs.Mixed.{MixedCall, watched, plain, alone, unwatched, number_of, leaves, mixed_played, ledger_kept, ledger_served, heard, monitor_kept, monitor_served}
use Rattle.link_mixed_history.specs.Shows.{plain_refuses_sent, plain_refuses, number_from, MixedShows, MixedFits, AllMixedFit}
use Rattle.link_mixed_history.proofs.Ledger.{accept_alike, served_alike, ledger_alike}
use Rattle.link_mixed_history.proofs.Monitor.{PlainFollows, follows_fresh, heard-sent, heard-reply, heard-advance, heard-idle, alone_number_lem, alone_follows, sent-refused, other-refused, idle-refused, plain-shown}

-- the link made without its monitor
abbrev pub plainly : Making → Making
plainly m = record { copies = m.copies; secret = m.secret; monitor = making.alone; rooms = m.rooms; queue = [] }

plainly_fits : (m : Making) → MakingFits m → MakingFits (plainly m)
plainly_fits m ok = record { copies_in = ok.copies_in; rooms_fit = ok.rooms_fit; queue-fits = tt }

-- the numbers of the ledger's served calls fit their types
served_fit : (k : LinkStand) (cs : List MixedCall) → AllMixedFit cs → AllFits (ledger_served k cs)
unfolding AllMixedFit AllFits ledger_served
served_fit k [] w = tt
served_fit k (c ∷ cs) w = go c w.0 (served_fit k cs w.1) (number_of (mixed_played k cs) c)
  where
    go : (x : MixedCall) → MixedFits x → AllFits (ledger_served k cs) → (n : ℕ) → AllFits (ledger_kept n x (ledger_served k cs))
    go (watched x) f rest zero = (f, rest)
    go (watched x) f rest (suc n) = rest
    go (plain x) f rest zero = (f, rest)
    go (plain x) f rest (suc n) = rest
    go (alone x) f rest n = rest

module _ (m : Making) (ok : MakingFits m) where
  abbrev k₀ : LinkStand
  k₀ = fresh_link m

  -- ---- the ledger

  -- its served calls, and the link as they leave it without the monitor
  module _ (cs : List MixedCall) (w : AllMixedFit cs) where
    abbrev h : List Call
    h = ledger_served k₀ cs

    abbrev k : LinkStand
    k = mixed_played k₀ cs

    fits : AllFits h
    fits = served_fit k₀ cs w

    pub ledger_shows : LedgerShows (copies_of m.copies) h (unwatched k)
    ledger_shows =
        subst (λ (x : LinkStand). LedgerShows (copies_of m.copies) h x) (sym (ledger_alike k₀ cs).0)
        (subst (λ (t : List Call). LedgerShows (copies_of m.copies) t (played (fresh_link (plainly m)) h)) (ledger_alike k₀ cs).1
        (ledger_follows (plainly m) (plainly_fits m ok) h fits))

    -- the refusal of a call without the monitor
    pub plain-number : (c : Call) → refuses (unwatched k) c ≡ refuses_from making.alone h c
    plain-number c =
        ap (λ (x : LinkStand). refuses x c) (ledger_alike k₀ cs).0 ∙ refusals_follow (plainly m) (plainly_fits m ok) h fits c
        ∙ ap (λ (t : List Call). refuses_from making.alone t c) (ledger_alike k₀ cs).1

    follow : Follow (words_in (plainly m)) (copies_of m.copies) h (stand_of (unwatched k))
    follow =
        subst (λ (x : LinkStand). Follow (words_in (plainly m)) (copies_of m.copies) h (stand_of x)) (sym (ledger_alike k₀ cs).0)
        (subst (λ (t : List Call). Follow (words_in (plainly m)) (copies_of m.copies) t (stand_of (played (fresh_link (plainly m)) h))) (ledger_alike k₀ cs).1
        (link_follows (plainly m) (plainly_fits m ok) h fits))

    in_events : EventsIn (events capacity h)
    in_events = subst (λ (t : List Call). EventsIn (events capacity t)) (ledger_alike k₀ cs).1 (events_in (fresh_link (plainly m)) h fits)

    -- the refusal of a call with the monitor, by what the monitor refuses
    sent-by : (n : ℕ) → refusal_of_sent n k.link.ledger (length k.rooms.probes) (length k.rooms.links) ≡ earlier (ledger_refuses h) n
    sent-by n = sent-refusal making.alone (words_in (plainly m)) (copies_of m.copies) (copies_fit m.copies ok.copies_in) h in_events (unwatched k) follow tt n

    accept-by : (n : ℕ) → refusal_of_accept n k.link.ledger (length k.rooms.keys) (length k.rooms.slots) (length k.rooms.probes) (length k.rooms.links) ≡ earlier (ledger_refuses h) n
    accept-by n = accept-refusal making.alone (words_in (plainly m)) (copies_of m.copies) (copies_fit m.copies ok.copies_in) h in_events (unwatched k) follow tt n

    -- ---- the monitor, by one call of the link that is served

    module _ (ops : List monitor.Call) (f : PlainFollows m.monitor ops k.link.watch k.queue) where
      abbrev Left : Call → LinkStand → Type 0
      Left c x = PlainFollows m.monitor (heard h c ops) x.link.watch x.queue

      sent-left : (s : SentProbe) → refuses k (Sent s) ≡ 0 → Left (Sent s) (after k (Sent s))
      unfolding refuses after sent_to refusal_of_sent
      sent-left s = go (refusal_of_sent other k.link.ledger (length k.rooms.probes) (length k.rooms.links)) refl
        where
          other : ℕ
          other = watch_refuses_sent k.link.watch (length k.queue) s

          o : SentOutcome
          o = sent_on k.link.ledger k.rooms.probes k.rooms.links s

          go : (n : ℕ) → refusal_of_sent other k.link.ledger (length k.rooms.probes) (length k.rooms.links) ≡ n
              → number (sent_by n o k.rooms.probes k.rooms.links).answer ≡ 0 → Left (Sent s) (sent_leaves k s (sent_by n o k.rooms.probes k.rooms.links))
          go zero e z = heard-sent ops m.monitor k.link.watch k.queue s (watch_serves_sent _ k.link.watch (length k.queue) s e) f
          go (suc n) e z = absurd (omega (arith, z))

      -- the monitor serves what the link serves
      accept-other : (a : Reply) → refuses k (Accept a) ≡ 0 → watch_refuses k.link.watch (length k.queue) ≡ 0
      unfolding refuses accept_to refusal_of_accept
      accept-other a = go (refusal_of_accept other k.link.ledger (length k.rooms.keys) (length k.rooms.slots) (length k.rooms.probes) (length k.rooms.links)) refl
        where
          other : ℕ
          other = watch_refuses k.link.watch (length k.queue)

          o : AcceptOutcome
          o = accept_on k.link.ledger k.rooms.keys k.rooms.slots k.rooms.probes k.rooms.links a

          go : (n : ℕ) → refusal_of_accept other k.link.ledger (length k.rooms.keys) (length k.rooms.slots) (length k.rooms.probes) (length k.rooms.links) ≡ n
              → accept_number (accept_by n o k.rooms.keys k.rooms.slots k.rooms.probes k.rooms.links).answer ≡ 0 → other ≡ 0
          go zero e z = watch_serves _ k.link.watch (length k.queue) e
          go (suc n) e z = absurd (omega (arith, z))

      -- whether the answer is unique, by the ledger's served calls
      unique_is : (a : Reply) → KeyFits a.key → refuses k (Accept a) ≡ 0 → was_unique (accept_result k a).answer ≡ unique? capacity a.key (packet_of a.pending) (events capacity h)
      unique_is a fit e =
          ap (λ (x : AcceptResult). was_unique x.answer) (accept_alike k a e)
          ∙ ap was_unique (ledger_shows.accepted a fit (served_alike k (Accept a) e).0) ∙ says_unique h a

      accept-left : (a : Reply) → KeyFits a.key → refuses k (Accept a) ≡ 0 → Left (Accept a) (after k (Accept a))
      unfolding after
      accept-left a fit e = go (was_unique (accept_result k a).answer) (unique_is a fit e)
        where
          go : (b : Bool) → b ≡ unique? capacity a.key (packet_of a.pending) (events capacity h)
              → PlainFollows m.monitor (heard h (Accept a) ops) (watch_reply b k.link.watch k.queue a).watch (watch_reply b k.link.watch k.queue a).queue
          go true u = rw (sym u) (heard-reply ops m.monitor k.link.watch k.queue a (accept-other a e) f)
          go false u = rw (sym u, reply_off k.link.watch k.queue a) f

      heard-left : (c : Call) → Fits c → refuses k c ≡ 0 → Left c (after k c)
      unfolding refuses after
      heard-left (Sent s) fit e = sent-left s e
      heard-left (Accept a) fit e = accept-left a fit.0 e
      heard-left (Observe o) fit e = f
      heard-left (Advance t) fit e = heard-advance ops m.monitor k.link.watch k.queue t e f
      heard-left Idle fit e = heard-idle ops m.monitor k.link.watch k.queue e f

      -- one call more of any kind
      pub steps : (c : MixedCall) → MixedFits c → PlainFollows m.monitor (monitor_kept (number_of k c) h c ops) (leaves k c).link.watch (leaves k c).queue
      unfolding number_of leaves
      steps (watched c) fit = go (refuses k c) refl
        where
          go : (n : ℕ) → refuses k c ≡ n → PlainFollows m.monitor (monitor_kept n h (watched c) ops) (after k c).link.watch (after k c).queue
          go zero e = heard-left c fit e
          go (suc n) e = rw (refused_changes_nothing k c n e) f
      steps (plain c) fit = go (refuses (unwatched k) c)
        where
          go : (n : ℕ) → PlainFollows m.monitor (monitor_kept n h (plain c) ops) k.link.watch k.queue
          go zero = f
          go (suc n) = f
      steps (alone c) fit = alone_follows ops m.monitor k h c k.link.watch f

      -- the number of each call to come
      pub numbers : (c : MixedCall) → number_of k c ≡ number_from m.monitor h ops c
      unfolding number_of refuses sent_to accept_to
      numbers (watched (Sent s)) =
          sent-number _ _ k.rooms.probes k.rooms.links ∙ sent-by (watch_refuses_sent k.link.watch (length k.queue) s)
          ∙ ap (earlier (ledger_refuses h)) (sent-refused ops m.monitor k.link.watch k.queue s f)
      numbers (watched (Accept a)) =
          accept-number _ _ k.rooms.keys k.rooms.slots k.rooms.probes k.rooms.links ∙ accept-by (watch_refuses k.link.watch (length k.queue))
          ∙ ap (earlier (ledger_refuses h)) (other-refused ops m.monitor k.link.watch k.queue f)
      numbers (watched (Observe o)) = plain-number (Observe o)
      numbers (watched (Advance t)) = other-refused ops m.monitor k.link.watch k.queue f
      numbers (watched Idle) = idle-refused ops m.monitor k.link.watch k.queue f
      numbers (plain c) = plain-number c
      numbers (alone c) = alone_number_lem ops m.monitor k.link.watch k.queue c f

  -- ---- any calls

  pub mixed_follows : (cs : List MixedCall) → AllMixedFit cs → PlainFollows m.monitor (monitor_served k₀ cs) (mixed_played k₀ cs).link.watch (mixed_played k₀ cs).queue
  unfolding mixed_played monitor_served AllMixedFit
  mixed_follows [] w = follows_fresh m.monitor m.queue ok.queue-fits
  mixed_follows (c ∷ cs) w = steps cs w.1 (monitor_served k₀ cs) (mixed_follows cs w.1) c w.0

  -- THE THEOREM. Whatever the rooms held, whatever was called, with the monitor, without it or of the monitor alone, and whatever was refused: what the
  -- link then shows follows from the plain lists of the calls that its ledger and its monitor were served.
  pub mixed-shows : (cs : List MixedCall) → AllMixedFit cs → MixedShows (copies_of m.copies) m.monitor (ledger_served k₀ cs) (monitor_served k₀ cs) (mixed_played k₀ cs)
  mixed-shows cs w = record {
    ledger = ledger_shows cs w;
    monitor = plain-shown m.monitor (monitor_served k₀ cs) (mixed_played k₀ cs).link.watch (mixed_played k₀ cs).queue (mixed_follows cs w);
    numbers = numbers cs w (monitor_served k₀ cs) (mixed_follows cs w);
  }
