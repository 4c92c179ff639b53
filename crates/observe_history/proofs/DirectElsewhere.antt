-- Direct loss, continued: a fresh ledger, and the calls that are no observe. Assumes nothing.
use Rattle.std.specs.Prelude.{Some, Option, None}
use mathlib.Core.Path.{◌≡◌, refl, sym, ap, ◌∙◌, subst}
use mathlib.Core.Bool.{Bool, true, false, cond}
use mathlib.Core.List.{List, [], ◌∷◌}
use Prim.Native.Nat.{ℕ, ◌<◌}
use native.Mathlib.Omega.{arith}
use lib.Dec.{ltb}
use lib.ListN.{length}
use Rattle.call_types.specs.declared.PendingPacket.{PendingPacket}
use Rattle.call_types.specs.declared.ReplyKey.{ReplyKey}
use Rattle.call_types.specs.declared.SentProbe.{SentProbe}
use Rattle.call_types.specs.declared.Reply.{Reply}
use Rattle.call_types.specs.declared.ReplyObservation.{ReplyObservation}
use Rattle.call_types.specs.declared.Call.{Call}
use Rattle.call_types.specs.declared.Call.TheVariants.{Sent, Accept, Observe, Advance, Idle}
use Rattle.chains.specs.Links.{Rows}
use Rattle.direct.specs.declared.Direct.{Direct}
use Rattle.direct.specs.Outcomes.{fresh_direct}
use Rattle.offset_set.specs.Offsets as offset_set
use Rattle.offset_set.proofs.Laws.{cleared_sound, seen_none}
use Rattle.probe_ring.specs.Row.{unanswered}
use Rattle.probe_ring.specs.Rooms as probe_ring
use Rattle.key_ring.specs.Table as key_ring
use Rattle.replies.specs.declared.ReplyClass.{ReplyClass}
use Rattle.replies.specs.declared.ReplyClass.TheVariants as class
use Rattle.replies.specs.Served.{class_by}
use Rattle.ledger_state.specs.declared.Ledger.{Ledger}
use Rattle.ledger_steps.specs.Sent.{sent_in}
use Rattle.ledger_steps.specs.Accept.{probes_of, key_slot, probe_slot, is_pending, readied, unique_in, accept_by, accept_in}
use Rattle.ledger_steps.specs.Observe.{observe_in}
use Rattle.history.specs.Given.{packet_of}
use Rattle.history.specs.Ledger.{Event, remembered, no_packet, Class, duplicate, unknown, unique, held, ready, after_reply, reply_class, events, count}
use Rattle.history.specs.Counting.{has, or_else}
use Rattle.history.specs.DirectLoss.{window, direct_counts}
use Rattle.observe_history.specs.Direct.{window_of, seen_since, as_direct_counts, since, DirectFollows}
use Rattle.observe_history.proofs.Lanes.{Untouched, same, then, still_rows, still-whole, remembered_elsewhere, readied_elsewhere, accepted_elsewhere}
use Rattle.observe_history.proofs.DirectLaws.{direct-observed}

module _ (N : ℕ) (by_number : ℕ → ℕ) where
  -- a fresh ledger over rooms of the right sizes, whatever they hold
  pub direct-fresh : (offsets : List ℕ) (links : List (List ℕ)) → 0 < N → ((n : ℕ) → by_number n < N) → length offsets ≡ N → Rows N 8 links
      → DirectFollows N by_number [] fresh_direct offsets links
  unfolding count events window
  direct-fresh offsets links some below fit rows = record {
    counts = refl;
    window = refl;
    seen = seen_none N by_number offsets links;
    sound = cleared_sound N by_number offsets links some below fit rows;
  }

  -- a history that shows the same, over links whose lane of the offsets is untouched
  kept : (h h' : List Call) (d : Direct) (offsets : List ℕ) (links links' : List (List ℕ)) → since N h' ≡ since N h → direct_counts N h' ≡ direct_counts N h
      → Untouched 6 links links' → DirectFollows N by_number h d offsets links → DirectFollows N by_number h' d offsets links'
  unfolding offset_set.seen
  kept h h' d offsets links links' w n u f = record {
    counts = f.counts ∙ ap as_direct_counts (sym n);
    window = f.window ∙ ap window_of (sym w);
    seen = f.seen ∙ ap seen_since (sym w);
    sound = record {
      some = f.sound.some;
      hashes = f.sound.hashes;
      offsets_fit = f.sound.offsets_fit;
      links_fit = still_rows 6 N 8 links links' u f.sound.links_fit;
      count_in = f.sound.count_in;
      chained = still-whole 6 N _ 0 _ links links' u f.sound.chained;
    };
  }

  -- ---- the history of a reply

  ready-window : (es : List Event) (k : ReplyKey) (p : Option PendingPacket) → window N (ready N es k p) ≡ window N es
  unfolding ready window
  ready-window es k p = go (has (held N es) k.sender)
    where
      go : (b : Bool) → window N (cond b es (remembered k.sender None 0 (or_else p no_packet) ∷ es)) ≡ window N es
      go true = refl
      go false = refl

  reply-window : (x : Class) (es : List Event) (k : ReplyKey) (p : Option PendingPacket) → window N (after_reply N x es k p) ≡ window N es
  unfolding after_reply window
  reply-window duplicate es k p = refl
  reply-window unknown es k p = refl
  reply-window unique es k p = ready-window es k p

  accept-since : (r : Reply) (h : List Call) → since N (Accept r ∷ h) ≡ since N h
  unfolding events
  accept-since r h = reply-window (reply_class N (events N h) r.key (packet_of r.pending)) (events N h) r.key (packet_of r.pending)

  -- ---- the calls

  module _ (by_key : ReplyKey → ℕ) (h : List Call) (l : Ledger) (keys slots probes : List (List ℕ)) (offsets : List ℕ) (links : List (List ℕ))
      (f : DirectFollows N by_number h l.counts.direct offsets links) where
    pub direct-sent : (s : SentProbe)
        → DirectFollows N by_number (Sent s ∷ h) (sent_in N by_number l probes links s).ledger.counts.direct offsets (sent_in N by_number l probes links s).links
    unfolding sent_in count events window
    direct-sent s =
        kept h (Sent s ∷ h) l.counts.direct offsets links (sent_in N by_number l probes links s).links refl refl
        (remembered_elsewhere 6 (λ e. omega (arith, e)) (λ e. omega (arith, e)) (λ e. omega (arith, e)) N by_number (probe_ring.rooms probes links l.tables.probes)
        (unanswered s.sequence s.packet (Some s.ordinal) s.train)) f

    accept_links : (x : ReplyClass) (at : ℕ) (a : Reply) → Untouched 6 links (accept_by N by_key by_number x l keys slots probes links at a).links
    unfolding unique_in
    accept_links class.Duplicate at a = same 6 links
    accept_links class.Unknown at a = same 6 links
    accept_links class.Unique at a =
        let o = readied N by_key by_number (probes_of N by_key by_number l probes links) at a.key a.pending in
        then 6 links o.links (key_ring.accepted_key N by_key by_number (key_ring.table_of keys slots o.links l.tables.keys) a.key).links
        (readied_elsewhere 6 (λ e. omega (arith, e)) (λ e. omega (arith, e)) (λ e. omega (arith, e)) N by_number by_key (probes_of N by_key by_number l probes links) at a.key a.pending)
        (accepted_elsewhere 6 N by_key by_number (key_ring.table_of keys slots o.links l.tables.keys) a.key (omega arith))

    accept-direct : (x : ReplyClass) (at : ℕ) (a : Reply) → (accept_by N by_key by_number x l keys slots probes links at a).ledger.counts.direct ≡ l.counts.direct
    unfolding unique_in
    accept-direct class.Duplicate at a = refl
    accept-direct class.Unknown at a = refl
    accept-direct class.Unique at a = refl

    pub direct-accepted : (a : Reply)
        → DirectFollows N by_number (Accept a ∷ h) (accept_in N by_key by_number l keys slots probes links a).ledger.counts.direct offsets
        (accept_in N by_key by_number l keys slots probes links a).links
    unfolding accept_in count
    direct-accepted a =
        let x = class_by (ltb (key_slot N by_key by_number l keys links a.key) N) (ltb (probe_slot N by_key by_number l probes links a.key) N) (is_pending a.pending) in
        let at = probe_slot N by_key by_number l probes links a.key in
        subst (λ (d : Direct). DirectFollows N by_number (Accept a ∷ h) d offsets (accept_by N by_key by_number x l keys slots probes links at a).links) (sym (accept-direct x at a))
        (kept h (Accept a ∷ h) l.counts.direct offsets links (accept_by N by_key by_number x l keys slots probes links at a).links (accept-since a h) refl (accept_links x at a) f)

    -- an observe, of the whole step
    pub direct-kept : (o : ReplyObservation)
        → DirectFollows N by_number (Observe o ∷ h) (observe_in N by_key by_number l keys slots offsets links o).ledger.counts.direct
        (observe_in N by_key by_number l keys slots offsets links o).offsets (observe_in N by_key by_number l keys slots offsets links o).links
    unfolding observe_in
    direct-kept o = direct-observed N by_number h l.counts.direct offsets links o f

    -- the monitor's own calls
    pub direct-advanced : (t : ℕ) → DirectFollows N by_number (Advance t ∷ h) l.counts.direct offsets links
    unfolding count events
    direct-advanced t = record { counts = f.counts; window = f.window; seen = f.seen; sound = f.sound }

    pub direct-idle : DirectFollows N by_number (Idle ∷ h) l.counts.direct offsets links
    unfolding count events
    direct-idle = record { counts = f.counts; window = f.window; seen = f.seen; sound = f.sound }
