-- What the host is shown of replies, from the served calls: whether a burst waits, whether a probe is answered, and which key awaits its observe.
-- Assumes nothing.
use Rattle.std.specs.Prelude.{Some}
use mathlib.Core.Path.{◌≡◌, refl, ◌∙◌}
use mathlib.Core.Bool.{Bool, true, false, not, ◌&&◌}
use mathlib.Core.List.{List, [], ◌∷◌, map}
use Prim.Native.Nat.{ℕ, zero, suc, ◌<◌}
use native.Mathlib.Omega.{arith}
use lib.Dec.{eqb, ltb}
use lib.ListN.{take}
use Rattle.chains.specs.Walk.{first_of}
use Rattle.call_types.specs.declared.ReplyKey.{ReplyKey}
use Rattle.call_types.specs.declared.Call.{Call}
use Rattle.key_ring.specs.Keys.{first_is}
use Rattle.key_ring.specs.Table.{newest_is}
use Rattle.key_ring.proofs.Accepts.{newest_is_lem}
use Rattle.probe_ring.specs.Row.{is_answered}
use Rattle.probe_ring.proofs.Laws.{find_first}
use Rattle.history.specs.Counting.{has, present}
use Rattle.history.specs.Ledger.{Event, remembered, replied, observed, accepted, last_accepted, held, replies, awaiting, events, reply_counts}
use Rattle.ledger_state.specs.BurstWait.{burst_wait}
use Rattle.ledger_steps.specs.Rooms.{LedgerStand}
use Rattle.ledger_steps.specs.Readers.{answered_in}
use Rattle.reply_history.specs.Follows.{probe_in, awaits_in, keys_table, probe_rooms, RepliesFollow}
use Rattle.reply_history.proofs.Saturation.{some_before}
use Rattle.reply_history.proofs.Probes.{rows_first, rows_absent}

-- the key that awaits is the last accepted one
awaits-first : (n : ℕ) (es : List Event) (k : ReplyKey) → (present (awaiting es) && first_is (take (suc n) (accepted es)) k) ≡ awaits_in (awaiting es) k
unfolding awaiting accepted
awaits-first n [] k = refl
awaits-first n (remembered s o t p ∷ es) k = awaits-first n es k
awaits-first n (replied a p ∷ es) k = refl
awaits-first n (observed o ∷ es) k = refl

module _ (N : ℕ) (by_key : ReplyKey → ℕ) (by_number : ℕ → ℕ) (copies : ℕ) (h : List Call) (s : LedgerStand) (f : RepliesFollow N by_key by_number copies h s) where
  -- ---- the counts

  -- `needs_burst_wait`: more than one copy, and some request is not satisfied
  pub shown_wait : burst_wait s.ledger ≡ (ltb 1 copies && ltb (reply_counts N copies h).satisfied (reply_counts N copies h).requested)
  shown_wait = rw (f.copies_are, f.replies_are)

  -- ---- the rooms

  -- `answered`: the probe is held, and has a reply since it was remembered
  pub shown-answered : (q : ℕ) → answered_in N by_key by_number s.ledger s.rooms.probes s.rooms.links q
      ≡ (has (held N (events N h)) q && not (eqb (replies q (events N h)) 0))
  unfolding answered_in
  shown-answered q = find_first N by_number (probe_rooms s) f.probes_sound is_answered false q ∙ rw f.probes_are (go (has (held N (events N h)) q) refl)
    where
      go : (b : Bool) → has (held N (events N h)) q ≡ b
          → first_of (λ p. eqb q p.sequence) is_answered false (map (probe_in (events N h)) (held N (events N h))) ≡ (b && not (eqb (replies q (events N h)) 0))
      go true e = rows_first (events N h) is_answered false q (held N (events N h)) e ∙ some_before (replies q (events N h))
      go false e = rows_absent (events N h) is_answered false q (held N (events N h)) e

  -- refusal 2: observe is served of the awaiting key alone
  pub shown-awaits : 0 < N → (k : ReplyKey) → (s.ledger.tables.awaits && newest_is N s.rooms.keys s.ledger.tables.keys k) ≡ awaits_in (awaiting (events N h)) k
  unfolding last_accepted
  shown-awaits some-room k = rw (f.awaits_is, newest_is_lem N by_key by_number (keys_table s) f.keys_sound k, f.keys_are) (go N some-room)
    where
      go : (m : ℕ) → 0 < m → (present (awaiting (events N h)) && first_is (take m (accepted (events N h))) k) ≡ awaits_in (awaiting (events N h)) k
      go zero l = absurd (omega arith)
      go (suc m) l = awaits-first m (events N h) k
