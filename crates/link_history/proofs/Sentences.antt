-- The customer's sentences, each a theorem about what the code's own calls show: of a link made fresh over any rooms, after any calls cs, refused
-- ones included; h are the served ones.
-- Assumes nothing.
use Rattle.ledger_state.specs.declared.Ledger.{Ledger}
use Rattle.std.specs.Prelude.{None, Result, Ok, Err}
use mathlib.Core.Path.{◌≡◌, refl, sym, ap, subst, ◌∙◌}
use mathlib.Core.Bool.{Bool, true, false, cond}
use mathlib.Core.Logic.{◌↔◌}
use mathlib.Core.List.{List, [], Memᴰ}
use Prim.Native.Nat.{ℕ, zero, suc, ◌+◌, ◌≤◌}
use native.Mathlib.Omega.{arith}
use lib.Dec.{eqb}
use lib.ListN.{length, get_or}
use Rattle.limits.specs.Limits.{capacity}
use Rattle.call_types.specs.declared.Reply.{Reply}
use Rattle.call_types.specs.declared.Call.{Call}
use Rattle.call_types.specs.declared.Call.TheVariants.{Accept}
use Rattle.chains.specs.Hash.{number_hash}
use Rattle.chains.proofs.Contents.{length-contents}
use Rattle.chains.proofs.Tests.{eq_false, true_not_false}
use Rattle.key_ring.specs.Rows.{no_slot, count_of, is_observed, words_of}
use Rattle.key_ring.specs.Table.{Table, newest_slot, row_at, rows_of}
use Rattle.key_ring.proofs.Meaning.{slot_count}
use Rattle.key_ring.proofs.Holders.{observed-at-most}
use Rattle.history.specs.Given.{packet_of}
use Rattle.history.specs.Ledger.{Class, duplicate, unknown, unique, copies_of, rememberings, held, last_accepted, reply_class, answer_by, answer, is_reply, count, events}
use Rattle.history.specs.Evictions.{evicted_answered, renewed}
use Rattle.history.specs.DirectLoss.{spans, shown_reverse, highest_less_seen}
use Rattle.history.specs.FollowUps.{has_follow, measured}
use Rattle.history.specs.Figures.{estimates}
use Rattle.history.proofs.Missing.{reverse-missing_is}
use Rattle.history.proofs.Sentences.{duplicate_exactly, replies-add_up, unique-is_answered_plus_additional, classes-add-up}
use Rattle.clock_quality.specs.Samples.{AddsUp}
use Rattle.ledger_snapshot.specs.declared.Snapshot.{Snapshot}
use Rattle.ledger_snapshot.specs.Snapshot.{snapshot_of}
use Rattle.thousandths.specs.Thousandths.{thousandths_by, thousandths_of, known_of}
use Rattle.ledger_steps.specs.declared.Accepted.{Accepted}
use Rattle.ledger_steps.specs.declared.Accepted.TheVariants as accepted
use Rattle.reply_history.specs.Fits.{KeyFits}
use Rattle.reply_history.specs.Follows.{as_accepted, keys_table}
use Rattle.reply_history.proofs.AddUp.{remembered-add_up, evicted-add_up}
use Rattle.observe_history.specs.Direct.{packets_of, since}
use Rattle.observe_history.specs.FollowUps.{slot_held}
use Rattle.observe_history.proofs.DirectShown.{reverse-shows}
use Rattle.observe_history.proofs.Quality.{quality_adds_up}
use Rattle.link_steps.specs.Steps.{LinkStand, accept_result, refuses, after, played, served}
use Rattle.link_history.specs.Fresh.{Making, MakingFits, fresh_link, words_in, stand_of, AllFits}
use Rattle.link_history.specs.Shows.{LedgerShows}
use Rattle.link_history.proofs.Follows.{Follow, link_follows}
use Rattle.link_history.proofs.Shows.{ledger_follows}

-- a test of the answer
abbrev says_duplicate : Result (Ledger × Accepted) ℕ → Bool
says_duplicate (Ok (l, accepted.Duplicate)) = true
says_duplicate (Ok (l, accepted.Unknown)) = false
says_duplicate (Ok (l, accepted.Unique p o t)) = false
says_duplicate (Err n) = false

-- there is no figure of loss exactly when nothing was requested
absent_exactly : (unobserved requested : ℕ) → (thousandths_of unobserved requested ≡ None) ↔ (requested ≡ 0)
unfolding thousandths_of
absent_exactly u zero = (λ e. refl, λ e. refl)
absent_exactly u (suc n) = (
  λ e.
      let known : ◌≡◌ {A = ℕ} 1 0 = ap known_of (sym (ap (λ (b : Bool). thousandths_by b u (suc n)) (eq_false (suc n) 0 (λ d. omega (arith, d)))) ∙ e) in
      absurd (omega (arith, known)),
  λ e. absurd (omega (arith, e)),
)

module _ (m : Making) (ok : MakingFits m) (cs : List Call) (w : AllFits cs) where
  -- the link after these calls, and those that were served
  abbrev k : LinkStand
  k = played (fresh_link m) cs

  abbrev h : List Call
  h = served (fresh_link m) cs

  abbrev shows : LedgerShows (copies_of m.copies) h k
  shows = ledger_follows m ok cs w

  -- what `snapshot` shows
  abbrev shown : Snapshot
  shown = snapshot_of k.link.ledger

  -- ---- a reply that is served is a duplicate exactly when all three parts of its key equal one of the last 4,096 accepted

  module _ (a : Reply) (fits : KeyFits a.key) (taken : refuses k (Accept a) ≡ 0) where
    -- it is answered so
    abbrev AnsweredAs : Accepted → Type 0
    AnsweredAs x = (accept_result k a).answer ≡ Ok ((after k (Accept a)).link.ledger, x)

    class_of : (x : Class) → reply_class capacity (events capacity h) a.key (packet_of a.pending) ≡ x
        → says_duplicate (Ok ((after k (Accept a)).link.ledger, as_accepted (answer_by capacity x (events capacity h) a.key (packet_of a.pending)))) ≡ true
        → reply_class capacity (events capacity h) a.key (packet_of a.pending) ≡ duplicate
    class_of duplicate e d = e
    class_of unknown e d = absurd (true_not_false d refl)
    class_of unique e d = absurd (true_not_false d refl)

    is_class : AnsweredAs accepted.Duplicate → reply_class capacity (events capacity h) a.key (packet_of a.pending) ≡ duplicate
    unfolding answer
    is_class e = class_of (reply_class capacity (events capacity h) a.key (packet_of a.pending)) refl (ap says_duplicate (sym (shows.accepted a fits taken) ∙ e))

    is_answer : reply_class capacity (events capacity h) a.key (packet_of a.pending) ≡ duplicate → AnsweredAs accepted.Duplicate
    unfolding answer
    is_answer e =
        shows.accepted a fits taken
        ∙ ap (λ (x : Class). Ok ((after k (Accept a)).link.ledger, as_accepted (answer_by capacity x (events capacity h) a.key (packet_of a.pending)))) e

    pub duplicate_is_exact : AnsweredAs accepted.Duplicate ↔ Memᴰ a.key (last_accepted capacity (events capacity h))
    duplicate_is_exact = (
      λ e. (duplicate_exactly capacity (events capacity h) a.key (packet_of a.pending)).0 (is_class e),
      λ e. is_answer ((duplicate_exactly capacity (events capacity h) a.key (packet_of a.pending)).1 e),
    )

  -- ---- the counts of the snapshot add up

  -- duplicate, unknown and unique are the replies served
  pub replies-shown-add_up : shown.replies.totals.duplicate + shown.replies.totals.unknown + shown.replies.totals.unique ≡ count capacity is_reply h
  replies-shown-add_up =
      ap (λ (x : Snapshot). x.replies.totals.duplicate + x.replies.totals.unknown + x.replies.totals.unique) shows.snapshot
      ∙ replies-add_up capacity (copies_of m.copies) h

  -- unique is answered plus additional
  pub unique-shown_adds_up : shown.replies.totals.unique ≡ shown.replies.answers.answered + shown.replies.answers.additional
  unique-shown_adds_up =
      ap (λ (x : Snapshot). x.replies.totals.unique) shows.snapshot
      ∙ unique-is_answered_plus_additional capacity (copies_of m.copies) h
      ∙ sym (ap (λ (x : Snapshot). x.replies.answers.answered + x.replies.answers.additional) shows.snapshot)

  -- the five classes are the follow-ups observed
  pub classes-shown-add-up :
      shown.follow.counts.matched + shown.follow.counts.repeated + shown.follow.counts.unmatched + shown.follow.counts.ambiguous + shown.follow.counts.unavailable
      ≡ count capacity (has_follow capacity (copies_of m.copies)) h
  classes-shown-add-up =
      ap (λ (x : Snapshot). x.follow.counts.matched + x.follow.counts.repeated + x.follow.counts.unmatched + x.follow.counts.ambiguous + x.follow.counts.unavailable) shows.snapshot
      ∙ classes-add-up capacity (copies_of m.copies) h

  pub follow_ups-shown : shown.follow.counts.observations ≡ count capacity (has_follow capacity (copies_of m.copies)) h
  follow_ups-shown = ap (λ (x : Snapshot). x.follow.counts.observations) shows.snapshot

  -- invalid at the sender alone, at the reflector alone and at both are the samples shown as invalid
  pub invalid_shown_adds_up : AddsUp shown.follow.quality
  invalid_shown_adds_up = subst (λ (x : Snapshot). AddsUp x.follow.quality) (sym shows.snapshot) (quality_adds_up (estimates (measured capacity (copies_of m.copies) (events capacity h))))

  -- ---- every probe that was remembered is held, or was evicted answered, or evicted unanswered, or renewed (document 02, Q-3)

  pub remembered-shown-add-up :
      length (rememberings (events capacity h))
      ≡ length (held capacity (events capacity h)) + evicted_answered capacity (events capacity h) + shown.replies.evicted.unanswered + renewed capacity (events capacity h)
  remembered-shown-add-up =
      remembered-add_up capacity (omega arith) (events capacity h)
      ∙ sym (ap (λ (x : Snapshot). length (held capacity (events capacity h)) + evicted_answered capacity (events capacity h) + x.replies.evicted.unanswered + renewed capacity (events capacity h)) shows.snapshot)

  -- the evicted probes are those evicted answered and those evicted unanswered
  pub evicted-shown-add_up : shown.replies.evicted.probes ≡ evicted_answered capacity (events capacity h) + shown.replies.evicted.unanswered
  evicted-shown-add_up =
      ap (λ (x : Snapshot). x.replies.evicted.probes) shows.snapshot
      ∙ evicted-add_up capacity (events capacity h)
      ∙ sym (ap (λ (x : Snapshot). evicted_answered capacity (events capacity h) + x.replies.evicted.unanswered) shows.snapshot)

  -- ---- no figure of loss is shown exactly when nothing was requested

  pub silent_shows_no_figure : (shown.thousandths ≡ None) ↔ (shown.replies.totals.requested ≡ 0)
  unfolding snapshot_of
  silent_shows_no_figure = absent_exactly _ _

  -- ---- reverse missing, where shown, is the number of offsets from 1 to the highest not seen since the anchor

  -- document 01's figure: the highest offset less the seen offsets above 0
  pub reverse-shown-less : shown.direct.spans.reverse ≡ packets_of (highest_less_seen (since capacity h))
  unfolding snapshot_of
  reverse-shown-less =
      reverse-shows capacity (number_hash (words_in m)) h k.link.ledger.counts.direct k.rooms.offsets k.rooms.links (link_follows m ok cs w).observes.direct

  pub reverse-shown_is : shown.direct.spans.reverse ≡ packets_of (shown_reverse (spans (since capacity h)))
  reverse-shown_is = reverse-shown-less ∙ ap packets_of (sym (reverse-missing_is capacity (events capacity h)))

  -- ---- no slot counts more than 4,096

  abbrev follow : Follow (words_in m) (copies_of m.copies) h (stand_of k)
  follow = link_follows m ok cs w

  abbrev table : Table
  table = keys_table (stand_of k)

  taken-at-most : (words : List ℕ) (b : Bool) → count_of (cond b no_slot words) ≤ count_of words
  taken-at-most words true = omega arith
  taken-at-most words false = omega arith

  pub slots_count_few : (r : ℕ) → (slot_held capacity table r).count ≤ capacity
  unfolding rows_of
  slots_count_few r =
      let size : length (rows_of capacity table) ≡ table.ring.len = length-contents capacity (row_at table.keys table.slots) table.ring.head table.ring.len in
      omega (
        arith,
        slot_count (cond (eqb (count_of (words_of (rows_of capacity table) r)) 0) no_slot (words_of (rows_of capacity table) r)),
        taken-at-most (words_of (rows_of capacity table) r) (eqb (count_of (words_of (rows_of capacity table) r)) 0),
        follow.observes.follow_ups.slots.counted r,
        observed-at-most (rows_of capacity table) r,
        size,
        follow.replies.keys_sound.ring_fits.len_in,
      )

  -- ---- the awaiting key has a row of its own for a slot, and it is free: "needs a new slot and none is free" never holds

  pub own_row_is_free : k.link.ledger.tables.awaits ≡ true → is_observed (get_or k.rooms.slots (newest_slot capacity k.link.ledger.tables.keys) []) ≡ false
  own_row_is_free e = follow.observes.follow_ups.slots.unobserved e
