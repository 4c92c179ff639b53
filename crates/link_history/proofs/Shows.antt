-- From a link made fresh, after any calls, refused ones included: what the code's state and rooms show is what the served calls call for.
-- Assumes nothing.
use Rattle.ledger_steps.specs.declared.Accepted.{Accepted}
use Rattle.std.specs.Prelude.{Ok}
use mathlib.Core.Path.{◌≡◌, refl, sym, ap, ◌∙◌, subst}
use mathlib.Core.Bool.{Bool, true, ◌&&◌}
use mathlib.Core.List.{List}
use Prim.Native.Nat.{ℕ, zero, suc, ◌^◌, ◌<◌}
use native.Mathlib.Omega.{arith}
use lib.ListN.{length}
use borrow.Author.Tests.{le-leb}
use Rattle.limits.specs.Limits.{capacity}
use Rattle.call_types.specs.declared.ReplyKey.{ReplyKey}
use Rattle.call_types.specs.declared.Reply.{Reply}
use Rattle.call_types.specs.declared.Call.{Call}
use Rattle.call_types.specs.declared.Call.TheVariants.{Accept}
use Rattle.chains.specs.declared.Ring.{Ring}
use Rattle.chains.specs.Hash.{number_hash}
use Rattle.chains.specs.Rings.{RingFits}
use Rattle.chains.proofs.Hashes.{number_hash-below}
use Rattle.chains.proofs.Tests.{eq_true, eq_false, lt_true}
use Rattle.key_ring.specs.Table.{hash_of}
use Rattle.history.specs.Ledger.{ReplyCounts, copies_of, reply_counts, thousandths}
use Rattle.ledger_state.specs.declared.Ledger.{Ledger}
use Rattle.ledger_state.specs.Refusal.{sized, ring_fits, rings_fit, first_refusal}
use Rattle.ledger_state.specs.BurstWait.{burst_wait}
use Rattle.ledger_snapshot.specs.Snapshot.{snapshot_of}
use Rattle.thousandths.specs.Thousandths.{thousandths_of}
use Rattle.direct.specs.Outcomes.{seen_in}
use Rattle.ledger_steps.specs.Rooms.{LedgerStand}
use Rattle.ledger_steps.specs.Accept.{AcceptOutcome, accept_in, accept_on}
use Rattle.ledger_steps.specs.Readers.{answered_in, answered_on}
use Rattle.ledger_steps.specs.Refusals.{awaits_key, refusal_of_accept, refusal_of_answered}
use Rattle.ledger_steps.specs.Calls.{accept_number, accept_by, accept_to, answered_by, answered_to}
use Rattle.reply_history.specs.Fits.{KeyFits, AllFit}
use Rattle.reply_history.proofs.Accept.{accept_follows}
use Rattle.reply_history.proofs.Shown.{shown_wait, shown-answered, shown-awaits}
use Rattle.observe_history.proofs.Steps.{shown_follows}
use Rattle.link_steps.specs.Steps.{LinkStand, watch_refuses, ledger_of_accept, accept_result, refuses, after, played, served}
use Rattle.link_history.specs.Fresh.{Making, MakingFits, fresh_link, words_in, stand_of, AllFits}
use Rattle.link_history.specs.Shows.{lost_of, thousandths_from, snapshot_from, counts_from, wait_from, answered_from, awaits_from, accepted_from, LedgerShows}
use Rattle.link_history.proofs.Calls.{served_fit}
use Rattle.link_history.proofs.Follows.{Follow, key_below, copies_fit, calls_fit, link_follows}

-- both tests hold
pub both_hold : (a b : Bool) → a ≡ true → b ≡ true → (a && b) ≡ true
both_hold a b p q = ap (λ (x : Bool). x && b) p ∙ q

ring_true : (r : Ring) → RingFits capacity r → ring_fits r ≡ true
ring_true r fit = both_hold _ _ (lt_true r.head capacity fit.head_in) (le-leb r.len capacity fit.len_in)

-- both are absent where nothing was requested, and there alone
thousandths-same : (lost requested : ℕ) → thousandths_of lost requested ≡ thousandths_from (thousandths requested lost)
unfolding thousandths_of
thousandths-same lost zero = refl
thousandths-same lost (suc n) = rw (eq_false (suc n) 0 (λ e. omega (arith, e)))

module _ (words : List ℕ) (copies : ℕ) (h : List Call) (k : LinkStand) (f : Follow words copies h (stand_of k)) where
  abbrev l : Ledger
  l = k.link.ledger

  abbrev s : LedgerStand
  s = stand_of k

  -- ---- rooms and rings are in place, always

  pub keys_sized : sized (length k.rooms.keys) ≡ true
  keys_sized = eq_true _ capacity f.replies.keys_sound.keys_fit.rows_are

  pub slots_sized : sized (length k.rooms.slots) ≡ true
  slots_sized = eq_true _ capacity f.replies.keys_sound.slots_fit.rows_are

  pub probes-sized : sized (length k.rooms.probes) ≡ true
  probes-sized = eq_true _ capacity f.replies.probes_sound.rows_fit

  pub offsets_sized : sized (length k.rooms.offsets) ≡ true
  offsets_sized = eq_true _ capacity f.observes.direct.sound.offsets_fit

  pub links_sized : sized (length k.rooms.links) ≡ true
  links_sized = eq_true _ capacity f.replies.keys_sound.links_fit.rows_are

  pub rings_fit_lem : rings_fit l ≡ true
  rings_fit_lem =
      both_hold _ _ (both_hold _ _ (ring_true l.tables.keys f.replies.keys_sound.ring_fits) (ring_true l.tables.probes f.replies.probes_sound.ring_fits))
      (le-leb (seen_in l.counts.direct.window) capacity f.observes.direct.sound.count_in)

  -- ---- the counts

  abbrev c : ReplyCounts
  c = reply_counts capacity copies h

  -- "Unobserved is requested less satisfied, not below 0."
  unobserved_is : (snapshot_of l).unobserved ≡ lost_of c
  unfolding snapshot_of
  unobserved_is = rw f.replies.replies_are

  -- "Thousandths are 1,000·unobserved/requested rounded down"; "with nothing requested there is no figure"
  thousandths_are : (snapshot_of l).thousandths ≡ thousandths_from (thousandths c.requested (lost_of c))
  unfolding snapshot_of
  thousandths_are = rw f.replies.replies_are (thousandths-same (lost_of c) c.requested)

  shown : ((snapshot_of l).rtt ≡ (snapshot_from copies h).rtt) × ((snapshot_of l).direct ≡ (snapshot_from copies h).direct) × ((snapshot_of l).follow ≡ (snapshot_from copies h).follow)
  unfolding snapshot_of
  shown = shown_follows capacity (omega arith) (omega arith) (hash_of words) (number_hash words) (key_below words) (number_hash-below words) copies h s f.replies f.observes

  pub snapshot_is : snapshot_of l ≡ snapshot_from copies h
  unfolding snapshot_of
  snapshot_is = λ i. record {
    replies = f.replies.replies_are i;
    unobserved = unobserved_is i;
    thousandths = thousandths_are i;
    rtt = shown.0 i;
    direct = shown.1 i;
    follow = shown.2 i;
  }

  pub counts_are : l.counts ≡ counts_from copies h
  counts_are = λ i. record {
    replies = f.replies.replies_are i;
    rtt = f.observes.round_trips i;
    direct = record { counts = f.observes.direct.counts i; window = f.observes.direct.window i };
    follow = record {
      counts = f.observes.follow_ups.figures.counts i;
      delay = f.observes.follow_ups.figures.delay i;
      quality = f.observes.follow_ups.figures.quality i;
    };
  }

  pub waits_is : burst_wait l ≡ wait_from copies h
  waits_is = shown_wait capacity (hash_of words) (number_hash words) copies h s f.replies

  -- ---- the answers

  pub awaits_is : (key : ReplyKey) → awaits_key l k.rooms.keys key ≡ awaits_from h key
  awaits_is key = shown-awaits capacity (hash_of words) (number_hash words) copies h s f.replies (omega arith) key

  none-refused : (a : Bool) → a ≡ true → first_refusal a true true true true true ≡ 0
  none-refused a e = ap (λ (b : Bool). first_refusal b true true true true true) e

  answered-served : refusal_of_answered l (length k.rooms.probes) (length k.rooms.links) ≡ 0
  unfolding refusal_of_answered
  answered-served = none-refused _ (both_hold _ _ (both_hold _ _ probes-sized links_sized) rings_fit_lem)

  answered_on_lem : (q : ℕ) → answered_on l k.rooms.probes k.rooms.links q ≡ answered_from h q
  answered_on_lem q =
      subst (λ (w : List ℕ). answered_in capacity (hash_of w) (number_hash w) l k.rooms.probes k.rooms.links q ≡ answered_from h q) (sym f.words_are)
      (shown-answered capacity (hash_of words) (number_hash words) copies h s f.replies q)

  pub answered_is : (q : ℕ) → answered_to l k.rooms.probes k.rooms.links q ≡ Ok (answered_from h q)
  unfolding answered_to
  answered_is q = ap (λ (n : ℕ). answered_by n (answered_on l k.rooms.probes k.rooms.links q)) answered-served ∙ ap Ok (answered_on_lem q)

  module _ (copies_in : copies < 2 ^ 16) (fit : AllFit h) where
    accepted_on : (a : Reply) → KeyFits a.key → (accept_on l k.rooms.keys k.rooms.slots k.rooms.probes k.rooms.links a).accepted ≡ accepted_from h a
    accepted_on a fits =
        subst (λ (w : List ℕ). (accept_in capacity (hash_of w) (number_hash w) l k.rooms.keys k.rooms.slots k.rooms.probes k.rooms.links a).accepted ≡ accepted_from h a) (sym f.words_are)
        (accept_follows capacity (omega arith) (hash_of words) (number_hash words) (key_below words) (number_hash-below words) copies copies_in h fit s a fits f.replies).answers

    pub accepted_is : (a : Reply) → KeyFits a.key → refuses k (Accept a) ≡ 0 → (accept_result k a).answer ≡ Ok ((after k (Accept a)).link.ledger, accepted_from h a)
    unfolding refuses after accept_to
    accepted_is a fits = go (refusal_of_accept (watch_refuses k.link.watch (length k.queue)) l (length k.rooms.keys) (length k.rooms.slots) (length k.rooms.probes) (length k.rooms.links))
      where
        o : AcceptOutcome
        o = accept_on l k.rooms.keys k.rooms.slots k.rooms.probes k.rooms.links a

        go : (n : ℕ) → accept_number (accept_by n o k.rooms.keys k.rooms.slots k.rooms.probes k.rooms.links).answer ≡ 0
            → (accept_by n o k.rooms.keys k.rooms.slots k.rooms.probes k.rooms.links).answer
            ≡ Ok (ledger_of_accept l (accept_by n o k.rooms.keys k.rooms.slots k.rooms.probes k.rooms.links).answer, accepted_from h a)
        go zero e = ap (λ (x : Accepted). Ok (o.ledger, x)) (accepted_on a fits)
        go (suc n) e = absurd (omega (arith, e))

    pub ledger_shows : LedgerShows copies h k
    ledger_shows = record {
      snapshot = snapshot_is;
      counts = counts_are;
      calls = f.calls_are;
      waits = waits_is;
      awaits = awaits_is;
      answered = answered_is;
      accepted = accepted_is;
    }

-- Whatever the rooms held, whatever was called and whatever was refused: what the ledger shows is what the served calls call for.
pub ledger_follows : (m : Making) → MakingFits m → (cs : List Call) → AllFits cs → LedgerShows (copies_of m.copies) (served (fresh_link m) cs) (played (fresh_link m) cs)
ledger_follows m ok cs w =
    ledger_shows (words_in m) (copies_of m.copies) (served (fresh_link m) cs) (played (fresh_link m) cs) (link_follows m ok cs w)
    (copies_fit m.copies ok.copies_in) (calls_fit (served (fresh_link m) cs) (served_fit (fresh_link m) cs w))
