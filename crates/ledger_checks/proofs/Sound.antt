-- What the tests of a call show where none of them fails. Assumes nothing.
use mathlib.Core.Path.{◌≡◌}
use mathlib.Core.Bool.{true, ◌&&◌}
use mathlib.Core.List.{List}
use Prim.Native.Nat.{ℕ}
use lib.Dec.{ltb, leb}
use lib.ListN.{length}
use borrow.Author.Tests.{ltb-true, leb-true, eqb-true}
use Rattle.limits.specs.Limits.{capacity, most_calls, count_bound}
use Rattle.call_types.specs.declared.ReplyObservation.{ReplyObservation}
use Rattle.chains.specs.declared.Ring.{Ring}
use Rattle.chains.specs.Rings.{RingFits}
use Rattle.ranges.specs.Ranges.{in_range}
use Rattle.replies.specs.Bounds as replies
use Rattle.replies.proofs.Tested.{both, in_bounds}
use Rattle.delays.specs.Bounds as delays
use Rattle.clock_quality.specs.Bounds as clock_quality
use Rattle.direct.specs.declared.Counts as direct-counts
use Rattle.direct.specs.Outcomes as direct
use Rattle.follow_ups.specs.declared.FollowCounts.{FollowCounts}
use Rattle.follow_ups.specs.declared.FollowUps.{FollowUps}
use Rattle.follow_ups.specs.Bounds as follow_ups
use Rattle.ledger_state.specs.declared.Ledger.{Ledger}
use Rattle.ledger_state.specs.Refusal.{sized, ring_fits, rings_fit, counts_fit, room_for_call}
use Rattle.ledger_state.proofs.Served.{served}
use Rattle.ledger_steps.specs.Refusals.{awaits_key, refusal_of_sent, refusal_of_accept, refusal_of_observe, refusal_of_answered}
use Rattle.ledger_checks.specs.Sound.{SoundRings, SoundCounts, SoundSent, SoundAccept, SoundObserve, SoundAnswered}
use Rattle.ledger_checks.proofs.Order.{earlier-none}

-- ---- the parts of the state

ring_sound : (r : Ring) → ring_fits r ≡ true → RingFits capacity r
ring_sound r e =
    let x = both (ltb r.head capacity) (leb r.len capacity) e in
    record { head_in = ltb-true r.head capacity x.0; len_in = leb-true r.len capacity x.1 }

pub rings_sound : (l : Ledger) → rings_fit l ≡ true → SoundRings l
rings_sound l e =
    let seen = direct.seen_in l.counts.direct.window in
    let x = both (ring_fits l.tables.keys && ring_fits l.tables.probes) (leb seen capacity) e in
    let y = both (ring_fits l.tables.keys) (ring_fits l.tables.probes) x.0 in
    record {
      keys_ring = ring_sound l.tables.keys y.0;
      probes_ring = ring_sound l.tables.probes y.1;
      seen_in = leb-true seen capacity x.1;
    }

-- the counts of the direct measurement
direct_sound : (n : direct-counts.Counts) → direct.counts_in_bounds n ≡ true → direct.InBounds n
direct_sound n e =
    let a = ltb n.observations count_bound in
    let b = ltb n.unavailable count_bound in
    let c = ltb n.discontinuities count_bound in
    let d = ltb n.reordered count_bound in
    let x = both (a && b && c) d e in
    let y = both (a && b) c x.0 in
    let z = both a b y.0 in
    record {
      observed = ltb-true n.observations count_bound z.0;
      unavailable = ltb-true n.unavailable count_bound z.1;
      discontinued = ltb-true n.discontinuities count_bound y.1;
      reordered = ltb-true n.reordered count_bound x.1;
    }

-- the counts of the follow-ups
follow_counts_sound : (n : FollowCounts) → follow_ups.counts_fit n ≡ true → follow_ups.CountsIn n
follow_counts_sound n e =
    let a = ltb n.observations count_bound in
    let b = ltb n.matched count_bound in
    let c = ltb n.repeated count_bound in
    let d = ltb n.unmatched count_bound in
    let f = ltb n.ambiguous count_bound in
    let g = ltb n.unavailable count_bound in
    let v = both (a && b && c && d && f) g e in
    let w = both (a && b && c && d) f v.0 in
    let x = both (a && b && c) d w.0 in
    let y = both (a && b) c x.0 in
    let z = both a b y.0 in
    record {
      observations = ltb-true n.observations count_bound z.0;
      matched = ltb-true n.matched count_bound z.1;
      repeated = ltb-true n.repeated count_bound y.1;
      unmatched = ltb-true n.unmatched count_bound x.1;
      ambiguous = ltb-true n.ambiguous count_bound w.1;
      unavailable = ltb-true n.unavailable count_bound v.1;
    }

follow_sound : (f : FollowUps) → follow_ups.follow_ups_fit f ≡ true → follow_ups.InBounds f
follow_sound f e =
    let x = both (follow_ups.counts_fit f.counts && delays.counts_fit f.delay) (clock_quality.counts_fit f.quality) e in
    let y = both (follow_ups.counts_fit f.counts) (delays.counts_fit f.delay) x.0 in
    record {
      counts = follow_counts_sound f.counts y.0;
      delay = delays.fit_bounded f.delay y.1;
      quality = clock_quality.fit_bounded f.quality x.1;
    }

pub counts_sound : (l : Ledger) → room_for_call l ≡ true → SoundCounts l
counts_sound l e =
    let a = replies.replies_fit l.counts.replies in
    let b = delays.counts_fit l.counts.rtt in
    let c = direct.counts_in_bounds l.counts.direct.counts in
    let d = follow_ups.follow_ups_fit l.counts.follow in
    let w = both (ltb l.calls most_calls) (a && b && c && d) e in
    let x = both (a && b && c) d w.1 in
    let y = both (a && b) c x.0 in
    let z = both a b y.0 in
    record {
      calls-below = ltb-true l.calls most_calls w.0;
      replies_in = in_bounds l.counts.replies z.0;
      rtt_in = delays.fit_bounded l.counts.rtt z.1;
      direct_in = direct_sound l.counts.direct.counts y.1;
      follow_in = follow_sound l.counts.follow x.1;
    }

-- ---- the calls

size : (n : ℕ) → sized n ≡ true → n ≡ capacity
size n e = eqb-true n capacity e

pub sent_sound : (other : ℕ) (l : Ledger) (probes links : ℕ) → refusal_of_sent other l probes links ≡ 0 → SoundSent l probes links
unfolding refusal_of_sent
sent_sound other l probes links h =
    let p = served (sized probes && sized links && rings_fit l) true true (room_for_call l) true true (earlier-none _ other h) in
    let x = both (sized probes && sized links) (rings_fit l) p.placed_is in
    let y = both (sized probes) (sized links) x.0 in
    record {
      probes_size = size probes y.0;
      links_size = size links y.1;
      rings = rings_sound l x.1;
      counts = counts_sound l p.counted_is;
    }

pub accept_sound : (other : ℕ) (l : Ledger) (keys slots probes links : ℕ) → refusal_of_accept other l keys slots probes links ≡ 0 → SoundAccept l keys slots probes links
unfolding refusal_of_accept
accept_sound other l keys slots probes links h =
    let p = served (sized keys && sized slots && sized probes && sized links && rings_fit l) true true (room_for_call l) true true (earlier-none _ other h) in
    let w = both (sized keys && sized slots && sized probes && sized links) (rings_fit l) p.placed_is in
    let x = both (sized keys && sized slots && sized probes) (sized links) w.0 in
    let y = both (sized keys && sized slots) (sized probes) x.0 in
    let z = both (sized keys) (sized slots) y.0 in
    record {
      keys_size = size keys z.0;
      slots_size = size slots z.1;
      probes_size = size probes y.1;
      links_size = size links x.1;
      rings = rings_sound l w.1;
      counts = counts_sound l p.counted_is;
    }

-- what `observe` has tested before it reads the newest key
pub record PlacedObserve (l : Ledger) (keys : List (List ℕ)) (slots offsets links : ℕ) : Type 0 where
  pub keys_size : length keys ≡ capacity
  pub slots_size : slots ≡ capacity
  pub offsets_size : offsets ≡ capacity
  pub links_size : links ≡ capacity
  pub rings : SoundRings l

pub observe-placed :
    (l : Ledger) (keys : List (List ℕ)) (slots offsets links : ℕ) →
    sized (length keys) && sized slots && sized offsets && sized links && rings_fit l ≡ true →
    PlacedObserve l keys slots offsets links
observe-placed l keys slots offsets links e =
    let w = both (sized (length keys) && sized slots && sized offsets && sized links) (rings_fit l) e in
    let x = both (sized (length keys) && sized slots && sized offsets) (sized links) w.0 in
    let y = both (sized (length keys) && sized slots) (sized offsets) x.0 in
    let z = both (sized (length keys)) (sized slots) y.0 in
    record {
      keys_size = size (length keys) z.0;
      slots_size = size slots z.1;
      offsets_size = size offsets y.1;
      links_size = size links x.1;
      rings = rings_sound l w.1;
    }

pub observe-sound :
    (l : Ledger) (keys : List (List ℕ)) (slots offsets links : ℕ) (o : ReplyObservation) →
    refusal_of_observe l keys slots offsets links o ≡ 0 →
    SoundObserve l keys slots offsets links o
unfolding refusal_of_observe
observe-sound l keys slots offsets links o h =
    let p = served (sized (length keys) && sized slots && sized offsets && sized links && rings_fit l) (in_range o) true (room_for_call l) (awaits_key l keys o.key) true h in
    let x = observe-placed l keys slots offsets links p.placed_is in
    record {
      keys_size = x.keys_size;
      slots_size = x.slots_size;
      offsets_size = x.offsets_size;
      links_size = x.links_size;
      rings = x.rings;
      ranged = p.ranged_is;
      counts = counts_sound l p.counted_is;
      awaiting = p.awaiting_is;
    }

pub answered_sound : (l : Ledger) (probes links : ℕ) → refusal_of_answered l probes links ≡ 0 → SoundAnswered l probes links
unfolding refusal_of_answered
answered_sound l probes links h =
    let p = served (sized probes && sized links && rings_fit l) true true true true true h in
    let x = both (sized probes && sized links) (rings_fit l) p.placed_is in
    let y = both (sized probes) (sized links) x.0 in
    record { probes_size = size probes y.0; links_size = size links y.1; rings = rings_sound l x.1 }
