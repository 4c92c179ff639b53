-- Before 4,294,967,295 calls are served no count of the ledger gets to 2^63 and no sum to 2^126: so of refusal 4 the number of calls alone decides.
-- Assumes nothing.
use Rattle.std.specs.Prelude.{Option}
use Rattle.estimate.specs.declared.ErrorEstimate.{ErrorEstimate}
use mathlib.Core.Path.{◌≡◌, refl}
use mathlib.Core.Bool.{Bool, true, false, not, ◌&&◌}
use mathlib.Core.List.{List}
use Prim.Native.Nat.{ℕ, ◌*◌, ◌-◌, ◌^◌, ◌≤◌, ◌<◌}
use native.Mathlib.Nat.{mul-le-mul_right}
use native.Mathlib.Omega.{arith}
use lib.Dec.{eqb, ltb}
use lib.IntN.{ℤ}
use lib.ListN.{length}
use borrow.Author.Tests.{ltb-true}
use Rattle.limits.specs.Limits.{capacity, most_calls, count_bound, sum_bound}
use Rattle.call_types.specs.declared.Call.{Call}
use Rattle.chains.proofs.Tests.{lt_true}
use Rattle.clock_quality.specs.Quality.{Class, is_both, is_unsynchronized, is_invalid, is_unknown, is_invalid_sender, is_invalid_reflector, is_invalid_both}
use Rattle.clock_quality.specs.Samples as samples
use Rattle.clock_quality.specs.Bounds as clock_quality
use Rattle.replies.specs.Bounds.{replies_fit}
use Rattle.floats.specs.Whole.{magnitude}
use Rattle.delays.specs.Sums.{sum_of}
use Rattle.delays.specs.Bounds as delays
use Rattle.direct.specs.Outcomes.{counts_in_bounds}
use Rattle.follow_ups.specs.Bounds as follow_ups
use Rattle.history.specs.Counting.{present}
use Rattle.history.specs.Ledger.{duplicate, unknown, unique, same_class, reply_class, unique?, before, behind, highest_reflector, CallTest, is_sent, is_class, is_answered, is_additional, is_late, is_satisfying, is_reordered, is_independent, accepted, events, count, probes_evicted, evicted_unanswered}
use Rattle.history.specs.DirectLoss.{is_direct, is_observation, is_unavailable, is_discontinuity, is_below, direct_counts}
use Rattle.history.specs.FollowUps.{unavailable, ambiguous, unmatched, repeated, matched, has_follow, is_follow, follow_counts, measured, round_trips}
use Rattle.history.specs.Figures.{figures_of, estimates, round_trip_figures, delay_figures, clock_quality}
use Rattle.history.specs.Figures as figures
use Rattle.ledger_state.specs.Refusal.{counts_fit}
use Rattle.reply_history.specs.Follows.{replies_in}
use Rattle.observe_history.specs.Direct.{as_direct_counts}
use Rattle.observe_history.specs.RoundTrips.{delays_from}
use Rattle.observe_history.specs.FollowUps as observe_history
use Rattle.link_history.specs.Shows.{counts_from, calls_in}
use Rattle.link_history.proofs.Shows.{both_hold}
use Rattle.link_history.proofs.Few.{count_few, on_sent, on_reply_lem, on_observe_lem, events_few, accepted_few, evicted_few, unanswered_few, trips_few, measured_few, delays_many, estimates_many, samples_few}
use Rattle.link_history.proofs.Sums.{AllIn, EventsIn, total_few, words-say, trips_in, delays_in}

module _ (copies : ℕ) (copies_in : copies < 2 ^ 16) (h : List Call) (room : calls_in h < most_calls) (fit : EventsIn (events capacity h)) where
  -- at most twice the calls
  few : (n : ℕ) → n ≤ 2 * calls_in h → ltb n count_bound ≡ true
  few n l = lt_true n count_bound (omega (arith, l, room))

  test_few : (test : CallTest) → count capacity test h ≤ calls_in h → ltb (count capacity test h) count_bound ≡ true
  test_few test l = few (count capacity test h) (omega (arith, l))

  requested_few : ltb (copies * count capacity is_sent h) count_bound ≡ true
  requested_few = lt_true (copies * count capacity is_sent h) count_bound (omega (arith, mul-le-mul_right (count capacity is_sent h) most, count_few is_sent on_sent h, room))
    where
      most : copies ≤ 65536
      most = omega (arith, copies_in)

  replies_fit_lem : replies_fit (replies_in capacity copies h) ≡ true
  replies_fit_lem =
      both_hold _ _ (both_hold _ _ (both_hold _ _
      (both_hold _ _ (both_hold _ _ (both_hold _ _ requested_few (test_few (is_class capacity unique) (count_few _ (on_reply_lem (λ k p es. same_class unique (reply_class capacity es k p))) h)))
      (test_few (is_class capacity duplicate) (count_few _ (on_reply_lem (λ k p es. same_class duplicate (reply_class capacity es k p))) h))) (test_few (is_class capacity unknown) (count_few _ (on_reply_lem (λ k p es. same_class unknown (reply_class capacity es k p))) h)))
      (both_hold _ _ (both_hold _ _ (both_hold _ _ (test_few (is_answered capacity) (count_few _ (on_reply_lem (λ k p es. unique? capacity k p es && eqb (before capacity k p es) 0)) h)) (test_few (is_additional capacity) (count_few _ (on_reply_lem (λ k p es. unique? capacity k p es && not (eqb (before capacity k p es) 0))) h)))
      (test_few (is_late capacity) (count_few _ (on_reply_lem (λ k p es. unique? capacity k p es && eqb (before capacity k p es) 0 && not (present p))) h))) (test_few (is_satisfying capacity copies) (count_few _ (on_reply_lem (λ k p es. unique? capacity k p es && ltb (before capacity k p es) copies)) h))))
      (both_hold _ _ (test_few (is_reordered capacity) (count_few _ (on_reply_lem (λ k p es. unique? capacity k p es && behind k.reflector (highest_reflector (accepted es)))) h)) (test_few (is_independent capacity) (count_few _ (on_reply_lem (λ k p es. unique? capacity k p es && not (eqb k.reflector k.sender))) h))))
      (both_hold _ _ (both_hold _ _ (few (probes_evicted capacity (events capacity h)) (omega (arith, evicted_few (events capacity h), events_few h)))
      (few (length (accepted (events capacity h)) - capacity) (omega (arith, accepted_few (events capacity h), events_few h))))
      (few (evicted_unanswered capacity (events capacity h)) (omega (arith, unanswered_few (events capacity h), events_few h))))

  -- the figures of as many samples, each below 2^64
  delays_fit : (zs : List ℤ) → length zs ≤ 2 * calls_in h → AllIn zs → delays.counts_fit (delays_from (figures_of zs)) ≡ true
  delays_fit zs l w =
      both_hold _ _ (few (length zs) l)
      (lt_true (magnitude (sum_of (figures.total zs)).high (sum_of (figures.total zs)).low) sum_bound (omega (arith, words-say (figures.total zs), total_few zs w, l, room)))

  trips_fit : delays.counts_fit (delays_from (round_trip_figures capacity h)) ≡ true
  trips_fit = delays_fit (round_trips (events capacity h)) (omega (arith, trips_few (events capacity h), events_few h)) (trips_in (events capacity h) fit)

  direct_fit : counts_in_bounds (as_direct_counts (direct_counts capacity h)) ≡ true
  direct_fit =
      both_hold _ _ (both_hold _ _ (both_hold _ _ (test_few (is_direct capacity is_observation) (count_few _ (on_observe_lem _) h)) (test_few (is_direct capacity is_unavailable) (count_few _ (on_observe_lem _) h)))
      (test_few (is_direct capacity is_discontinuity) (count_few _ (on_observe_lem _) h))) (test_few (is_direct capacity is_below) (count_few _ (on_observe_lem _) h))

  classes_fit : follow_ups.counts_fit (observe_history.as_follow_counts (follow_counts capacity copies h)) ≡ true
  classes_fit =
      both_hold _ _ (both_hold _ _ (both_hold _ _ (both_hold _ _ (both_hold _ _ (test_few (has_follow capacity copies) (count_few _ (on_observe_lem _) h))
      (test_few (is_follow capacity copies matched) (count_few _ (on_observe_lem _) h))) (test_few (is_follow capacity copies repeated) (count_few _ (on_observe_lem _) h)))
      (test_few (is_follow capacity copies unmatched) (count_few _ (on_observe_lem _) h))) (test_few (is_follow capacity copies ambiguous) (count_few _ (on_observe_lem _) h)))
      (test_few (is_follow capacity copies unavailable) (count_few _ (on_observe_lem _) h))

  measured-most : length (measured capacity copies (events capacity h)) ≤ 2 * calls_in h
  measured-most = omega (arith, measured_few copies (events capacity h), events_few h)

  follow-delays_fit : delays.counts_fit (delays_from (delay_figures capacity copies h)) ≡ true
  follow-delays_fit =
      delays_fit (figures.delays (measured capacity copies (events capacity h))) (omega (arith, delays_many (measured capacity copies (events capacity h)), measured-most))
      (delays_in copies (events capacity h) fit)

  quality_fit : clock_quality.counts_fit (clock_quality capacity copies h) ≡ true
  quality_fit =
      both_hold _ _ (both_hold _ _ (both_hold _ _ (both_hold _ _ (both_hold _ _ (both_hold _ _ (both_hold _ _ (few (length es) many) (class_few is_both)) (class_few is_unsynchronized)) (class_few is_invalid)) (class_few is_unknown))
      (class_few is_invalid_sender)) (class_few is_invalid_reflector)) (class_few is_invalid_both)
    where
      es : List (Option (ErrorEstimate × ErrorEstimate))
      es = estimates (measured capacity copies (events capacity h))

      many : length es ≤ 2 * calls_in h
      many = omega (arith, estimates_many (measured capacity copies (events capacity h)), measured-most)

      class_few : (test : Class → Bool) → ltb (samples.count test es) count_bound ≡ true
      class_few test = few (samples.count test es) (omega (arith, samples_few test es, many))

  pub counts_fit_lem : counts_fit (counts_from copies h) ≡ true
  counts_fit_lem = both_hold _ _ (both_hold _ _ (both_hold _ _ replies_fit_lem trips_fit) direct_fit) (both_hold _ _ (both_hold _ _ classes_fit follow-delays_fit) quality_fit)

-- Of refusal 4 the number of calls alone decides.
pub calls_decide : (copies : ℕ) → copies < 2 ^ 16 → (h : List Call) → EventsIn (events capacity h) → (ltb (calls_in h) most_calls && counts_fit (counts_from copies h)) ≡ ltb (calls_in h) most_calls
calls_decide copies l h fit = go (ltb (calls_in h) most_calls) refl
  where
    go : (b : Bool) → ltb (calls_in h) most_calls ≡ b → (b && counts_fit (counts_from copies h)) ≡ b
    go true e = counts_fit_lem copies l h (ltb-true (calls_in h) most_calls e) fit
    go false e = refl
