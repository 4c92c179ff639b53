-- The words of a snapshot that holds the figures of a history are those of the plain figures. Assumes nothing.
use Rattle.std.specs.Prelude.{Option, None, Some}
use mathlib.Core.Path.{◌≡◌, refl, ap}
use mathlib.Core.List.{List, [], ◌∷◌, ◌++◌}
use Prim.Native.Nat.{ℕ, zero, suc}
use lib.IntN.{ℤ}
use Rattle.limits.specs.Limits.{capacity}
use Rattle.call_types.specs.declared.CounterPoint.{CounterPoint}
use Rattle.call_types.specs.declared.Call.{Call}
use Rattle.thousandths.specs.Thousandths.{known_of, value_of}
use Rattle.host_calls.specs.Calls.{accepted_words}
use Rattle.host_snapshot_words.specs.Words as shown
use Rattle.history.specs.Ledger.{ReplyCounts, reply_counts, accepted, events, last_reflector, highest_reflector, thousandths, Answer, is_duplicate, is_unknown, is_unique}
use Rattle.history.specs.DirectLoss.{direct_counts, Spans, spans, window, anchor, latest_transmit}
use Rattle.history.specs.FollowUps.{measured, follow_counts}
use Rattle.history.specs.Figures.{Figures, round_trip_figures, delay_figures}
use Rattle.reply_history.specs.Follows.{as_reflector, replies_in, as_accepted}
use Rattle.observe_history.specs.Direct.{point_of, spans_shown}
use Rattle.observe_history.specs.RoundTrips.{shown_from}
use Rattle.link_history.specs.Shows.{lost_of, thousandths_from, snapshot_from}
use Rattle.history.specs.Plain.{plain_figures}
use Rattle.host_plain_history.specs.Words.{number_words, delay_words, replies_words, direct_words, point_words, span_words, follow_words, figure_words, answer_words}
use Rattle.host_plain_history.proofs.Quality.{quality-words}

-- ---- each part

reflector_words : (l m : Option ℕ) (rest : List ℕ)
    → (shown.reflector_known (as_reflector l) ∷ shown.reflector_number (as_reflector l) ∷ shown.reflector_known (as_reflector m) ∷ shown.reflector_number (as_reflector m) ∷ rest)
    ≡ number_words l ++ (number_words m ++ rest)
reflector_words None None rest = refl
reflector_words None (Some n) rest = refl
reflector_words (Some n) None rest = refl
reflector_words (Some n) (Some k) rest = refl

loss-words : (n : ℕ) (o : Option ℕ) → (n ∷ known_of (thousandths_from o) ∷ value_of (thousandths_from o) ∷ []) ≡ (n ∷ number_words o)
loss-words n None = refl
loss-words n (Some t) = refl

delay-by : (samples : ℕ) (sum : ℤ) (least most : Option ℤ)
    → shown.delay_words (shown_from (record { samples = samples; sum = sum; minimum = least; maximum = most })) ≡ delay_words (record { samples = samples; sum = sum; minimum = least; maximum = most })
delay-by zero sum None None = refl
delay-by zero sum None (Some b) = refl
delay-by zero sum (Some a) None = refl
delay-by zero sum (Some a) (Some b) = refl
delay-by (suc n) sum None None = refl
delay-by (suc n) sum None (Some b) = refl
delay-by (suc n) sum (Some a) None = refl
delay-by (suc n) sum (Some a) (Some b) = refl

delay-words : (f : Figures) → shown.delay_words (shown_from f) ≡ delay_words f
delay-words f = delay-by f.samples f.sum f.minimum f.maximum

point-words : (o : Option CounterPoint) → shown.point_words (point_of o) ≡ point_words o
unfolding shown.point_words
point-words None = refl
point-words (Some p) = refl

forward_words : (s r t p v : ℕ) (o : Option ℕ)
    → shown.span_words (spans_shown (Some (record { sender_packets = s; reflector_received = r; forward_missing = o; reflector_transmitted = t; replies_received = p; reverse-missing = v })))
    ≡ span_words (Some (record { sender_packets = s; reflector_received = r; forward_missing = o; reflector_transmitted = t; replies_received = p; reverse-missing = v }))
forward_words s r t p v None = refl
forward_words s r t p v (Some n) = refl

span_words_lem : (o : Option Spans) → shown.span_words (spans_shown o) ≡ span_words o
span_words_lem None = refl
span_words_lem (Some s) =
    forward_words s.sender_packets s.reflector_received s.reflector_transmitted s.replies_received s.reverse-missing s.forward_missing

-- ---- the whole

-- THE WORDS of the snapshot that the history calls for
pub snapshot_words : (copies : ℕ) (h : List Call) → shown.shown_words (snapshot_from copies h) ≡ figure_words (plain_figures capacity copies h)
unfolding shown.shown_words shown.direct_words shown.follow_words figure_words
snapshot_words copies h = λ i.
    replies i ++ (loss-words (lost_of c) (thousandths c.requested (lost_of c)) i ++ (delay-words (round_trip_figures capacity h) i
    ++ ((direct_words (direct_counts capacity h) ++ (point-words (anchor w) i ++ (point-words (latest_transmit w) i ++ span_words_lem (spans w) i)))
    ++ ((follow_words (follow_counts capacity copies h) ++ (delay-words (delay_figures capacity copies h) i ++ quality-words (measured capacity copies (events capacity h)) i))
    ++ (c.evicted-unanswered ∷ [])))))
  where
    c : ReplyCounts
    c = reply_counts capacity copies h

    w : List CounterPoint
    w = window capacity (events capacity h)

    replies : shown.replies_words (replies_in capacity copies h) ≡ replies_words (plain_figures capacity copies h)
    replies =
        ap (λ (x : List ℕ). c.requested ∷ c.unique ∷ c.duplicate ∷ c.unknown ∷ c.answered ∷ c.additional ∷ c.late ∷ c.satisfied ∷ x)
        (reflector_words (last_reflector (accepted (events capacity h))) (highest_reflector (accepted (events capacity h)))
        (c.reordered ∷ c.independent ∷ c.probes-evicted ∷ c.replies-evicted ∷ []))

-- ---- the answer of an accept

pub answer-words : (a : Answer) → accepted_words (as_accepted a) ≡ answer_words a
answer-words is_duplicate = refl
answer-words is_unknown = refl
answer-words (is_unique p None train) = refl
answer-words (is_unique p (Some n) train) = refl
