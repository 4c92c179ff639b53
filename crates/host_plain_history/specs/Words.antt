-- The plain figures as the words that a host reads: the order of the fields is that of `ambrulicciu_snapshot` in the header. A flag is 1 or 0; what may be
-- absent is a flag and its value, 0 where it is absent; a time in ms is the bits of an f64. Assumes nothing.
use Rattle.std.specs.Prelude.{List, [], ◌∷◌, ◌++◌, ℕ, zero, suc, ◌+◌, ℤ, Float, Option, None, Some}
use Rattle.std.specs.Float.{binary64}
use Rattle.std.specs.Float.Ieee.{to_bits}
use Rattle.estimate.specs.declared.ErrorEstimate.{ErrorEstimate}
use Rattle.estimate.specs.Wire.{wire_of}
use Rattle.call_types.specs.declared.CounterPoint.{CounterPoint}
use Rattle.delays.specs.Summary.{in_ms, quotient_ms}
use Rattle.host_numbers.specs.Numbers.{flag_word}
use Rattle.history.specs.Ledger.{Answer, is_duplicate, is_unknown, is_unique}
use Rattle.history.specs.DirectLoss.{DirectCounts, Spans}
use Rattle.history.specs.FollowUps.{FollowCounts}
use Rattle.history.specs.Figures.{Figures}
use Rattle.history.specs.Quality.{Sample, error_ms, PlainQuality}
use Rattle.history.specs.Plain.{PlainFigures}
use Rattle.host_plain_history.specs.Monitor.{Watch}

-- a number that may be absent
abbrev pub number_words : Option ℕ → List ℕ
number_words None = 0 ∷ 0 ∷ []
number_words (Some n) = 1 ∷ n ∷ []

-- an f64 that may be absent
abbrev pub float_words : Option Float → List ℕ
float_words None = 0 ∷ 0 ∷ []
float_words (Some x) = 1 ∷ to_bits binary64 x ∷ []

-- a delay in ns, shown in ms
abbrev pub ms_words : Option ℤ → List ℕ
ms_words None = 0 ∷ 0 ∷ []
ms_words (Some z) = 1 ∷ to_bits binary64 (in_ms z) ∷ []

-- the average in ms, none without samples
abbrev pub average_words : ℤ → ℕ → List ℕ
average_words sum zero = 0 ∷ 0 ∷ []
average_words sum (suc n) = 1 ∷ to_bits binary64 (quotient_ms sum (suc n)) ∷ []

-- samples; minimum, average and maximum
abbrev pub delay_words : Figures → List ℕ
delay_words f = f.samples ∷ (ms_words f.minimum ++ (average_words f.sum f.samples ++ ms_words f.maximum))

-- words 0 to 15
abbrev pub replies_words : PlainFigures → List ℕ
replies_words f =
    let c = f.replies in
    c.requested ∷ c.unique ∷ c.duplicate ∷ c.unknown ∷ c.answered ∷ c.additional ∷ c.late ∷ c.satisfied
    ∷ (number_words f.last_reflector ++ (number_words f.highest_reflector ++ (c.reordered ∷ c.independent ∷ c.probes-evicted ∷ c.replies-evicted ∷ [])))

-- 26 to 30
abbrev pub direct_words : DirectCounts → List ℕ
direct_words c = c.observations ∷ c.unavailable ∷ c.discontinuities ∷ c.reordered ∷ flag_word c.history_exceeded ∷ []

-- 31 to 38: S_TxC, R_RxC and R_TxC
abbrev pub point_words : Option CounterPoint → List ℕ
point_words None = 0 ∷ 0 ∷ 0 ∷ 0 ∷ []
point_words (Some p) = 1 ∷ p.sender.0 ∷ p.received.0 ∷ p.transmitted.0 ∷ []

-- 39 to 50
abbrev pub span_words : Option Spans → List ℕ
span_words None = 0 ∷ 0 ∷ 0 ∷ 0 ∷ 0 ∷ 0 ∷ 0 ∷ 0 ∷ 0 ∷ 0 ∷ 0 ∷ 0 ∷ []
span_words (Some s) =
    1 ∷ s.sender_packets ∷ 1 ∷ s.reflector_received
    ∷ (number_words s.forward_missing ++ (1 ∷ s.reflector_transmitted ∷ 1 ∷ s.replies_received ∷ 1 ∷ s.reverse-missing ∷ []))

-- 51 to 56
abbrev pub follow_words : FollowCounts → List ℕ
follow_words c = c.observations ∷ c.matched ∷ c.repeated ∷ c.unmatched ∷ c.ambiguous ∷ c.unavailable ∷ []

-- the error in ms, or the 16 bits as received where it is invalid
abbrev pub error_words : Option Float → ErrorEstimate → List ℕ
error_words None e = 0 ∷ 0 ∷ wire_of e ∷ []
error_words (Some x) e = 1 ∷ to_bits binary64 x ∷ 0 ∷ []

-- an estimate
abbrev pub estimate_words : ErrorEstimate → List ℕ
estimate_words e = 1 ∷ flag_word e.synchronized ∷ flag_word e.ptp ∷ e.scale ∷ e.multiplier ∷ error_words (error_ms e) e

-- 72 to 87: the newest estimates
abbrev pub sample_words : Sample → List ℕ
sample_words None = 0 ∷ 0 ∷ 0 ∷ 0 ∷ 0 ∷ 0 ∷ 0 ∷ 0 ∷ 0 ∷ 0 ∷ 0 ∷ 0 ∷ 0 ∷ 0 ∷ 0 ∷ 0 ∷ []
sample_words (Some p) = estimate_words p.sender ++ estimate_words p.reflector

-- 64 to 89
abbrev pub quality_words : PlainQuality → List ℕ
quality_words q =
    q.samples ∷ q.both ∷ q.unsynchronized ∷ (q.invalid_sender + q.invalid_reflector + q.invalid_both) ∷ q.unknown
    ∷ q.invalid_sender ∷ q.invalid_reflector ∷ q.invalid_both ∷ (sample_words q.last ++ float_words q.largest)

-- THE 91 WORDS of a snapshot
unfoldable pub figure_words : PlainFigures → List ℕ
figure_words f =
    replies_words f ++ ((f.unobserved ∷ number_words f.thousandths) ++ (delay_words f.round_trips ++ ((direct_words f.direct ++ (point_words f.anchor
    ++ (point_words f.latest ++ span_words f.spans))) ++ ((follow_words f.follow_ups ++ (delay_words f.delays ++ quality_words f.quality))
    ++ (f.replies.evicted-unanswered ∷ [])))))

-- the 6 words of an accept's answer: class, packet, ordinal, train
abbrev pub answer_words : Answer → List ℕ
answer_words is_unknown = 0 ∷ 0 ∷ 0 ∷ 0 ∷ 0 ∷ 0 ∷ []
answer_words is_duplicate = 1 ∷ 0 ∷ 0 ∷ 0 ∷ 0 ∷ 0 ∷ []
answer_words (is_unique p o train) = 2 ∷ p.time ∷ p.tag ∷ (number_words o ++ (train ∷ []))

-- the 6 words of a monitor's summary: state, threshold, losses in a row, notifications
abbrev pub watch_words : Watch → List ℕ
watch_words w = w.state ∷ w.threshold ∷ w.losses ∷ w.actives ∷ w.faileds ∷ w.idles ∷ []
