-- A snapshot as the 91 words that a host is shown. A flag is 0 or 1; a value that is absent is a flag 0 and zeros; an f64 is its bits
-- (`to_bits` is the logic's own). Assumes nothing.
use Rattle.std.specs.Float.Ieee.{Float}
use Rattle.call_types.specs.declared.CounterPoint.{CounterPoint}
use Rattle.clock_quality.specs.declared.ClockEstimate.{ClockEstimate}
use Rattle.std.specs.Prelude.{Bool, List, [], ◌∷◌, ◌++◌, ℕ, Option, Some, None}
use Rattle.std.specs.Float.{binary64}
use Rattle.std.specs.Float.Ieee.{to_bits}
use Rattle.host_numbers.specs.Numbers.{flag_word}
use Rattle.host_quality.specs.Words.{largest_word, largest_bits}
use Rattle.estimate.specs.declared.Reading.{Reading}
use Rattle.estimate.specs.declared.Reading.TheVariants as error
use Rattle.estimate.specs.Make.{is_ptp}
use Rattle.delays.specs.declared.DelaySummary.{DelaySummary}
use Rattle.clock_quality.specs.declared.ClockQuality.{ClockQuality}
use Rattle.replies.specs.declared.Replies.{Replies}
use Rattle.direct.specs.declared.Counts.{Counts}
use Rattle.direct.specs.declared.summary.Spans.{Spans}
use Rattle.direct.specs.declared.summary.DirectSummary.{DirectSummary}
use Rattle.follow_ups.specs.declared.FollowCounts.{FollowCounts}
use Rattle.follow_ups.specs.declared.summary.FollowUpSummary.{FollowUpSummary}
use Rattle.thousandths.specs.Thousandths.{known_of, value_of}
use Rattle.ledger_snapshot.specs.declared.Snapshot.{Snapshot}

-- ---- values that may be absent: whether they are known, and the value

-- whether there is a last or highest reflector number: 1 or 0
abbrev pub reflector_known : Option ℕ → ℕ
reflector_known None = 0
reflector_known (Some n) = 1

-- that number, 0 if absent
abbrev pub reflector_number : Option ℕ → ℕ
reflector_number None = 0
reflector_number (Some n) = n

-- whether a number of packets is shown: 1 or 0
abbrev pub packets_known : Option ℕ → ℕ
packets_known None = 0
packets_known (Some n) = 1

-- that number, 0 if absent
abbrev pub packets_number : Option ℕ → ℕ
packets_number None = 0
packets_number (Some n) = n

-- whether there is a delay in ms: 1 or 0
abbrev pub ms_known : Option Float → ℕ
ms_known None = 0
ms_known (Some x) = 1

-- the bits of its f64, 0 if absent
abbrev pub ms_bits : Option Float → ℕ
ms_bits None = 0
ms_bits (Some x) = to_bits binary64 x

-- whether the error of an estimate is known: 1, or 0 where it is invalid
abbrev pub error_known : Reading → ℕ
error_known (error.Invalid wire) = 0
error_known (error.Known x) = 1

-- the bits of its f64 in ms, 0 where it is invalid
abbrev pub shown_error : Reading → ℕ
shown_error (error.Invalid wire) = 0
shown_error (error.Known x) = to_bits binary64 x

-- the 16 bits as received where it is invalid, and 0 where it is known
abbrev pub received_bits : Reading → ℕ
received_bits (error.Invalid wire) = wire
received_bits (error.Known x) = 0

-- S_TxC, R_RxC, R_TxC
unfoldable pub point_words : Option CounterPoint → List ℕ
point_words None = 0 ∷ 0 ∷ 0 ∷ 0 ∷ []
point_words (Some p) = 1 ∷ p.sender.0 ∷ p.received.0 ∷ p.transmitted.0 ∷ []

-- synchronized, PTP, scale, multiplier, and the error in ms where it is known, or else the 16 bits as received
unfoldable pub estimate_words : Option ClockEstimate → List ℕ
estimate_words None = 0 ∷ 0 ∷ 0 ∷ 0 ∷ 0 ∷ 0 ∷ 0 ∷ 0 ∷ []
estimate_words (Some e) =
    1 ∷ flag_word e.synchronized ∷ flag_word (is_ptp e.format) ∷ e.scale ∷ e.multiplier ∷ error_known e.error ∷ shown_error e.error ∷ received_bits e.error ∷ []

-- ---- words 0 to 15

-- totals, answers, last and highest reflector, reordered, independent, evicted probes and accepted keys
abbrev pub replies_words : Replies → List ℕ
replies_words r =
    r.totals.requested ∷ r.totals.unique ∷ r.totals.duplicate ∷ r.totals.unknown
    ∷ r.answers.answered ∷ r.answers.additional ∷ r.answers.late ∷ r.answers.satisfied
    ∷ reflector_known r.numbers.last ∷ reflector_number r.numbers.last
    ∷ reflector_known r.numbers.highest ∷ reflector_number r.numbers.highest
    ∷ r.numbers.reordered ∷ r.numbers.independent ∷ r.evicted.probes ∷ r.evicted.replies ∷ []

-- ---- words 16 to 18

-- unobserved; whether there are thousandths, and these
abbrev pub loss_words : Snapshot → List ℕ
loss_words s = s.unobserved ∷ known_of s.thousandths ∷ value_of s.thousandths ∷ []

-- ---- words 19 to 25, and 57 to 63

-- the samples; then minimum, average and maximum in ms, each as a flag and its bits
abbrev pub delay_words : DelaySummary → List ℕ
delay_words d =
    d.samples ∷ ms_known d.min ∷ ms_bits d.min ∷ ms_known d.average ∷ ms_bits d.average ∷ ms_known d.max ∷ ms_bits d.max ∷ []

-- ---- words 26 to 50

-- observations, unavailable, discontinuities, reordered, and whether the history was exceeded
abbrev pub direct_count_words : Counts → List ℕ
direct_count_words c = c.observations ∷ c.unavailable ∷ c.discontinuities ∷ c.reordered ∷ flag_word c.exceeded ∷ []

-- sender and received maximum, forward missing, highest offset, seen offsets above 0, reverse missing
abbrev pub span_words : Spans → List ℕ
span_words s =
    packets_known s.sent ∷ packets_number s.sent ∷ packets_known s.received ∷ packets_number s.received
    ∷ packets_known s.forward ∷ packets_number s.forward ∷ packets_known s.transmitted ∷ packets_number s.transmitted
    ∷ packets_known s.replies ∷ packets_number s.replies ∷ packets_known s.reverse ∷ packets_number s.reverse ∷ []

-- the counts, the anchor, the point of the highest transmit offset, and the spans since the anchor
unfoldable pub direct_words : DirectSummary → List ℕ
direct_words d = direct_count_words d.counts ++ (point_words d.anchor ++ (point_words d.latest ++ span_words d.spans))

-- ---- words 51 to 56

-- observations; then each class: matched, repeated, unmatched, ambiguous, unavailable
abbrev pub follow_count_words : FollowCounts → List ℕ
follow_count_words c = c.observations ∷ c.matched ∷ c.repeated ∷ c.unmatched ∷ c.ambiguous ∷ c.unavailable ∷ []

-- ---- words 64 to 89

-- samples; then each class: both clocks synchronized, not both, an error invalid, no estimates; and of the invalid ones those at the sender alone,
-- at the reflector alone, at both
abbrev pub quality_count_words : ClockQuality → List ℕ
quality_count_words q = q.samples ∷ q.both ∷ q.unsynchronized ∷ q.invalid ∷ q.unknown ∷ q.invalid_sender ∷ q.invalid_reflector ∷ q.invalid_both ∷ []

-- the largest combined error in ms: a flag and its bits
abbrev pub largest_words : Option Float → List ℕ
largest_words x = largest_word x ∷ largest_bits x ∷ []

-- the counts, the last estimate of the sender and of the reflector, the largest combined error
unfoldable pub quality_words : ClockQuality → List ℕ
quality_words q = quality_count_words q ++ (estimate_words q.sender ++ (estimate_words q.reflector ++ largest_words q.largest))

-- ---- words 51 to 89

-- the counts of the classes, the delay of the matched ones, the clock quality
unfoldable pub follow_words : FollowUpSummary → List ℕ
follow_words f = follow_count_words f.counts ++ (delay_words f.delay ++ quality_words f.quality)

-- ---- word 90

-- the probes evicted unanswered
abbrev pub evicted_words : Replies → List ℕ
evicted_words r = r.evicted.unanswered ∷ []

-- ---- the whole

-- replies, loss, round trip, direct counters, follow-ups, the probes evicted unanswered: 91 words
unfoldable pub shown_words : Snapshot → List ℕ
shown_words s =
    replies_words s.replies ++ (loss_words s ++ (delay_words s.rtt ++ (direct_words s.direct ++ (follow_words s.follow ++ evicted_words s.replies))))
