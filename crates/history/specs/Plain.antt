-- ONE PLAIN RECORD of all that a ledger shows: numbers and options, from its served calls, newest first. N is how many keys, probes and offsets are held.
use Rattle.std.specs.Prelude.{Bool, not, ◌&&◌, List, map, ℕ, eqb, ltb, Option}
use Rattle.call_types.specs.declared.CounterPoint.{CounterPoint}
use Rattle.call_types.specs.declared.Reply.{Reply}
use Rattle.call_types.specs.declared.Call.{Call}
use Rattle.history.specs.Counting.{has}
use Rattle.history.specs.Given.{packet_of}
use Rattle.history.specs.Ledger.{ReplyCounts, reply_counts, accepted, events, held, replies, last_reflector, highest_reflector, unobserved, thousandths, Answer, answer}
use Rattle.history.specs.DirectLoss.{DirectCounts, direct_counts, Spans, spans, window, anchor, latest_transmit}
use Rattle.history.specs.FollowUps.{Measured, measured, FollowCounts, follow_counts}
use Rattle.history.specs.Figures.{Figures, round_trip_figures, delay_figures}
use Rattle.history.specs.Quality.{Sample, PlainQuality, plain_quality}

-- every figure of a ledger
pub record PlainFigures : Type 0 where
  pub replies : ReplyCounts
  pub last_reflector : Option ℕ
  pub highest_reflector : Option ℕ
  pub unobserved : ℕ
  pub thousandths : Option ℕ
  pub round_trips : Figures
  pub direct : DirectCounts
  pub anchor : Option CounterPoint
  pub latest : Option CounterPoint
  pub spans : Option Spans
  pub follow_ups : FollowCounts
  pub delays : Figures
  pub quality : PlainQuality

module _ (N : ℕ) where
  -- the estimates of the matched follow-ups, newest first
  abbrev pub samples : (copies : ℕ) → List Call → List Sample
  samples copies h = map (λ (m : Measured). m.quality) (measured N copies (events N h))

  -- the figures, from the served calls
  abbrev pub plain_figures : (copies : ℕ) → List Call → PlainFigures
  plain_figures copies h =
      let c = reply_counts N copies h in
      let w = window N (events N h) in
      record {
        replies = c;
        last_reflector = last_reflector (accepted (events N h));
        highest_reflector = highest_reflector (accepted (events N h));
        unobserved = unobserved c.requested c.satisfied;
        thousandths = thousandths c.requested (unobserved c.requested c.satisfied);
        round_trips = round_trip_figures N h;
        direct = direct_counts N h;
        anchor = anchor w;
        latest = latest_transmit w;
        spans = spans w;
        follow_ups = follow_counts N copies h;
        delays = delay_figures N copies h;
        quality = plain_quality (samples copies h);
      }

  -- `needs_burst_wait`: more than one copy, and some request is not satisfied
  abbrev pub waits : (copies : ℕ) → List Call → Bool
  waits copies h = ltb 1 copies && ltb (reply_counts N copies h).satisfied (reply_counts N copies h).requested

  -- `answered`: the probe is held, and has a reply since it was remembered
  abbrev pub has_reply : List Call → (sequence : ℕ) → Bool
  has_reply h q = has (held N (events N h)) q && not (eqb (replies q (events N h)) 0)

  -- `accept`: the answer to a reply
  abbrev pub answer_to : List Call → Reply → Answer
  answer_to h a = answer N (events N h) a.key (packet_of a.pending)
