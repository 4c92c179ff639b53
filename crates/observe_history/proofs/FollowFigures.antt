-- The counts, the delays and the clock quality of follow-ups after one observation more. Assumes nothing.
use Rattle.std.specs.Prelude.{Some, None, Option, Ok, Err}
use mathlib.Core.Path.{◌≡◌, refl, sym, ap, ◌∙◌}
use mathlib.Core.Bool.{cond}
use mathlib.Core.List.{List, ◌∷◌}
use Prim.Native.Nat.{ℕ}
use lib.IntN.{ℤ}
use Rattle.call_types.specs.declared.FollowUpTelemetry.{FollowUpTelemetry}
use Rattle.call_types.specs.declared.ReplyObservation.{ReplyObservation}
use Rattle.call_types.specs.declared.Call.{Call}
use Rattle.call_types.specs.declared.Call.TheVariants.{Observe}
use Rattle.clock_quality.specs.Quality as quality
use Rattle.correlation.specs.declared.Slot.{Slot}
use Rattle.correlation.specs.declared.follow.Miss.TheVariants as miss
use Rattle.correlation.specs.Class.{Class, delay_of}
use Rattle.follow_ups.specs.declared.FollowUps.{FollowUps}
use Rattle.follow_ups.specs.Followed.{estimates_of, counted, delay_after, quality_after, followed}
use Rattle.history.specs.Given.{follow_of}
use Rattle.history.specs.Ledger.{Event, observed, count, events}
use Rattle.history.specs.FollowUps.{Slot as HistorySlot, FollowClass, matched, same_follow, follow_class, slot_at, class_at, Measured, measured, with_follow, with_slot, follow_counts}
use Rattle.history.specs.Figures.{delays, estimates, given, figures_of, quality_of}
use Rattle.observe_history.specs.RoundTrips.{delays_from}
use Rattle.observe_history.specs.FollowUps.{pair_of, slot_from, as_follow_counts, FiguresFollow}
use Rattle.observe_history.proofs.Delays.{one_delay_more}
use Rattle.observe_history.proofs.Quality.{one_sample_more}
use Rattle.observe_history.proofs.FollowClasses.{class_from, class_in, measured_more, class_same, measured-same, counts_by, counts_same}

-- the estimates of a record are those that its wires say
given-wires : (q : Option (ℕ × ℕ)) → estimates_of q ≡ given (pair_of q)
given-wires None = refl
given-wires (Some (s, r)) = refl

delay_more : (k : Class) (offset : ℤ) (ms : List Measured) → delay_after k offset (delays_from (figures_of (delays ms))) ≡ delays_from (figures_of (delays (measured_more k offset ms)))
unfolding delays
delay_more (Err why) offset ms = refl
delay_more (Ok m) offset ms = one_delay_more (delays ms) (delay_of m.t4 m.t3 offset)

quality_more : (k : Class) (offset : ℤ) (ms : List Measured) → quality_after k (quality_of (estimates ms)) ≡ quality_of (estimates (measured_more k offset ms))
unfolding estimates
quality_more (Err why) offset ms = refl
quality_more (Ok m) offset ms =
    ap (quality.recorded_of (quality_of (estimates ms))) (given-wires m.quality) ∙ one_sample_more (estimates ms) (given (pair_of m.quality))

module _ (N copies : ℕ) (h : List Call) (fs : FollowUps) (f : FiguresFollow N copies h fs) (o : ReplyObservation) where
  abbrev own : ℕ
  own = o.key.reflector

  abbrev es : List Event
  es = events N h

  -- an observation without a follow-up
  pub figures_without : follow_of o.follow ≡ None → FiguresFollow N copies (Observe o ∷ h) fs
  unfolding count events measured
  figures_without e = record {
    counts = f.counts ∙ rw e;
    delay = f.delay ∙ rw e;
    quality = f.quality ∙ rw e;
  }

  -- with one, of the slot that the rooms hold for its sequence
  module _ (t : FollowUpTelemetry) (is : follow_of o.follow ≡ Some t) (s : Slot) (same : slot_from s ≡ slot_at N copies es t.sequence) where
    class_is : class_from (class_in t own o.offset s) ≡ class_at N copies t own o.offset es
    class_is = class_same t own o.offset s ∙ ap (follow_class t own o.offset) same

    measured_is : measured_more (class_in t own o.offset s) o.offset (measured N copies es) ≡ measured N copies (observed o ∷ es)
    unfolding measured
    measured_is =
        sym (measured-same t own s o.offset (measured N copies es))
        ∙ ap (λ (x : HistorySlot). cond (same_follow matched (follow_class t own o.offset x)) (with_slot x t.timestamp o.offset (measured N copies es)) (measured N copies es)) same
        ∙ ap (λ (k : Option FollowUpTelemetry). with_follow N copies k o es (measured N copies es)) (sym is)

    counts_are : counts_by (class_at N copies t own o.offset es) (as_follow_counts (follow_counts N copies h)) ≡ as_follow_counts (follow_counts N copies (Observe o ∷ h))
    unfolding count
    counts_are = rw is

    pub figures_with : FiguresFollow N copies (Observe o ∷ h) (followed fs (class_in t own o.offset s) o.offset)
    unfolding followed events
    figures_with = record {
      counts =
          ap (counted (class_in t own o.offset s)) f.counts ∙ counts_same (class_in t own o.offset s) (as_follow_counts (follow_counts N copies h))
          ∙ ap (λ (x : FollowClass). counts_by x (as_follow_counts (follow_counts N copies h))) class_is ∙ counts_are;
      delay =
          ap (delay_after (class_in t own o.offset s) o.offset) f.delay ∙ delay_more (class_in t own o.offset s) o.offset (measured N copies es)
          ∙ ap (λ (ms : List Measured). delays_from (figures_of (delays ms))) measured_is;
      quality =
          ap (quality_after (class_in t own o.offset s)) f.quality ∙ quality_more (class_in t own o.offset s) o.offset (measured N copies es)
          ∙ ap (λ (ms : List Measured). quality_of (estimates ms)) measured_is;
    }
