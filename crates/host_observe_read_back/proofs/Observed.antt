-- The words that a served `observe` leaves are read back as the library's next ledger, of every reply whose counters are u32. Assumes nothing.
use Rattle.correlation.specs.Class.{Class}
use Rattle.std.specs.Prelude.{Option, Some, None, Ok, Err}
use Rattle.call_types.specs.declared.CounterPoint.{CounterPoint}
use Rattle.call_types.specs.declared.FollowUpTelemetry.{FollowUpTelemetry}
use mathlib.Core.Path.{◌≡◌, refl}
use mathlib.Core.List.{List}
use Prim.Native.Nat.{ℕ}
use lib.IntN.{ℤ}
use native.Mathlib.Omega.{arith}
use lib.ListN.{length, get_or}
use Rattle.limits.specs.Limits.{capacity}
use Rattle.call_types.specs.declared.ReplyKey.{ReplyKey}
use Rattle.call_types.specs.declared.ReplyObservation.{ReplyObservation}
use Rattle.chains.specs.declared.Ring.{Ring}
use Rattle.chains.specs.Hash.{number_hash}
use Rattle.offset_set.specs.Offsets as offset_set
use Rattle.key_ring.specs.Table.{hash_of}
use Rattle.correlation.specs.declared.follow.Miss.TheVariants as miss
use Rattle.direct.specs.declared.Direct.{Direct}
use Rattle.direct.specs.Outcomes as outcomes
use Rattle.follow_ups.specs.declared.FollowUps.{FollowUps}
use Rattle.follow_ups.specs.Followed.{quality_after, followed}
use Rattle.clock_quality.specs.declared.ClockQuality.{ClockQuality}
use Rattle.ledger_state.specs.State.{hash_words}
use Rattle.ledger_steps.specs.Observe.{direct_by, direct_in, follow_by, follow_in, class_at, holder_of, observe_in, observe_on}
use Rattle.reply_history.specs.Fits.{CountersFit}
use Rattle.host_ledger.specs.Parts.{direct_at, follow_at, FollowKept}
use Rattle.host_ledger.specs.Words.{ledger_at}
use Rattle.host_ledger.specs.Left.{observed_words}
use Rattle.host_ledger.proofs.Back.{direct-kept, follow-kept}
use Rattle.host_ledger_read_back.proofs.Observe.{DirectStays, FollowStays, observe-back}
use Rattle.host_observe_read_back.proofs.Windows.{WindowFits, window_again, window-fits, recorded-fits}
use Rattle.host_observe_read_back.proofs.Quality.{QualityFits, quality-kept, quality-fits, sample_fits}

-- ---- what the direct part and the follow-up leave is read back, or stays as it was

direct-stays :
    (N : ℕ) (by_number : ℕ → ℕ) (x : Option CounterPoint) → CountersFit x → (d : Direct) (s : offset_set.OffsetSet) (o : Option ℕ) → WindowFits d.window →
    DirectStays x d (direct_by N by_number x d s o).direct
direct-stays N by_number None f d s o h = refl
direct-stays N by_number (Some c) f d s o h =
    direct-kept _ (window_again _ (recorded-fits c f N d o (offset_set.contains N by_number s (outcomes.sought_in d.window c)) h))

class_fits : (q : ClockQuality) (c : Class) → QualityFits q → QualityFits (quality_after c q)
class_fits q (Err why) h = h
class_fits q (Ok m) h = sample_fits q m.quality h

follow-by :
    (N : ℕ) (by_key : ReplyKey → ℕ) (by_number : ℕ → ℕ) (x : Option FollowUpTelemetry) (f : FollowUps) (ring : Ring) (keys slots links : List (List ℕ)) (o : ReplyObservation) →
    QualityFits f.quality → QualityFits (follow_by N by_key by_number x f ring keys slots links o).follow.quality
unfolding followed
follow-by N by_key by_number None f ring keys slots links o h = h
follow-by N by_key by_number (Some t) f ring keys slots links o h =
    class_fits f.quality (class_at N slots (holder_of N by_key by_number ring keys slots links t.sequence) o.key.reflector o.offset t) h

-- a class that is not matched leaves delays and clock quality
class_stays : (f : FollowUps) (c : Class) (offset : ℤ) → (followed f c offset).counts.matched ≡ f.counts.matched → FollowStays f (followed f c offset)
unfolding followed
class_stays f (Err miss.Unavailable) offset e = record { delay_stays = refl; quality_stays = refl }
class_stays f (Err miss.Ambiguous) offset e = record { delay_stays = refl; quality_stays = refl }
class_stays f (Err miss.Unmatched) offset e = record { delay_stays = refl; quality_stays = refl }
class_stays f (Err miss.Repeated) offset e = record { delay_stays = refl; quality_stays = refl }
class_stays f (Ok m) offset e = absurd (omega (arith, e))

follow-stays :
    (N : ℕ) (by_key : ReplyKey → ℕ) (by_number : ℕ → ℕ) (x : Option FollowUpTelemetry) (f : FollowUps) (ring : Ring) (keys slots links : List (List ℕ)) (o : ReplyObservation) →
    (follow_by N by_key by_number x f ring keys slots links o).follow.counts.matched ≡ f.counts.matched → FollowStays f (follow_by N by_key by_number x f ring keys slots links o).follow
follow-stays N by_key by_number None f ring keys slots links o e = record { delay_stays = refl; quality_stays = refl }
follow-stays N by_key by_number (Some t) f ring keys slots links o e =
    class_stays f (class_at N slots (holder_of N by_key by_number ring keys slots links t.sequence) o.key.reflector o.offset t) o.offset e

-- ---- the whole

module _ (w : List ℕ) (keys slots : List (List ℕ)) (offsets : List ℕ) (links : List (List ℕ)) (o : ReplyObservation) where
  abbrev by_key : ReplyKey → ℕ
  by_key = hash_of (hash_words (ledger_at w))

  abbrev by_number : ℕ → ℕ
  by_number = number_hash (hash_words (ledger_at w))

  observed-direct_stays : CountersFit o.counters → DirectStays o.counters (ledger_at w).counts.direct (observe_on (ledger_at w) keys slots offsets links o).ledger.counts.direct
  unfolding observe_in direct_in ledger_at direct_at
  observed-direct_stays f =
      let d = (ledger_at w).counts.direct in
      direct-stays capacity by_number o.counters f d (offset_set.offset_set offsets links (outcomes.seen_in d.window)) o.ordinal (window-fits 38 w)

  observed-follow-stays :
      (observe_on (ledger_at w) keys slots offsets links o).ledger.counts.follow.counts.matched ≡ get_or w 45 0 →
      FollowStays (ledger_at w).counts.follow (observe_on (ledger_at w) keys slots offsets links o).ledger.counts.follow
  unfolding observe_in follow_in ledger_at follow_at
  observed-follow-stays = follow-stays capacity by_key by_number o.follow (ledger_at w).counts.follow (ledger_at w).tables.keys keys slots _ o

  pub observed-follow-kept : FollowKept (observe_on (ledger_at w) keys slots offsets links o).ledger.counts.follow
  unfolding observe_in follow_in ledger_at follow_at
  observed-follow-kept =
      follow-kept _
      (quality-kept _
      (follow-by capacity by_key by_number o.follow (ledger_at w).counts.follow (ledger_at w).tables.keys keys slots _ o (quality-fits 58 w)))

  -- only the words that `observe` changes are stored, and all of them say its next ledger
  pub observed-back :
      length w ≡ 80 → CountersFit o.counters →
      ledger_at (observed_words o.counters w (observe_on (ledger_at w) keys slots offsets links o).ledger) ≡ (observe_on (ledger_at w) keys slots offsets links o).ledger
  unfolding observe_in
  observed-back long f = observe-back w long o.counters o.rtt _ _ (observed-direct_stays f) observed-follow-stays observed-follow-kept
