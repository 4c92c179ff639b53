-- The words that a served `observe` leaves are read back as the library's next ledger: what it stores is read back from its own words, which
-- the functions of `host_ledger_parts` promise of every value that they store, and what it does not store has not changed.
-- Assumes nothing.
use Rattle.std.specs.Prelude.{Option, Some, None}
use Rattle.call_types.specs.declared.CounterPoint.{CounterPoint}
use Rattle.direct.specs.declared.Epoch.{Epoch}
use mathlib.Core.Path.{◌≡◌, refl, sym, ap, ◌∙◌}
use mathlib.Core.Bool.{Bool, true, false, cond}
use mathlib.Core.List.{List}
use Prim.Native.Nat.{ℕ, ◌+◌}
use lib.Dec.{eqb}
use lib.IntN.{pos}
use lib.ListN.{length, get_or, set}
use lib.Seq.{sets}
use borrow.Author.Tests.{eqb-true}
use Rattle.host_numbers.specs.Numbers.{flag_word}
use Rattle.delays.specs.declared.Delays.{Delays}
use Rattle.delays.specs.Delays as delays
use Rattle.delays.specs.Sums.{nanoseconds_of}
use Rattle.direct.specs.declared.Counts.{Counts}
use Rattle.direct.specs.declared.Direct.{Direct}
use Rattle.follow_ups.specs.declared.FollowUps.{FollowUps}
use Rattle.ledger_state.specs.declared.Ledger.{Ledger}
use Rattle.ledger_steps.specs.Observe.{ledger_observed}
use Rattle.host_quality.specs.Words.{quality_at, quality_words}
use Rattle.host_ledger.specs.Parts.{secret_at, replies_at, delays_of, delays_at, delays_words, epoch_words, window_at, direct_at, direct_words, DirectKept, follow_at, follow_counts_words, follow_words, FollowKept}
use Rattle.host_ledger.specs.Words.{tables_at, ledger_at}
use Rattle.host_ledger.specs.Left.{direct_stored, observed_words}
use Rattle.host_ledger.proofs.Back.{delays_again}
use Rattle.host_ledger_read_back.proofs.Spelled.{entries, spelled}

-- the ledger after an observe, with what is read of the three parts that it stores
abbrev observed : Ledger → Delays → Direct → FollowUps → Ledger
observed l rtt d f = record {
  copies = l.copies;
  secret = l.secret;
  calls = l.calls + 1;
  tables = record { keys = l.tables.keys; probes = l.tables.probes; awaits = false };
  counts = record { replies = l.counts.replies; rtt = rtt; direct = d; follow = f };
}

abbrev direct : Counts → Option Epoch → Direct
direct c x = record { counts = c; window = x }

-- what is stored, where b says that no follow-up matched
abbrev stored_if : Bool → Option CounterPoint → List ℕ → Ledger → List ℕ
stored_if b told w l =
    let v = direct_stored told (sets (set (set w 5 l.calls) 10 (flag_word l.tables.awaits)) 25 (delays_words l.counts.rtt)) l.counts.direct in
    cond b (sets v 44 (follow_counts_words l.counts.follow.counts)) (sets v 44 (follow_words l.counts.follow))

-- what is then read: direct loss as before where no counters were told, delays and clock quality as before where none matched
abbrev direct_read : Option CounterPoint → List ℕ → Direct → Direct
direct_read None w d = (ledger_at w).counts.direct
direct_read (Some p) w d = direct_at 0 (direct_words d)

abbrev follow_read : Bool → List ℕ → FollowUps → FollowUps
follow_read true w f = record { counts = f.counts; delay = (ledger_at w).counts.follow.delay; quality = (ledger_at w).counts.follow.quality }
follow_read false w f = follow_at 0 (follow_words f)

module _ (w : List ℕ) (rtt : Delays) (c : Counts) (f : FollowUps) where
  abbrev spelt : List ℕ
  spelt = entries 80 (λ i. get_or w i 0)

  abbrev next : Option Epoch → Ledger
  next x = observed (ledger_at w) rtt (direct c x) f

  tested : (told : Option CounterPoint) (x : Option Epoch) → observed_words told spelt (next x) ≡ stored_if (eqb f.counts.matched (get_or w 45 0)) told spelt (next x)
  unfolding observed_words delays_words epoch_words direct_words
  tested None x = refl
  tested (Some p) None = refl
  tested (Some p) (Some e) = refl

  reads : (b : Bool) (told : Option CounterPoint) (x : Option Epoch) → ledger_at (stored_if b told spelt (next x)) ≡ observed (ledger_at w) (delays_at 0 (delays_words rtt)) (direct_read told w (direct c x)) (follow_read b w f)
  unfolding ledger_at tables_at secret_at replies_at delays_of delays_words epoch_words window_at direct_at direct_words follow_at follow_words quality_at quality_words
  reads true None x = refl
  reads false None x = refl
  reads true (Some p) None = refl
  reads true (Some p) (Some e) = refl
  reads false (Some p) None = refl
  reads false (Some p) (Some e) = refl

-- what is not told stays as it was
abbrev pub DirectStays : Option CounterPoint → Direct → Direct → Type 0
DirectStays None before d = d ≡ before
DirectStays (Some p) before d = DirectKept d

-- where none matched, delays and clock quality stay as they were
pub record FollowStays (before f : FollowUps) : Type 0 where
  pub delay_stays : f.delay ≡ before.delay
  pub quality_stays : f.quality ≡ before.quality

module _ (w : List ℕ) (f : FollowUps) where
  abbrev before : FollowUps
  before = (ledger_at w).counts.follow

  direct_again : (told : Option CounterPoint) (d : Direct) → DirectStays told (ledger_at w).counts.direct d → direct_read told w d ≡ d
  direct_again None d e = sym e
  direct_again (Some p) d e = e

  follow_again : (b : Bool) → (b ≡ true → FollowStays before f) → FollowKept f → follow_read b w f ≡ f
  follow_again true stays kept = λ i. record { counts = f.counts; delay = sym (stays refl).delay_stays i; quality = sym (stays refl).quality_stays i }
  follow_again false stays kept = kept

pub observe-back : (w : List ℕ) → length w ≡ 80 → (told : Option CounterPoint) (rtt : ℕ) (d : Direct) (f : FollowUps)
    → DirectStays told (ledger_at w).counts.direct d → (f.counts.matched ≡ get_or w 45 0 → FollowStays (ledger_at w).counts.follow f) → FollowKept f
    → ledger_at (observed_words told w (ledger_observed (ledger_at w) rtt d f)) ≡ ledger_observed (ledger_at w) rtt d f
observe-back w long told rtt d f stays follow-stays kept =
    let delay = delays.recorded_of (ledger_at w).counts.rtt (nanoseconds_of (pos rtt)) in
    let b = eqb f.counts.matched (get_or w 45 0) in
    let same : follow_read b w f ≡ f = follow_again w f b (λ t. follow-stays (eqb-true f.counts.matched (get_or w 45 0) t)) kept in
    ap (λ (v : List ℕ). ledger_at (observed_words told v (ledger_observed (ledger_at w) rtt d f))) (spelled w 80 long)
    ∙ ap ledger_at (tested w delay d.counts f told d.window)
    ∙ reads w delay d.counts f b told d.window
    ∙ (λ i. observed (ledger_at w) (delays_again delay i) (direct_again w f told d stays i) (same i))
