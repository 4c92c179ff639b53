-- `observe` of a host is the library's on the link that the words say, with a monitor and without.
-- Assumes nothing.
use Rattle.std.specs.Prelude.{Option, Some, None, Result}
use Rattle.call_types.specs.declared.CounterPoint.{CounterPoint}
use mathlib.Core.Path.{◌≡◌, refl, ◌∙◌}
use mathlib.Core.Bool.{Bool, true, false, cond}
use mathlib.Core.List.{List}
use Prim.Native.Nat.{ℕ, zero, suc, ◌<◌, ◌^◌}
use lib.Dec.{eqb}
use lib.ListN.{length, set, get_or, length-set}
use lib.Seq.{sets, length-sets}
use Rattle.call_types.specs.declared.ReplyObservation.{ReplyObservation}
use Rattle.direct.specs.declared.Direct.{Direct}
use Rattle.follow_ups.specs.declared.FollowUps.{FollowUps}
use Rattle.probe_queue.specs.declared.QueuedProbe.{QueuedProbe}
use Rattle.reply_history.specs.Fits.{CountersFit}
use Rattle.ledger_state.specs.declared.Ledger.{Ledger}
use Rattle.ledger_steps.specs.Rooms.{Rooms}
use Rattle.ledger_steps.specs.Refusals.{refusal_of_observe}
use Rattle.ledger_steps.specs.Observe.{observe_on}
use Rattle.ledger_steps.specs.Calls.{observe_by, observe_to}
use Rattle.link_steps.specs.Steps.{ledger_of, standing, refuses, after}
use Rattle.record_parts.specs.Parts.{flag, counters_by}
use Rattle.host_numbers.specs.Numbers.{flag_word}
use Rattle.host_observation.specs.Observation.{flags_at, observation_at}
use Rattle.host_ledger.specs.Parts.{delays_words, direct_words, follow_counts_words, follow_words}
use Rattle.host_ledger.specs.Words.{ledger_at}
use Rattle.host_ledger.specs.Left.{direct_stored, observed_words}
use Rattle.host_observe_read_back.proofs.Observed.{observed-back}
use Rattle.host_observe_words.specs.Observe.{ledger_after, observe_leaves}
use Rattle.host_link_history.specs.Hosted.{HostWatch, watch_said, host_link, observe, observe_rooms, play_host}
use Rattle.host_link_history.proofs.Agreeing.{Agrees}

-- the words that `observe` leaves are as many as before
long-direct : (told : Option CounterPoint) (w : List ℕ) (d : Direct) → length (direct_stored told w d) ≡ length w
long-direct None w d = refl
long-direct (Some c) w d = length-sets w 33 (direct_words d)

long-follow : (b : Bool) (w : List ℕ) (f : FollowUps) → length (cond b (sets w 44 (follow_counts_words f.counts)) (sets w 44 (follow_words f))) ≡ length w
long-follow true w f = length-sets w 44 (follow_counts_words f.counts)
long-follow false w f = length-sets w 44 (follow_words f)

long_after : (told : Option CounterPoint) (w : List ℕ) (next : Ledger) → length (observed_words told w next) ≡ length w
unfolding observed_words
long_after told w next =
    let first = set w 5 next.calls in
    let second = set first 10 (flag_word next.tables.awaits) in
    let third = sets second 25 (delays_words next.counts.rtt) in
    let fourth = direct_stored told third next.counts.direct in
    long-follow (eqb next.counts.follow.counts.matched (get_or fourth 45 0)) fourth next.counts.follow ∙ long-direct told third next.counts.direct
    ∙ length-sets second 25 (delays_words next.counts.rtt) ∙ length-set first 10 (flag_word next.tables.awaits) ∙ length-set w 5 next.calls

-- counters that are read from words of 32 bits
counters-by : (b : Bool) (sender received transmitted : ℕ) → sender < 2 ^ 32 → received < 2 ^ 32 → transmitted < 2 ^ 32 → CountersFit (counters_by b sender received transmitted)
counters-by true sender received transmitted p q r = record { sender_in = p; received_in = q; transmitted_in = r }
counters-by false sender received transmitted p q r = tt

counters_of : (words : List ℕ) → ((i : ℕ) → get_or words i 0 < 2 ^ 32) → CountersFit (observation_at words).counters
unfolding observation_at
counters_of words h = counters-by (flag 4 (flags_at words)) (get_or words 15 0) (get_or words 16 0) (get_or words 17 0) (h 15) (h 16) (h 17)

module _ (w : List ℕ) (long : length w ≡ 80) (keys slots : List (List ℕ)) (offsets : List ℕ) (links : List (List ℕ)) (o : ReplyObservation) (f : CountersFit o.counters) where
  abbrev answer_by : ℕ → Result Ledger ℕ
  answer_by k = (observe_by k (observe_on (ledger_at w) keys slots offsets links o) slots offsets links).answer

  ledger_by : (k : ℕ) → ledger_at (ledger_after (answer_by k) o.counters w) ≡ ledger_of (ledger_at w) (answer_by k)
  ledger_by zero = observed-back w keys slots offsets links o long f
  ledger_by (suc k) = refl

  long-by : (k : ℕ) → length (ledger_after (answer_by k) o.counters w) ≡ 80
  long-by zero = long_after o.counters w (observe_on (ledger_at w) keys slots offsets links o).ledger ∙ long
  long-by (suc k) = long

pub observe_agrees : (ledger : List ℕ) → length ledger ≡ 80 → (v : HostWatch) (rooms : Rooms) (queue : List QueuedProbe) (words : List ℕ) → ((i : ℕ) → get_or words i 0 < 2 ^ 32)
    → Agrees (host_link ledger v rooms queue) (observe words)
unfolding play_host observe_leaves observe_to refuses after
observe_agrees ledger long v rooms queue words h =
    let o = observation_at words in
    let f = counters_of words h in
    let k = refusal_of_observe (ledger_at ledger) rooms.keys (length rooms.slots) (length rooms.offsets) (length rooms.links) o in
    let r = observe_by k (observe_on (ledger_at ledger) rooms.keys rooms.slots rooms.offsets rooms.links o) rooms.slots rooms.offsets rooms.links in (
      refl,
      (λ i. standing (ledger_by ledger long rooms.keys rooms.slots rooms.offsets rooms.links o f k i) (observe_rooms rooms r.slots r.offsets r.links) (record { watch = watch_said v; queue = queue })),
      long-by ledger long rooms.keys rooms.slots rooms.offsets rooms.links o f k,
    )
