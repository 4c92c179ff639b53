-- What a call may rely on once it is not refused: one record a call, which the functions behind it require. proofs/Sound.antt has the laws.
-- Assumes nothing.
use Rattle.std.specs.Prelude.{◌≡◌, true, List, ℕ, ◌<◌, ◌≤◌, length}
use Rattle.limits.specs.Limits.{capacity, most_calls}
use Rattle.call_types.specs.declared.ReplyObservation.{ReplyObservation}
use Rattle.chains.specs.Rings.{RingFits}
use Rattle.ranges.specs.Ranges.{in_range}
use Rattle.replies.specs.Bounds as replies
use Rattle.delays.specs.Bounds as delays
use Rattle.direct.specs.Outcomes as direct
use Rattle.follow_ups.specs.Bounds as follow_ups
use Rattle.ledger_state.specs.declared.Ledger.{Ledger}
use Rattle.ledger_steps.specs.Refusals.{awaits_key}

-- refusal 5, the part of the state
pub record SoundRings (l : Ledger) : Type 0 where
  pub keys_ring : RingFits capacity l.tables.keys
  pub probes_ring : RingFits capacity l.tables.probes
  pub seen_in : direct.seen_in l.counts.direct.window ≤ capacity

-- refusal 4
pub record SoundCounts (l : Ledger) : Type 0 where
  pub calls-below : l.calls < most_calls
  pub replies_in : replies.InBounds l.counts.replies
  pub rtt_in : delays.Bounded l.counts.rtt
  pub direct_in : direct.InBounds l.counts.direct.counts
  pub follow_in : follow_ups.InBounds l.counts.follow

-- `sent`, neither 5 nor 4: its two rooms have 4,096 entries, rings and counts are within bounds
pub record SoundSent (l : Ledger) (probes links : ℕ) : Type 0 where
  pub probes_size : probes ≡ capacity
  pub links_size : links ≡ capacity
  pub rings : SoundRings l
  pub counts : SoundCounts l

-- `accept`, neither 5 nor 4: the same with its four rooms
pub record SoundAccept (l : Ledger) (keys slots probes links : ℕ) : Type 0 where
  pub keys_size : keys ≡ capacity
  pub slots_size : slots ≡ capacity
  pub probes_size : probes ≡ capacity
  pub links_size : links ≡ capacity
  pub rings : SoundRings l
  pub counts : SoundCounts l

-- `observe`, none of 5, 1, 4 and 2: the same with its four rooms, what it is told is in range, its key awaits
pub record SoundObserve (l : Ledger) (keys : List (List ℕ)) (slots offsets links : ℕ) (o : ReplyObservation) : Type 0 where
  pub keys_size : length keys ≡ capacity
  pub slots_size : slots ≡ capacity
  pub offsets_size : offsets ≡ capacity
  pub links_size : links ≡ capacity
  pub rings : SoundRings l
  pub ranged : in_range o ≡ true
  pub counts : SoundCounts l
  pub awaiting : awaits_key l keys o.key ≡ true

-- `answered`, not 5: its two rooms and the rings; it only reads, so that no count is tested
pub record SoundAnswered (l : Ledger) (probes links : ℕ) : Type 0 where
  pub probes_size : probes ≡ capacity
  pub links_size : links ≡ capacity
  pub rings : SoundRings l
