-- The two premises of `any_calls-show` about a call's numbers, as the words take them and as the library's call does, follow from their types in C.
-- Assumes nothing.
use mathlib.Core.Bool.{Bool, true, false}
use mathlib.Core.List.{List, [], ◌∷◌, map}
use Prim.Native.Nat.{ℕ, ◌+◌, ◌/◌, ◌%◌, ◌^◌, ◌<◌}
use native.Mathlib.Omega.{arith}
use lib.ListN.{get_or}
use Rattle.estimate.specs.Wire.{estimate_of}
use Rattle.record_parts.specs.Parts.{flag, ordinal_by, counters_by, follow_by, estimates_by}
use Rattle.reply_history.specs.Fits.{OrdinalFits, CountersFit, FollowFits, ObserveFits}
use Rattle.observe_history.specs.FollowUps.{QualityFits}
use Rattle.history.specs.Ledger.{copies_of}
use Rattle.link_history.specs.Fresh.{Making, MakingFits, fresh_link, Fits}
use Rattle.link_mixed_history.specs.Mixed.{ledger_served, monitor_served}
use Rattle.link_mixed_history.specs.Shows.{MixedShows, MixedFits, AllMixedFit}
use Rattle.monitor_model.specs.Playing as monitor
use Rattle.host_numbers.proofs.Back.{joined-below}
use Rattle.host_observation.specs.Observation.{word, double, flags_at, observation_at}
use Rattle.host_link_history.specs.Hosted.{HostCall, sent, accept, observe, advance, idle, said, told, Typed, host_fresh, HostFits}
use Rattle.host_monitor_model.specs.Hosted as host_monitor
use Rattle.host_mixed_history.specs.Hosted.{MixedHostCall, watched, plain, alone, mixed_told, host_mixed_played, MixedTyped, AllMixedTyped}
use Rattle.host_mixed_history.proofs.Shows.{any_calls-show}
use Rattle.host_typed_history.specs.Numbers.{NumbersFit, MonitorNumbersFit, AnyNumbersFit, AllNumbersFit}

-- ---- what an observation's words say fits

ordinal-fits : (there : Bool) (n : ℕ) → n < 2 ^ 32 → OrdinalFits (ordinal_by there n)
ordinal-fits true n h = h
ordinal-fits false n h = tt

counters_fit : (there : Bool) (s r t : ℕ) → s < 2 ^ 32 → r < 2 ^ 32 → t < 2 ^ 32 → CountersFit (counters_by there s r t)
counters_fit true s r t hs hr ht = record { sender_in = hs; received_in = hr; transmitted_in = ht }
counters_fit false s r t hs hr ht = tt

follow-fits : (there unknown : Bool) (s t : ℕ) → s < 2 ^ 32 → t < 2 ^ 64 → FollowFits (follow_by there s t unknown)
follow-fits true unknown s t hs ht = record { sequence_in = hs; timestamp_in = ht }
follow-fits false unknown s t hs ht = tt

estimates_fit : (there : Bool) (s r : ℕ) → QualityFits (estimates_by there s r)
estimates_fit true s r = (eight s, eight r)
  where
    eight : (n : ℕ) → n % 256 < 256
    eight n = omega arith
estimates_fit false s r = tt

module _ (ws : List ℕ) (h : (i : ℕ) → word ws i < 2 ^ 32) where
  double-fits : (i : ℕ) → double ws i < 2 ^ 64
  double-fits i = joined-below (word ws i) (word ws (i + 1)) (h i) (h (i + 1))

  observe-fits : ObserveFits (observation_at ws) × QualityFits (observation_at ws).quality
  unfolding observation_at
  observe-fits = (
    record {
      key_fits = record { sender_in = h 12; reflector_in = h 13; t3_in = double-fits 0 };
      rtt_in = double-fits 2;
      ordinal-fits = ordinal-fits (flag 2 (flags_at ws)) (word ws 14) (h 14);
      counters_fit = counters_fit (flag 4 (flags_at ws)) (word ws 15) (word ws 16) (word ws 17) (h 15) (h 16) (h 17);
      follow-fits = follow-fits (flag 8 (flags_at ws)) (flag 128 (flags_at ws)) (word ws 18) (double ws 10) (h 18) (double-fits 10);
    },
    estimates_fit (flag 32 (flags_at ws)) (word ws 20 % 65536) (word ws 20 / 65536),
  )

-- ---- a call

pub call_fits : (c : HostCall) → NumbersFit c → Typed c × Fits (told c)
call_fits (sent sequence ordinal train time tag) h = (h.0, (record { sequence_in = h.0; ordinal_in = h.1; train_in = h.2 }, tt))
call_fits (accept sender reflector t3 pending time tag) h = (h.1, (record { sender_in = h.0; reflector_in = h.1; t3_in = h.2 }, tt))
call_fits (observe words) h = (h, observe-fits words h)
call_fits (advance time) h = (tt, (h, tt))
call_fits idle h = (tt, (tt, tt))

monitor_fits : (c : monitor.Call) → MonitorNumbersFit c → host_monitor.Typed c
monitor_fits (monitor.sending sequence time) h = h.0
monitor_fits (monitor.replying sequence) h = tt
monitor_fits (monitor.advancing time) h = tt
monitor_fits monitor.idling h = tt

pub mixed-fits : (c : MixedHostCall) → AnyNumbersFit c → MixedTyped c × MixedFits (mixed_told c)
mixed-fits (watched c) h = call_fits c h
mixed-fits (plain c) h = call_fits c h
mixed-fits (alone c) h = (monitor_fits c h, tt)

pub all_fit : (cs : List MixedHostCall) → AllNumbersFit cs → AllMixedTyped cs × AllMixedFit (map mixed_told cs)
unfolding AllNumbersFit AllMixedTyped AllMixedFit
all_fit [] h = (tt, tt)
all_fit (c ∷ cs) h =
    let one = mixed-fits c h.0 in
    let rest = all_fit cs h.1 in
    ((one.0, rest.0), (one.1, rest.1))

-- THE THEOREM of any calls, with that one premise about their numbers
pub any_typed_calls-show : (m : Making) → MakingFits m → HostFits m → (cs : List MixedHostCall) → AllNumbersFit cs
    → MixedShows (copies_of m.copies) m.monitor (ledger_served (fresh_link m) (map mixed_told cs)) (monitor_served (fresh_link m) (map mixed_told cs))
    (said (host_mixed_played (host_fresh m) cs))
any_typed_calls-show m ok fits cs h = let t = all_fit cs h in any_calls-show m ok fits cs t.0 t.1
