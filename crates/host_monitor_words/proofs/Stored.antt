-- What is stored is read back: the words of a monitor say that monitor.
-- Assumes nothing.
use mathlib.Core.Path.{◌≡◌, refl}
use mathlib.Core.Bool.{Bool}
use Prim.Native.Nat.{ℕ}
use native.Mathlib.Nat.{mod-eq_of_lt}
use Rattle.host_numbers.proofs.Back.{flag_again}
use Rattle.monitor.specs.declared.State.{State}
use Rattle.monitor.specs.declared.State.TheVariants.{Idle, Active, Failed}
use Rattle.monitor.specs.declared.Monitor.{Monitor}
use Rattle.host_monitor_words.specs.Words.{state_at, state_number, summary_at, monitor_at, words_of, Fits}

pub state_back : (s : State) → state_at (state_number s) ≡ s
state_back Idle = refl
state_back Active = refl
state_back Failed = refl

abbrev put : Monitor → State → ℕ → ℕ → Bool → ℕ → Monitor
put m s threshold losses transmitting latest =
    record {
      summary = record { state = s; loss_threshold = threshold; consecutive_losses = losses; active_notifications = m.summary.active_notifications; failed_notifications = m.summary.failed_notifications; idle_notifications = m.summary.idle_notifications };
      timeout = m.timeout;
      transmitting = transmitting;
      ring = m.ring;
      run = m.run;
      latest = latest;
    }

pub stored : (m : Monitor) → Fits m → monitor_at (words_of m) ≡ m
unfolding monitor_at summary_at words_of
stored m fits =
    λ i. put m (state_back m.summary.state i) (mod-eq_of_lt fits.threshold i) (mod-eq_of_lt fits.losses i) (flag_again m.transmitting i) (mod-eq_of_lt fits.latest i)
