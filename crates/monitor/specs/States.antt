-- The state and the notifications of document 01, "Monitor": `Summary` and `transition` of src/sender/session_state.rs.
use Rattle.std.specs.Prelude.{Bool, true, false, ℕ, zero, suc, ◌+◌, leb}
use Rattle.probe_queue.specs.Queue.{choose}
use Rattle.monitor.specs.declared.State.{State}
use Rattle.monitor.specs.declared.State.TheVariants.{Idle, Active, Failed}
use Rattle.monitor.specs.declared.Summary.{Summary}

-- the largest u32, where losses saturate
abbrev pub most_losses : ℕ
most_losses = 4294967295

-- whether two states are the same
unfoldable pub same : State → State → Bool
same Idle Idle = true
same Active Active = true
same Failed Failed = true
same Idle Active = false
same Idle Failed = false
same Active Idle = false
same Active Failed = false
same Failed Idle = false
same Failed Active = false

-- the summary with other losses
abbrev pub losing : ℕ → Summary → Summary
losing n s = record { state = s.state; loss_threshold = s.loss_threshold; consecutive_losses = n; active_notifications = s.active_notifications; failed_notifications = s.failed_notifications; idle_notifications = s.idle_notifications }

-- a state is entered, which notifies
unfoldable pub enters : State → Summary → Summary
enters Idle s = record { state = Idle; loss_threshold = s.loss_threshold; consecutive_losses = 0; active_notifications = s.active_notifications; failed_notifications = s.failed_notifications; idle_notifications = s.idle_notifications + 1 }
enters Active s = record { state = Active; loss_threshold = s.loss_threshold; consecutive_losses = 0; active_notifications = s.active_notifications + 1; failed_notifications = s.failed_notifications; idle_notifications = s.idle_notifications }
enters Failed s = record { state = Failed; loss_threshold = s.loss_threshold; consecutive_losses = s.consecutive_losses; active_notifications = s.active_notifications; failed_notifications = s.failed_notifications + 1; idle_notifications = s.idle_notifications }

-- only a change of state notifies
abbrev pub transition : State → Summary → Summary
transition to s = choose (same to s.state) s (enters to s)

-- n losses more, saturating at the largest u32
abbrev pub saturated : ℕ → ℕ → ℕ
saturated losses n = choose (leb (losses + n) most_losses) (losses + n) most_losses

-- Failed at the threshold
abbrev pub failing : Summary → Summary
failing s = choose (leb s.loss_threshold s.consecutive_losses) (transition Failed s) s

-- n probes that were due are lost
unfoldable pub loses : ℕ → Summary → Summary
loses zero s = s
loses (suc n) s = failing (losing (saturated s.consecutive_losses (suc n)) s)

-- any reply while transmitting makes the losses 0 and the state Active
abbrev pub hears : Summary → Summary
hears s = transition Active (losing 0 s)

-- `idle` notifies once if it was transmitting in Idle, losses kept; else by its change of state
abbrev pub stops : Bool → Summary → Summary
stops transmitting s =
    choose (same Idle s.state)
    (choose transmitting (record { state = s.state; loss_threshold = s.loss_threshold; consecutive_losses = s.consecutive_losses; active_notifications = s.active_notifications; failed_notifications = s.failed_notifications; idle_notifications = s.idle_notifications + 1 }) s)
    (enters Idle s)
