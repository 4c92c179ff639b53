-- The monitor in twelve words, in the order of its fields: state, loss threshold, consecutive losses, active, failed and idle notifications, timeout,
-- whether it is transmitting, the ring's head and length, the run and the latest sequence. Every twelve words say a monitor.
-- Assumes nothing.
use Rattle.std.specs.Prelude.{List, [], ◌∷◌, ℕ, ◌<◌, ◌%◌, ◌^◌, get_or, eqb, Result, Ok, Err}
use Rattle.host_numbers.specs.Numbers.{lower, flag_word, is_set}
use Rattle.probe_queue.specs.Queue.{choose}
use Rattle.monitor.specs.declared.State.{State}
use Rattle.monitor.specs.declared.State.TheVariants.{Idle, Active, Failed}
use Rattle.monitor.specs.declared.Summary.{Summary}
use Rattle.monitor.specs.declared.Monitor.{Monitor}

-- the word at a place
abbrev pub word : List ℕ → ℕ → ℕ
word words i = get_or words i 0

-- a state's word: 0 idle, 1 active, 2 failed; anything else is read as failed
abbrev pub state_at : ℕ → State
state_at n = choose (eqb n 0) Idle (choose (eqb n 1) Active Failed)

-- the word of a state: 0 idle, 1 active, 2 failed
abbrev pub state_number : State → ℕ
state_number Idle = 0
state_number Active = 1
state_number Failed = 2

-- a number is read at its field's width: of a threshold the low 16 bits, of losses and of a sequence the low 32
unfoldable pub summary_at : List ℕ → Summary
summary_at words =
    record {
      state = state_at (word words 0);
      loss_threshold = word words 1 % 2 ^ 16;
      consecutive_losses = lower (word words 2);
      active_notifications = word words 3;
      failed_notifications = word words 4;
      idle_notifications = word words 5;
    }

-- the monitor that words say
unfoldable pub monitor_at : List ℕ → Monitor
monitor_at words =
    record {
      summary = summary_at words;
      timeout = word words 6;
      transmitting = is_set (word words 7);
      ring = record { head = word words 8; len = word words 9 };
      run = word words 10;
      latest = lower (word words 11);
    }

-- the words of a monitor
unfoldable pub words_of : Monitor → List ℕ
words_of m =
    state_number m.summary.state
    ∷ m.summary.loss_threshold
    ∷ m.summary.consecutive_losses
    ∷ m.summary.active_notifications
    ∷ m.summary.failed_notifications
    ∷ m.summary.idle_notifications
    ∷ m.timeout
    ∷ flag_word m.transmitting
    ∷ m.ring.head
    ∷ m.ring.len
    ∷ m.run
    ∷ m.latest
    ∷ []

-- the words after a call: the next monitor's, or as they were where it was refused
abbrev pub words_after : List ℕ → Result Monitor ℕ → List ℕ
words_after words (Ok m) = words_of m
words_after words (Err n) = words

-- a monitor whose numbers fit their types
pub record Fits (m : Monitor) : Type 0 where
  pub threshold : m.summary.loss_threshold < 2 ^ 16
  pub losses : m.summary.consecutive_losses < 2 ^ 32
  pub latest : m.latest < 2 ^ 32
