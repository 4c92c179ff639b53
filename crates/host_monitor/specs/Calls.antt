-- What each of the monitor's calls for a host answers and leaves, on every input: the monitor's own definitions, of the monitor that the words say.
-- A refusal changes no lent word.
-- Assumes nothing.
use Rattle.monitor.specs.declared.Monitor.{Monitor}
use Rattle.std.specs.Prelude.{List, [], ◌∷◌, ℕ, Result, Ok, Err, Option, Some, None}
use Rattle.limits.specs.Limits.{capacity}
use Rattle.limits.specs.Refusals.{wrong_room}
use Rattle.probe_queue.specs.declared.QueuedProbe.{QueuedProbe}
use Rattle.probe_queue.specs.Queue.{choose}
use Rattle.monitor.specs.declared.Summary.{Summary}
use Rattle.monitor.specs.Refusals.{misplaced}
use Rattle.monitor.specs.Operations.{fresh}
use Rattle.monitor.specs.Answers.{Outcome, number, deadline_number}
use Rattle.monitor.specs.Answers as monitor
use Rattle.host_monitor_words.specs.Words.{state_number, monitor_at, words_of, words_after}

-- the number of a call, and the words that it was lent to write
pub record Told : Type 0 where
  pub number : ℕ
  pub words : List ℕ

-- what such a call tells, made of its number and the words
abbrev pub told : ℕ → List ℕ → Told
told n words = record { number = n; words = words }

-- the same of a call that is lent the queue too
pub record Left : Type 0 where
  pub number : ℕ
  pub words : List ℕ
  pub queue : List QueuedProbe

-- what such a call leaves, made of its number, the words and the queue
abbrev pub left : ℕ → List ℕ → List QueuedProbe → Left
left n words queue = record { number = n; words = words; queue = queue }

-- an answer, as its number and the monitor's words
abbrev pub ended : List ℕ → Outcome → Left
ended words o = left (number o.answer) (words_after words o.answer) o.room

-- a fresh monitor's words, whatever the words were
unfoldable pub fresh_to : ℕ → ℕ → Told
fresh_to threshold timeout = told 0 (words_of (fresh threshold timeout))

-- `sent` of a sequence at a time, on the monitor that the words say
unfoldable pub sent_to : List ℕ → List QueuedProbe → ℕ → ℕ → Left
sent_to words queue sequence time = ended words (monitor.sent_to (monitor_at words) queue sequence time)

-- `reply` with a sequence, on the monitor that the words say
unfoldable pub reply_to : List ℕ → List QueuedProbe → ℕ → Left
reply_to words queue sequence = ended words (monitor.reply_to (monitor_at words) queue sequence)

-- `advance` to a time, on the monitor that the words say
unfoldable pub advance_to : List ℕ → List QueuedProbe → ℕ → Left
advance_to words queue time = ended words (monitor.advance_to (monitor_at words) queue time)

-- an answer of `idle`, which is lent no queue: its number, and the monitor's words
abbrev pub stopped : List ℕ → Result Monitor ℕ → Told
stopped words a = told (number a) (words_after words a)

-- `idle`, on the monitor that the words say
unfoldable pub idle_to : List ℕ → Told
idle_to words = stopped words (monitor.idle_to (monitor_at words))

-- the words of a deadline: 1 and the deadline, or zeros where there is none
abbrev pub answer_words : List ℕ → Result (Option ℕ) ℕ → List ℕ
answer_words words (Ok None) = 0 ∷ 0 ∷ []
answer_words words (Ok (Some time)) = 1 ∷ time ∷ []
answer_words words (Err n) = words

-- a deadline's number, and the two words lent for it: a refusal leaves them as they were
abbrev pub answered_by : List ℕ → Result (Option ℕ) ℕ → Told
answered_by answer d = told (deadline_number d) (answer_words answer d)

-- the front probe's deadline, of the monitor that the words say; only the two words of the answer are written
unfoldable pub deadline_to : List ℕ → List QueuedProbe → List ℕ → Told
deadline_to words queue answer = answered_by answer (monitor.deadline_of (monitor_at words) queue)

-- the words of a summary: state (0 idle, 1 active, 2 failed), threshold, consecutive losses, active, failed and idle notifications
abbrev pub shows : Summary → List ℕ
shows s = state_number s.state ∷ s.loss_threshold ∷ s.consecutive_losses ∷ s.active_notifications ∷ s.failed_notifications ∷ s.idle_notifications ∷ []

-- the summary of the monitor that the words say: 5 where its ring is out of place, and then the words lent for it stay
unfoldable pub summary_to : List ℕ → List ℕ → Told
summary_to words shown = choose (misplaced (monitor_at words) capacity) (told wrong_room shown) (told 0 (shows (monitor_at words).summary))
