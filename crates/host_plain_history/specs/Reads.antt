-- What a host reads of a link, by the exported calls that only read and by the answers of `accept`: on the left what the call's contract says that it returns
-- and writes, on the right the plain figures of the served calls. Assumes nothing.
use Rattle.std.specs.Prelude.{◌≡◌, List, [], ◌∷◌, ℕ}
use Rattle.limits.specs.Limits.{capacity}
use Rattle.call_types.specs.declared.Call.{Call}
use Rattle.monitor_model.specs.Playing as monitor
use Rattle.history.specs.Ledger.{copies_of}
use Rattle.history.specs.Plain.{plain_figures, waits, has_reply, answer_to}
use Rattle.host_numbers.specs.Numbers.{flag_word}
use Rattle.host_calls.specs.Calls.{reply_of}
use Rattle.host_accept_words.specs.Accept.{accept_of}
use Rattle.host_watched_accept.specs.Calls.{watched_accept_to}
use Rattle.host_snapshot.specs.Snapshot.{snapshot_leaves}
use Rattle.host_burst_wait.specs.BurstWait.{burst_wait_leaves}
use Rattle.host_answered.specs.Answered.{answered_leaves}
use Rattle.host_monitor.specs.Calls.{summary_to, deadline_to}
use Rattle.host_plain_history.specs.Host.{Memory, Settings, Typed, accept}
use Rattle.host_plain_history.specs.Monitor.{Watch, watch_after, front_deadline}
use Rattle.host_plain_history.specs.Words.{number_words, figure_words, answer_words, watch_words}

-- the monitor after the calls that it was served
abbrev pub monitor_by : Settings → List monitor.Call → Watch
monitor_by s ops = watch_after s.threshold s.timeout ops

-- WHAT A HOST READS IS WHAT THE SERVED CALLS CALL FOR: h those of the ledger, ops those of the monitor, newest first. `before` is what the words lent for
-- an answer held.
pub record Reads (s : Settings) (h : List Call) (ops : List monitor.Call) (x : Memory) : Type 0 where
  pub snapshot_is : let r = snapshot_leaves x.ledger in (r.number ≡ 0) × (r.shown ≡ figure_words (plain_figures capacity (copies_of s.copies) h))
  pub burst_wait_is : (before : List ℕ) → let r = burst_wait_leaves x.ledger before in (r.number ≡ 0) × (r.answer ≡ flag_word (waits capacity (copies_of s.copies) h) ∷ [])
  pub answered_is : (sequence : ℕ) (before : List ℕ)
      → let r = answered_leaves x.ledger x.probes x.links sequence before in (r.number ≡ 0) × (r.answer ≡ flag_word (has_reply capacity h sequence) ∷ [])
  pub accept_is : (sender reflector t3 pending time tag : ℕ) (before : List ℕ) → Typed (accept sender reflector t3 pending time tag)
      → let a = reply_of sender reflector t3 pending time tag in let r = accept_of x.ledger x.keys x.slots x.probes x.links before a in
      r.number ≡ 0 → r.answer ≡ answer_words (answer_to capacity h a)
  pub watched-accept_is : (sender reflector t3 pending time tag : ℕ) (before : List ℕ) → Typed (accept sender reflector t3 pending time tag)
      → let r = watched_accept_to x.ledger x.monitor x.keys x.slots x.probes x.links x.queue sender reflector t3 pending time tag before in
      r.number ≡ 0 → r.answer ≡ answer_words (answer_to capacity h (reply_of sender reflector t3 pending time tag))
  pub summary_is : (before : List ℕ) → let r = summary_to x.monitor before in (r.number ≡ 0) × (r.words ≡ watch_words (monitor_by s ops))
  pub deadline_is : (before : List ℕ) → let r = deadline_to x.monitor x.queue before in (r.number ≡ 0) × (r.words ≡ number_words (front_deadline (monitor_by s ops).waiting))
