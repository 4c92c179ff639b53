-- Which number a call returns (document 01, 'Refusal numbers'), from the calls that the ledger was served, h, and the monitor after those that it was served:
-- 0, or the first that holds in the table's order, 1, 6, 4, 2, 3. In rooms of the right size 5 never comes. Assumes nothing.
use Rattle.std.specs.Prelude.{Bool, not, ◌||◌, ◌&&◌, List, ℕ, ◌+◌, ◌^◌, leb, ltb, length}
use Rattle.limits.specs.Limits.{capacity, most_calls, count_bound}
use Rattle.call_types.specs.declared.ReplyObservation.{ReplyObservation}
use Rattle.call_types.specs.declared.Call.{Call}
use Rattle.ranges.specs.Ranges.{in_range}
use Rattle.probe_queue.specs.Queue.{choose}
use Rattle.history.specs.Ledger.{awaiting, events}
use Rattle.reply_history.specs.Follows.{awaits_in}
use Rattle.host_observation.specs.Observation.{observation_at}
use Rattle.host_plain_history.specs.Host.{HostCall, sent, watched_sent, accept, watched_accept, observe, monitor_sent, monitor_reply, monitor_advance, monitor_idle}
use Rattle.host_plain_history.specs.Monitor.{Watch}

-- 4 of the ledger: 4,294,967,295 calls were served. No count gets to 2^63 before that, and no sum to 2^126
abbrev pub ledger_full : List Call → Bool
ledger_full h = leb most_calls (length h)

-- 4 of the monitor: a count of notifications at 2^63
abbrev pub watch_full : Watch → Bool
watch_full w = leb count_bound w.actives || (leb count_bound w.faileds || leb count_bound w.idles)

-- of a `sent` that the monitor hears: 6 where its deadline passes 2^64, 4, and 3 where 4,096 probes wait
abbrev pub heard_number : (full : Bool) → (time : ℕ) → Watch → ℕ
heard_number full time w = choose (leb (2 ^ 64) (time + w.timeout)) 6 (choose full 4 (choose (ltb 0 w.timeout && leb capacity (length w.waiting)) 3 0))

-- of an `observe`: 1 out of range, 4, and 2 where another key awaits it, or none
abbrev pub observe_number : List Call → ReplyObservation → ℕ
observe_number h o = choose (not (in_range o)) 1 (choose (ledger_full h) 4 (choose (not (awaits_in (awaiting (events capacity h)) o.key)) 2 0))

-- of any call
abbrev pub returned : List Call → Watch → HostCall → ℕ
returned h w (sent sequence ordinal train time tag) = choose (ledger_full h) 4 0
returned h w (watched_sent sequence ordinal train time tag) = heard_number (ledger_full h || watch_full w) time w
returned h w (accept sender reflector t3 pending time tag) = choose (ledger_full h) 4 0
returned h w (watched_accept sender reflector t3 pending time tag) = choose (ledger_full h || watch_full w) 4 0
returned h w (observe words) = observe_number h (observation_at words)
returned h w (monitor_sent sequence time) = heard_number (watch_full w) time w
returned h w (monitor_reply sequence) = choose (watch_full w) 4 0
returned h w (monitor_advance time) = choose (watch_full w) 4 0
returned h w monitor_idle = choose (watch_full w) 4 0
