-- Document 01, "Refusal numbers", of the monitor's calls: 5, 6, 4 and 3, in the table's order; 0 where a call is served.
use Rattle.std.specs.Prelude.{Bool, not, ◌||◌, ◌&&◌, ℕ, ◌+◌, ◌^◌, eqb, leb, ltb}
use Rattle.limits.specs.Limits.{capacity, count_bound}
use Rattle.limits.specs.Refusals.{wrong_room, deadline_passes, counts_full, queue_full}
use Rattle.probe_queue.specs.Queue.{choose}
use Rattle.monitor.specs.declared.Monitor.{Monitor}
use Rattle.monitor.specs.declared.Summary.{Summary}

-- 5: a lent room of the wrong size; ring head above 4,095 or length above 4,096
abbrev pub misplaced : Monitor → ℕ → Bool
misplaced m room = not (eqb room capacity) || (leb capacity m.ring.head || ltb capacity m.ring.len)

-- 4: a notification count at 2^63 or beyond
abbrev pub counted : Summary → Bool
counted s = leb count_bound s.active_notifications || (leb count_bound s.failed_notifications || leb count_bound s.idle_notifications)

-- 6: send time plus timeout above 2^64-1
abbrev pub passing : Monitor → ℕ → Bool
passing m time = leb (2 ^ 64) (time + m.timeout)

-- 3: timeout above 0 and the queue full
abbrev pub crowded : Monitor → Bool
crowded m = ltb 0 m.timeout && leb capacity m.ring.len

-- of `reply`, `advance` and `idle`
unfoldable pub refusal_of : Monitor → ℕ → ℕ
refusal_of m room = choose (misplaced m room) wrong_room (choose (counted m.summary) counts_full 0)

-- of `sent`
unfoldable pub refusal_of_sent : Monitor → ℕ → ℕ → ℕ
refusal_of_sent m room time =
    choose (misplaced m room) wrong_room (choose (passing m time) deadline_passes (choose (counted m.summary) counts_full (choose (crowded m) queue_full 0)))

-- whether a call is served, where whoever makes it wants it to go on
abbrev pub served : Bool → ℕ → Bool
served go refusal = go && eqb refusal 0
