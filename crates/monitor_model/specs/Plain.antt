-- Document 01, "Monitor", over a plain list of queued probes and a set of marked sequences: src/sender/session_state.rs, line for line.
use Rattle.std.specs.Prelude.{Bool, true, false, ◌&&◌, List, [], ◌∷◌, ◌++◌, ℕ, ◌+◌, ◌^◌, length, eqb, leb, ltb, Result, Ok, Option, Some, None}
use Rattle.limits.specs.Limits.{capacity}
use Rattle.limits.specs.Refusals.{deadline_passes, counts_full, queue_full}
use Rattle.probe_queue.specs.Queue.{choose}
use Rattle.monitor.specs.declared.State.TheVariants.{Idle, Active}
use Rattle.monitor.specs.declared.Summary.{Summary}
use Rattle.monitor.specs.Refusals.{counted}
use Rattle.monitor.specs.States.{most_losses, losing, transition, failing, stops}

-- a queued probe: `Probe` of the original
pub record Sent : Type 0 where
  pub sequence : ℕ
  pub deadline : ℕ

-- a set of sequences: `received` of the original
abbrev pub Marks : Type 0
Marks = ℕ → Bool

-- the set with this sequence
unfoldable pub insert : ℕ → Marks → Marks
insert s marks x = choose (eqb s x) true (marks x)

-- the set without this sequence
unfoldable pub remove : ℕ → Marks → Marks
remove s marks x = choose (eqb s x) false (marks x)

-- `Monitor` of the original
pub record Plain : Type 0 where
  pub summary : Summary
  pub timeout : ℕ
  pub transmitting : Bool
  pub probes : List Sent
  pub received : Marks

-- `new`: threshold 0 counts as 1
abbrev pub new : ℕ → ℕ → Plain
new threshold timeout =
    record {
      summary = record { state = Idle; loss_threshold = choose (eqb threshold 0) 1 threshold; consecutive_losses = 0; active_notifications = 0; failed_notifications = 0; idle_notifications = 0 };
      timeout = timeout;
      transmitting = false;
      probes = [];
      received = λ s. false;
    }

-- `sent` starts transmitting; with timeout above 0 it queues the probe and marks its sequence
abbrev pub queue : Plain → ℕ → ℕ → Plain
queue p s t = record { summary = p.summary; timeout = p.timeout; transmitting = true; probes = p.probes ++ record { sequence = s; deadline = t + p.timeout } ∷ []; received = insert s p.received }

-- with timeout 0 it only starts transmitting
abbrev pub start : Plain → Plain
start p = record { summary = p.summary; timeout = p.timeout; transmitting = true; probes = p.probes; received = p.received }

-- `sent` of the sequence s at time t, not refused
abbrev pub sent : Plain → ℕ → ℕ → Plain
sent p s t = choose (ltb 0 p.timeout) (queue p s t) (start p)

-- what pops leave
pub record Left : Type 0 where
  pub probes : List Sent
  pub received : Marks

-- pops up to and including the first probe with the sequence; each pop unmarks its own
abbrev pub pop_to : ℕ → List Sent → Marks → Left
pop_to s [] marks = record { probes = []; received = marks }
pop_to s (x ∷ xs) marks = choose (eqb x.sequence s) (record { probes = xs; received = remove x.sequence marks }) (pop_to s xs (remove x.sequence marks))

-- a marked reply pops, and any reply while transmitting makes the losses 0 and the state Active
abbrev pub hear : Plain → Left → Plain
hear p l = record { summary = transition Active (losing 0 p.summary); timeout = p.timeout; transmitting = p.transmitting; probes = l.probes; received = l.received }

-- `reply` with the sequence s, not refused: nothing while not transmitting, and no pop where s is not marked
abbrev pub reply : Plain → ℕ → Plain
reply p s = choose p.transmitting (hear p (choose (p.received s) (pop_to s p.probes p.received) (record { probes = p.probes; received = p.received }))) p

-- one loss more, saturating, and Failed at the threshold: while transmitting
abbrev pub lose : Bool → Summary → Summary
lose transmitting s = choose transmitting (failing (losing (choose (ltb s.consecutive_losses most_losses) (s.consecutive_losses + 1) most_losses) s)) s

-- what `advance` leaves
pub record Advanced : Type 0 where
  pub summary : Summary
  pub probes : List Sent
  pub received : Marks

-- it looks only at the front, again after each pop
abbrev pub advancing : Bool → ℕ → Summary → List Sent → Marks → Advanced
advancing transmitting t summary [] marks = record { summary = summary; probes = []; received = marks }
advancing transmitting t summary (x ∷ xs) marks =
    choose (leb x.deadline t) (advancing transmitting t (lose transmitting summary) xs (remove x.sequence marks)) (record { summary = summary; probes = x ∷ xs; received = marks })

-- the monitor with what `advance` left; timeout and whether it transmits stay
abbrev pub advance_by : Plain → Advanced → Plain
advance_by p a = record { summary = a.summary; timeout = p.timeout; transmitting = p.transmitting; probes = a.probes; received = a.received }

-- `advance` to the time t, not refused: every front probe whose deadline is at or before t goes
abbrev pub advance : Plain → ℕ → Plain
advance p t = advance_by p (advancing p.transmitting t p.summary p.probes p.received)

-- `idle` stops and empties
abbrev pub idle : Plain → Plain
idle p = record { summary = stops p.transmitting p.summary; timeout = p.timeout; transmitting = false; probes = []; received = λ s. false }

-- `deadline`: the front probe's, or none
abbrev pub deadline : List Sent → Result (Option ℕ) ℕ
deadline [] = Ok None
deadline (x ∷ xs) = Ok (Some x.deadline)

-- document 01's refusals, 0 where the call is served: of `reply`, `advance` and `idle` only 4
abbrev pub refusal : Plain → ℕ
refusal p = choose (counted p.summary) counts_full 0

-- of `sent` at time t: 6, 4 and 3, in the table's order
abbrev pub sent_refusal : Plain → ℕ → ℕ
sent_refusal p t =
    choose (leb (2 ^ 64) (t + p.timeout)) deadline_passes (choose (counted p.summary) counts_full (choose (ltb 0 p.timeout && leb capacity (length p.probes)) queue_full 0))
