-- Document 01, 'Monitor', from the calls that the monitor was served, newest first: no ring, no room and no refusal stands here. Assumes nothing.
use Rattle.std.specs.Prelude.{Bool, true, false, not, ◌||◌, ◌&&◌, List, [], ◌∷◌, ◌++◌, ℕ, ◌+◌, eqb, leb, ltb, Option, None, Some}
use Rattle.probe_queue.specs.Queue.{choose}
use Rattle.monitor_model.specs.Playing.{Call, sending, replying, advancing, idling}

-- a probe that waits for its reply until its deadline
pub record Waiting : Type 0 where
  pub sequence : ℕ
  pub deadline : ℕ

-- state 0 idle, 1 active, 2 failed; losses in a row; how often each state was notified; the probes that wait, oldest first; the marked sequences
pub record Watch : Type 0 where
  pub state : ℕ
  pub threshold : ℕ
  pub losses : ℕ
  pub actives : ℕ
  pub faileds : ℕ
  pub idles : ℕ
  pub timeout : ℕ
  pub transmitting : Bool
  pub waiting : List Waiting
  pub marked : ℕ → Bool

-- a fresh one; threshold 0 counts as 1
abbrev pub fresh : (threshold timeout : ℕ) → Watch
fresh threshold timeout = record { state = 0; threshold = choose (eqb threshold 0) 1 threshold; losses = 0; actives = 0; faileds = 0; idles = 0; timeout = timeout; transmitting = false; waiting = []; marked = λ s. false }

-- in state n, active or failed, with these losses: only a change of state notifies
abbrev pub in_state : (n losses : ℕ) → Watch → Watch
in_state n losses w =
    let changed = not (eqb n w.state) in
    record { state = n; threshold = w.threshold; losses = losses; actives = choose (eqb n 1 && changed) (w.actives + 1) w.actives; faileds = choose (eqb n 2 && changed) (w.faileds + 1) w.faileds; idles = w.idles; timeout = w.timeout; transmitting = w.transmitting; waiting = w.waiting; marked = w.marked }

-- transmitting or not, with these probes that wait, and these marks
abbrev pub holding : Bool → List Waiting → (ℕ → Bool) → Watch → Watch
holding transmitting waiting marked w =
    record { state = w.state; threshold = w.threshold; losses = w.losses; actives = w.actives; faileds = w.faileds; idles = w.idles; timeout = w.timeout; transmitting = transmitting; waiting = waiting; marked = marked }

-- the marks with this sequence, or without it
unfoldable pub marking : Bool → ℕ → (ℕ → Bool) → ℕ → Bool
marking mark s marks x = choose (eqb s x) mark (marks x)

-- the front probe p goes, and its mark with it: ps are left
abbrev pub taken : Waiting → List Waiting → Watch → Watch
taken p ps w = holding w.transmitting ps (marking false p.sequence w.marked) w

-- `sent` starts transmitting; with a timeout the probe is marked, and waits
abbrev pub sends : (sequence time : ℕ) → Watch → Watch
sends s t w =
    choose (ltb 0 w.timeout) (holding true (w.waiting ++ (record { sequence = s; deadline = t + w.timeout } ∷ [])) (marking true s w.marked) w)
    (holding true w.waiting w.marked w)

-- probes go up to and including the first with the sequence
abbrev pub taken_to : ℕ → List Waiting → Watch → Watch
taken_to s [] w = w
taken_to s (p ∷ ps) w = choose (eqb p.sequence s) (taken p ps w) (taken_to s ps (taken p ps w))

-- a reply to a marked sequence takes probes; any reply while transmitting makes the losses 0 and the state active
abbrev pub hears : (sequence : ℕ) → Watch → Watch
hears s w = choose w.transmitting (in_state 1 0 (choose (w.marked s) (taken_to s w.waiting w) w)) w

-- while transmitting one loss more, up to the largest u32, and failed at the threshold
abbrev pub loses : Watch → Watch
loses w =
    let n = choose (ltb w.losses 4294967295) (w.losses + 1) 4294967295 in
    choose w.transmitting (choose (leb w.threshold n) (in_state 2 n w) (in_state w.state n w)) w

-- `advance`: every front probe whose deadline has come is lost
abbrev pub gives_up : (time : ℕ) → List Waiting → Watch → Watch
gives_up t [] w = w
gives_up t (p ∷ ps) w = choose (leb p.deadline t) (gives_up t ps (loses (taken p ps w))) w

-- `idle` stops and empties; it notifies where it was transmitting or not idle, and keeps the losses where it was idle
abbrev pub stops : Watch → Watch
stops w =
    let idle = eqb w.state 0 in
    record { state = 0; threshold = w.threshold; losses = choose idle w.losses 0; actives = w.actives; faileds = w.faileds; idles = choose (w.transmitting || not idle) (w.idles + 1) w.idles; timeout = w.timeout; transmitting = false; waiting = []; marked = λ s. false }

-- the monitor after these calls
unfoldable pub watch_after : (threshold timeout : ℕ) → List Call → Watch
watch_after threshold timeout [] = fresh threshold timeout
watch_after threshold timeout (sending s t ∷ cs) = sends s t (watch_after threshold timeout cs)
watch_after threshold timeout (replying s ∷ cs) = hears s (watch_after threshold timeout cs)
watch_after threshold timeout (advancing t ∷ cs) = gives_up t (watch_after threshold timeout cs).waiting (watch_after threshold timeout cs)
watch_after threshold timeout (idling ∷ cs) = stops (watch_after threshold timeout cs)

-- the deadline of the probe in front, or none
abbrev pub front_deadline : List Waiting → Option ℕ
front_deadline [] = None
front_deadline (p ∷ ps) = Some p.deadline
