-- The monitor's notifications and queued probes are together no more than the calls: of few calls it refuses only a late probe.
-- Assumes nothing.
use mathlib.Core.Path.{◌≡◌, refl, ◌∙◌}
use mathlib.Core.Bool.{Bool, true, false, cond}
use mathlib.Core.List.{List, [], ◌∷◌}
use Prim.Native.Nat.{ℕ, suc, ◌+◌, ◌≤◌}
use native.Mathlib.Omega.{arith}
use lib.Dec.{eqb, leb, ltb}
use lib.ListN.{length, length-append}
use Rattle.limits.specs.Limits.{capacity}
use Rattle.call_types.specs.declared.Call.{Call}
use Rattle.call_types.specs.declared.Call.TheVariants.{Sent, Accept, Observe, Advance, Idle}
use Rattle.probe_queue.specs.Queue.{choose}
use Rattle.monitor.specs.declared.State.{State}
use Rattle.monitor.specs.declared.State.TheVariants as state
use Rattle.monitor.specs.declared.Summary.{Summary}
use Rattle.monitor.specs.States.{most_losses, same, losing, enters, transition, failing, stops}
use Rattle.monitor_model.specs.Plain.{Sent as Queued, Marks, Plain, Advanced, remove, queue, start, sent, pop_to, hear, reply, lose, advancing}
use Rattle.history.specs.Given.{packet_of}
use Rattle.history.specs.Ledger.{unique?, events}
use Rattle.link_history.specs.Monitor.{monitor_from}

-- how often it has notified
abbrev pub notes : Summary → ℕ
notes s = s.active_notifications + s.failed_notifications + s.idle_notifications

-- and what may still be lost
abbrev pub weight : Plain → ℕ
weight p = notes p.summary + length p.probes

enters_one : (to : State) (s : Summary) → notes (enters to s) ≤ notes s + 1
unfolding enters
enters_one state.Idle s = omega arith
enters_one state.Active s = omega arith
enters_one state.Failed s = omega arith

transition_one : (to : State) (s : Summary) → notes (transition to s) ≤ notes s + 1
transition_one to s = go (same to s.state)
  where
    go : (b : Bool) → notes (choose b s (enters to s)) ≤ notes s + 1
    go true = omega arith
    go false = enters_one to s

failing_one : (s : Summary) → notes (failing s) ≤ notes s + 1
failing_one s = go (leb s.loss_threshold s.consecutive_losses)
  where
    go : (b : Bool) → notes (choose b (transition state.Failed s) s) ≤ notes s + 1
    go true = transition_one state.Failed s
    go false = omega arith

lose_one : (b : Bool) (s : Summary) → notes (lose b s) ≤ notes s + 1
lose_one true s = failing_one (losing (choose (ltb s.consecutive_losses most_losses) (s.consecutive_losses + 1) most_losses) s)
lose_one false s = omega arith

stops_one : (b : Bool) (s : Summary) → notes (stops b s) ≤ notes s + 1
stops_one b s = go b (same state.Idle s.state)
  where
    go : (b d : Bool) → notes (choose d (choose b (record { state = s.state; loss_threshold = s.loss_threshold; consecutive_losses = s.consecutive_losses; active_notifications = s.active_notifications; failed_notifications = s.failed_notifications; idle_notifications = s.idle_notifications + 1 }) s) (enters state.Idle s)) ≤ notes s + 1
    go true true = omega arith
    go false true = omega arith
    go b false = enters_one state.Idle s

pops : (q : ℕ) (xs : List Queued) (m : Marks) → length (pop_to q xs m).probes ≤ length xs
pops q [] m = omega arith
pops q (x ∷ xs) m = go (eqb x.sequence q) (pops q xs (remove x.sequence m))
  where
    go : (b : Bool) → length (pop_to q xs (remove x.sequence m)).probes ≤ length xs → length (choose b (record { probes = xs; received = remove x.sequence m }) (pop_to q xs (remove x.sequence m))).probes ≤ suc (length xs)
    go true l = omega arith
    go false l = omega arith

loses : (b : Bool) (t : ℕ) (s : Summary) (xs : List Queued) (m : Marks) → notes (advancing b t s xs m).summary + length (advancing b t s xs m).probes ≤ notes s + length xs
loses b t s [] m = omega arith
loses b t s (x ∷ xs) m = go (leb x.deadline t) (loses b t (lose b s) xs (remove x.sequence m))
  where
    next : Advanced
    next = advancing b t (lose b s) xs (remove x.sequence m)

    go : (d : Bool) → notes (advancing b t (lose b s) xs (remove x.sequence m)).summary + length (advancing b t (lose b s) xs (remove x.sequence m)).probes ≤ notes (lose b s) + length xs
        → notes (choose d (advancing b t (lose b s) xs (remove x.sequence m)) (record { summary = s; probes = x ∷ xs; received = m })).summary
        + length (choose d (advancing b t (lose b s) xs (remove x.sequence m)) (record { summary = s; probes = x ∷ xs; received = m })).probes
        ≤ notes s + suc (length xs)
    go true l = omega (arith, l, lose_one b s)
    go false l = omega arith

sent_weight : (p : Plain) (s t : ℕ) → weight (sent p s t) ≤ weight p + 1
sent_weight p s t = go (ltb 0 p.timeout)
  where
    go : (b : Bool) → weight (choose b (queue p s t) (start p)) ≤ weight p + 1
    go true = omega (arith, length-append p.probes (record { sequence = s; deadline = t + p.timeout } ∷ []))
    go false = omega arith

reply_weight : (p : Plain) (s : ℕ) → weight (reply p s) ≤ weight p + 1
reply_weight p s = go p.transmitting (p.received s)
  where
    go : (b d : Bool) → weight (choose b (hear p (choose d (pop_to s p.probes p.received) (record { probes = p.probes; received = p.received }))) p) ≤ weight p + 1
    go true true = omega (arith, pops s p.probes p.received, transition_one state.Active (losing 0 p.summary))
    go true false = omega (arith, transition_one state.Active (losing 0 p.summary))
    go false d = omega arith

module _ (threshold timeout : ℕ) where
  pub weighs : (h : List Call) → weight (monitor_from threshold timeout h) ≤ length h
  unfolding monitor_from
  weighs [] = omega arith
  weighs (Sent s ∷ h) = omega (arith, weighs h, sent_weight (monitor_from threshold timeout h) s.sequence s.packet.time)
  weighs (Accept a ∷ h) = go (unique? capacity a.key (packet_of a.pending) (events capacity h)) (weighs h)
    where
      go : (b : Bool) → weight (monitor_from threshold timeout h) ≤ length h → weight (cond b (reply (monitor_from threshold timeout h) a.key.sender) (monitor_from threshold timeout h)) ≤ suc (length h)
      go true l = omega (arith, l, reply_weight (monitor_from threshold timeout h) a.key.sender)
      go false l = omega (arith, l)
  weighs (Observe o ∷ h) = omega (arith, weighs h)
  weighs (Advance t ∷ h) = omega (arith, weighs h, loses (monitor_from threshold timeout h).transmitting t (monitor_from threshold timeout h).summary (monitor_from threshold timeout h).probes (monitor_from threshold timeout h).received)
  weighs (Idle ∷ h) = omega (arith, weighs h, stops_one (monitor_from threshold timeout h).transmitting (monitor_from threshold timeout h).summary)

  sent_timeout : (p : Plain) (s t : ℕ) → (sent p s t).timeout ≡ p.timeout
  sent_timeout p s t = go (ltb 0 p.timeout)
    where
      go : (b : Bool) → (choose b (queue p s t) (start p)).timeout ≡ p.timeout
      go true = refl
      go false = refl

  reply_timeout : (p : Plain) (s : ℕ) → (reply p s).timeout ≡ p.timeout
  reply_timeout p s = go p.transmitting
    where
      go : (b : Bool) → (choose b (hear p (choose (p.received s) (pop_to s p.probes p.received) (record { probes = p.probes; received = p.received }))) p).timeout ≡ p.timeout
      go true = refl
      go false = refl

  pub keeps_timeout : (h : List Call) → (monitor_from threshold timeout h).timeout ≡ timeout
  unfolding monitor_from
  keeps_timeout [] = refl
  keeps_timeout (Sent s ∷ h) = sent_timeout (monitor_from threshold timeout h) s.sequence s.packet.time ∙ keeps_timeout h
  keeps_timeout (Accept a ∷ h) = go (unique? capacity a.key (packet_of a.pending) (events capacity h)) (keeps_timeout h)
    where
      go : (b : Bool) → (monitor_from threshold timeout h).timeout ≡ timeout → (cond b (reply (monitor_from threshold timeout h) a.key.sender) (monitor_from threshold timeout h)).timeout ≡ timeout
      go true e = reply_timeout (monitor_from threshold timeout h) a.key.sender ∙ e
      go false e = e
  keeps_timeout (Observe o ∷ h) = keeps_timeout h
  keeps_timeout (Advance t ∷ h) = keeps_timeout h
  keeps_timeout (Idle ∷ h) = keeps_timeout h
