-- From the parts of a record, in a row, to the step of link_steps. Assumes nothing.
use Rattle.std.specs.Prelude.{Option, Some, None}
use Rattle.call_types.specs.declared.Call.{Call}
use mathlib.Core.Path.{◌≡◌, refl, ap, ◌∙◌}
use mathlib.Core.Bool.{Bool}
use mathlib.Core.List.{List}
use Prim.Native.Nat.{ℕ}
use lib.Dec.{eqb}
use lib.ListN.{length}
use Rattle.call_types.specs.declared.Call.TheVariants as call
use Rattle.probe_queue.specs.declared.QueuedProbe.{QueuedProbe}
use Rattle.ledger_state.specs.declared.Ledger.{Ledger}
use Rattle.ledger_steps.specs.Rooms.{Rooms}
use Rattle.monitor.specs.declared.Monitor.{Monitor}
use Rattle.monitor.specs.Operations.{MonitorStand, Leaves, sent_if, reply_if, advance_if}
use Rattle.log_whole.specs.Logs.{call_at}
use Rattle.link_steps.specs.Steps.{LinkStand, after, refuses}
use Rattle.log_play_parts.specs.declared.Part.{Part}
use Rattle.log_play_parts.specs.Parts.{ReadFits, rooms_of, other_of, Parted, parted, part_of, monitor_of, goes_on, kind_of, sequence_of, time_of, watch_after}
use Rattle.log_play_turn.specs.Turn.{idled_if}
use Rattle.host_ledger.specs.Words.{ledger_at}
use Rattle.log_play.specs.declared.Step.{Step}
use Rattle.log_play.specs.Tally.{link_at, standing_of, after_read, refuses_read, Stepped}

-- the monitor's three calls in a row, each with whether it goes on
abbrev three : Bool → Bool → Bool → Monitor → List QueuedProbe → ℕ → ℕ → MonitorStand
three g₁ g₂ g₃ m queue s t =
    let x = sent_if g₁ m queue s t in
    let y = reply_if g₂ x.monitor x.room s in
    advance_if g₃ y.monitor y.room t

-- the record from its parts
abbrev joined : Option Monitor → Option Call → Parted → MonitorStand → LinkStand
joined w r p x = standing_of (record { ledger = p.ledger; watch = watch_after w (idled_if (eqb (kind_of r) 5) x.monitor) }) x.room p.rooms

abbrev parts_of : LinkStand → Option Call → Parted
parts_of k r = part_of (other_of k.link.watch r (length k.queue)) k.link.ledger k.rooms r

abbrev three_of : LinkStand → Option Call → MonitorStand
three_of k r =
    let w = k.link.watch in
    let go = (parts_of k r).part.go in
    three (goes_on 1 w r go) (goes_on 2 w r go) (goes_on 4 w r go) (monitor_of w) k.queue (sequence_of r) (time_of r)

joins : (w : Option Monitor) (l : Ledger) (rooms : Rooms) (queue : List QueuedProbe) (r : Option Call) →
    let k = standing_of (record { ledger = l; watch = w }) queue rooms in
    joined w r (parts_of k r) (three_of k r) ≡ after_read k r
unfolding after sent_if reply_if advance_if
joins None l rooms queue None = refl
joins (Some m) l rooms queue None = refl
joins None l rooms queue (Some (call.Sent s)) = refl
joins (Some m) l rooms queue (Some (call.Sent s)) = refl
joins None l rooms queue (Some (call.Accept a)) = refl
joins (Some m) l rooms queue (Some (call.Accept a)) = refl
joins None l rooms queue (Some (call.Observe o)) = refl
joins (Some m) l rooms queue (Some (call.Observe o)) = refl
joins None l rooms queue (Some (call.Advance t)) = refl
joins (Some m) l rooms queue (Some (call.Advance t)) = refl
joins None l rooms queue (Some call.Idle) = refl
joins (Some m) l rooms queue (Some call.Idle) = refl

numbers : (k : LinkStand) (r : Option Call) → (parts_of k r).part.refused ≡ refuses_read k r
unfolding refuses
numbers k None = refl
numbers k (Some (call.Sent s)) = refl
numbers k (Some (call.Accept a)) = refl
numbers k (Some (call.Observe o)) = refl
numbers k (Some (call.Advance t)) = refl
numbers k (Some call.Idle) = refl

pub steps : (watch : Option Monitor) (log : List ℕ) (i : ℕ) (ledger : List ℕ) (keys slots probes : List (List ℕ)) (offsets : List ℕ) (links : List (List ℕ)) (queue : List QueuedProbe)
    (r : Option Call) (other : ℕ) (part : Part) (ledger' : List ℕ) (keys' slots' probes' : List (List ℕ)) (offsets' : List ℕ) (links' : List (List ℕ)) (m : Monitor) (g₁ g₂ g₃ : Bool) (s t : ℕ)
    (first : Monitor) (queue₁ : List QueuedProbe) (second : Monitor) (queue₂ : List QueuedProbe) (third : Monitor) (queue₃ : List QueuedProbe) (step : Step)
    → (r ≡ call_at log i) × ReadFits r → other ≡ other_of watch r (length queue)
    → parted part (ledger_at ledger') (rooms_of keys' slots' probes' offsets' links') ≡ part_of other (ledger_at ledger) (rooms_of keys slots probes offsets links) r
    → m ≡ monitor_of watch → g₁ ≡ goes_on 1 watch r part.go → g₂ ≡ goes_on 2 watch r part.go → g₃ ≡ goes_on 4 watch r part.go
    → s ≡ sequence_of r → t ≡ time_of r → Leaves (sent_if g₁ m queue s t) first queue₁ → Leaves (reply_if g₂ first queue₁ s) second queue₂ → Leaves (advance_if g₃ second queue₂ t) third queue₃
    → (step.watch ≡ watch_after watch (idled_if (eqb (kind_of r) 5) third)) × (step.refused ≡ part.refused)
    → Stepped (standing_of (link_at ledger watch) queue (rooms_of keys slots probes offsets links)) (call_at log i) step (standing_of (link_at ledger' step.watch) queue₃ (rooms_of keys' slots' probes' offsets' links'))
steps w log i ledger keys slots probes offsets links queue r other part ledger' keys' slots' probes' offsets' links' m g₁ g₂ g₃ s t first queue₁ second queue₂ third queue₃ step er eo ep em e₁ e₂ e₃ es et l₁ l₂ l₃ eq =
    let k = standing_of (link_at ledger w) queue (rooms_of keys slots probes offsets links) in
    let left = rooms_of keys' slots' probes' offsets' links' in
    let parts : parted part (ledger_at ledger') left ≡ parts_of k r = ep ∙ ap (λ (n : ℕ). part_of n (ledger_at ledger) k.rooms r) eo in
    -- the monitor and the queue that the three calls leave
    let x : MonitorStand = record { monitor = third; room = queue₃ } in
    let last : x ≡ three g₁ g₂ g₃ m queue s t =
    (λ j. record { monitor = l₃.0 j; room = l₃.1 j })
    ∙ (λ j. advance_if g₃ (l₂.0 j) (l₂.1 j) t)
    ∙ (λ j. let y = reply_if g₂ (l₁.0 j) (l₁.1 j) s in advance_if g₃ y.monitor y.room t) in
    let flags : three g₁ g₂ g₃ m queue s t ≡ three (goes_on 1 w r part.go) (goes_on 2 w r part.go) (goes_on 4 w r part.go) (monitor_of w) queue (sequence_of r) (time_of r) = λ j. three (e₁ j) (e₂ j) (e₃ j) (em j) queue (es j) (et j) in
    let all : x ≡ three_of k r =
    last ∙ flags ∙ ap (λ (p : Parted). three (goes_on 1 w r p.part.go) (goes_on 2 w r p.part.go) (goes_on 4 w r p.part.go) (monitor_of w) queue (sequence_of r) (time_of r)) parts in
    let stands : standing_of (link_at ledger' step.watch) queue₃ left ≡ joined w r (parted part (ledger_at ledger') left) x = λ j. standing_of (link_at ledger' (eq.0 j)) queue₃ left in
    record {
      stands = stands ∙ (λ j. joined w r (parts j) (all j)) ∙ joins w (ledger_at ledger) k.rooms queue r ∙ ap (after_read k) er.0;
      refused = eq.1 ∙ ap (λ (p : Parted). p.part.refused) parts ∙ numbers k r ∙ ap (refuses_read k) er.0;
    }
