-- `advance` and `idle` of a host are the library's on the link that the words say; without a monitor they do nothing.
-- Assumes nothing.
use Rattle.std.specs.Prelude.{Some}
use mathlib.Core.Path.{◌≡◌, refl, ◌∙◌}
use mathlib.Core.Bool.{Bool, true, false}
use mathlib.Core.List.{List}
use Prim.Native.Nat.{ℕ}
use lib.Dec.{eqb}
use lib.ListN.{length}
use Rattle.limits.specs.Limits.{capacity}
use Rattle.probe_queue.specs.declared.QueuedProbe.{QueuedProbe}
use Rattle.probe_queue.specs.Queue.{choose}
use Rattle.monitor.specs.declared.Monitor.{Monitor}
use Rattle.monitor.specs.Refusals.{refusal_of}
use Rattle.monitor.specs.Operations.{idle_on}
use Rattle.ledger_steps.specs.Rooms.{Rooms}
use Rattle.link_steps.specs.Steps.{standing, idle_by, refuses, after}
use Rattle.host_ledger.specs.Words.{ledger_at}
use Rattle.host_monitor_words.specs.Words.{monitor_at}
use Rattle.host_monitor.proofs.Determined.{advance-number, idle-number}
use Rattle.host_monitor.proofs.Standing.{advance_stands, idle_stands}
use Rattle.host_link_history.specs.Hosted.{HostWatch, alone, watching, host_link, advance, idle, play_host}
use Rattle.host_link_history.proofs.Agreeing.{Agrees}

pub advance_agrees : (ledger : List ℕ) → length ledger ≡ 80 → (v : HostWatch) (rooms : Rooms) (queue : List QueuedProbe) (time : ℕ) → Agrees (host_link ledger v rooms queue) (advance time)
unfolding play_host refuses after
advance_agrees ledger long alone rooms queue time = (refl, refl, long)
advance_agrees ledger long (watching words) rooms queue time =
    let s = advance_stands words queue time in
    (advance-number words queue time, (λ i. standing (ledger_at ledger) rooms (record { watch = Some (s.0 i); queue = s.1 i })), long)

idle-by : (b : Bool) (m : Monitor) → choose b (idle_on m) m ≡ idle_by b m
idle-by true m = refl
idle-by false m = refl

pub idle_agrees : (ledger : List ℕ) → length ledger ≡ 80 → (v : HostWatch) (rooms : Rooms) (queue : List QueuedProbe) → Agrees (host_link ledger v rooms queue) idle
unfolding play_host refuses after
idle_agrees ledger long alone rooms queue = (refl, refl, long)
idle_agrees ledger long (watching words) rooms queue =
    let e = idle_stands words ∙ idle-by (eqb (refusal_of (monitor_at words) capacity) 0) (monitor_at words) in
    (idle-number words, (λ i. standing (ledger_at ledger) rooms (record { watch = Some (e i); queue = queue })), long)
