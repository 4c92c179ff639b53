-- A host's calls of the monitor one after another, each given the words and the queue that the last one left.
-- Assumes nothing.
use Rattle.std.specs.Prelude.{List, [], ◌∷◌, ℕ, ◌<◌, ◌^◌}
use Rattle.probe_queue.specs.declared.QueuedProbe.{QueuedProbe}
use Rattle.monitor.specs.Operations.{MonitorStand}
use Rattle.monitor_model.specs.Playing.{Call, sending, replying, advancing, idling}
use Rattle.host_monitor_words.specs.Words.{monitor_at}
use Rattle.host_monitor.specs.Calls.{Left, fresh_to, sent_to, reply_to, advance_to, idle_to}

-- what the host lends
pub record Lent : Type 0 where
  pub words : List ℕ
  pub queue : List QueuedProbe

-- what it says: a monitor with its room
abbrev pub said : Lent → MonitorStand
said x = record { monitor = monitor_at x.words; room = x.queue }

-- a call's number, and what stands after it
pub record HostStep : Type 0 where
  pub number : ℕ
  pub lent : Lent

-- what a call left, as a step
abbrev pub stepped : Left → HostStep
stepped x = record { number = x.number; lent = record { words = x.words; queue = x.queue } }

-- one call on what is lent; `idle` is not lent the queue, which stays as it is
unfoldable pub play_host : Call → Lent → HostStep
play_host (sending s t) x = stepped (sent_to x.words x.queue s t)
play_host (replying s) x = stepped (reply_to x.words x.queue s)
play_host (advancing t) x = stepped (advance_to x.words x.queue t)
play_host idling x = record { number = (idle_to x.words).number; lent = record { words = (idle_to x.words).words; queue = x.queue } }

-- the numbers of all calls
unfoldable pub host_numbers : List Call → Lent → List ℕ
host_numbers [] x = []
host_numbers (c ∷ cs) x = (play_host c x).number ∷ host_numbers cs (play_host c x).lent

-- what stands after all calls
unfoldable pub host_after : List Call → Lent → Lent
host_after [] x = x
host_after (c ∷ cs) x = host_after cs (play_host c x).lent

-- a fresh monitor's words, with any queue
abbrev pub begun : ℕ → ℕ → List QueuedProbe → Lent
begun threshold timeout queue = record { words = (fresh_to threshold timeout).words; queue = queue }

-- the sequence of a call fits its type, which a host cannot break
abbrev pub Typed : Call → Type 0
Typed (sending s t) = s < 2 ^ 32
Typed (replying s) = Unit {0}
Typed (advancing t) = Unit {0}
Typed idling = Unit {0}

-- the same of every call of a list
abbrev pub AllTyped : List Call → Type 0
AllTyped [] = Unit {0}
AllTyped (c ∷ cs) = Typed c × AllTyped cs
