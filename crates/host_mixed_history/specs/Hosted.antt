-- The exported calls on one link's memory, as the host mixes them: `ambrulicciu_watched_sent` and `_watched_accept` with the monitor; `ambrulicciu_sent`,
-- `_accept` and `_observe` without it; `ambrulicciu_monitor_sent`, `_monitor_reply`, `_monitor_advance` and `_monitor_idle` of the monitor alone.
-- Assumes nothing.
use Rattle.std.specs.Prelude.{List, [], ◌∷◌, ℕ}
use Rattle.probe_queue.specs.declared.QueuedProbe.{QueuedProbe}
use Rattle.monitor_model.specs.Playing as monitor
use Rattle.link_mixed_history.specs.Mixed.{MixedCall}
use Rattle.link_mixed_history.specs.Mixed as mixed
use Rattle.host_link_history.specs.Hosted.{HostWatch, HostLink, HostCall, HostStep, host_link, step, told, play_host, Typed}
use Rattle.host_link_history.specs.Hosted as link
use Rattle.host_monitor_model.specs.Hosted as host_monitor

-- a call of the host on a link's memory
pub data MixedHostCall : Type 0 where
  watched : HostCall → MixedHostCall
  plain : HostCall → MixedHostCall
  alone : monitor.Call → MixedHostCall

-- the call that it says
abbrev pub mixed_told : MixedHostCall → MixedCall
mixed_told (watched c) = mixed.watched (told c)
mixed_told (plain c) = mixed.plain (told c)
mixed_told (alone c) = mixed.alone c

-- what a call without the monitor is lent: the words of the ledger and its rooms
abbrev pub unwatched : HostLink → HostLink
unwatched x = host_link x.ledger link.alone x.rooms []

-- what it leaves: the monitor's words and the queue are not lent, and stay
abbrev pub beside : HostLink → HostLink → HostLink
beside l x = host_link l.ledger x.watch l.rooms x.queue

-- a call of the monitor alone: the ledger is not lent, and stays; a link without a monitor has no words to lend
abbrev pub plays : HostWatch → HostLink → monitor.Call → HostStep
plays link.alone x c = step 0 (host_link x.ledger link.alone x.rooms x.queue)
plays (link.watching words) x c =
    let r = host_monitor.play_host c (record { words = words; queue = x.queue }) in
    step r.number (host_link x.ledger (link.watching r.lent.words) x.rooms r.lent.queue)

-- one call of any kind
unfoldable pub play_mixed : HostLink → MixedHostCall → HostStep
play_mixed x (watched c) = play_host x c
play_mixed x (plain c) = step (play_host (unwatched x) c).number (beside (play_host (unwatched x) c).next x)
play_mixed x (alone c) = plays x.watch x c

-- calls one after the other, newest first
unfoldable pub host_mixed_played : HostLink → List MixedHostCall → HostLink
host_mixed_played x [] = x
host_mixed_played x (c ∷ cs) = (play_mixed (host_mixed_played x cs) c).next

-- the numbers fit their types, which a host cannot break
abbrev pub MixedTyped : MixedHostCall → Type 0
MixedTyped (watched c) = Typed c
MixedTyped (plain c) = Typed c
MixedTyped (alone c) = host_monitor.Typed c

-- of every call
unfoldable pub AllMixedTyped : List MixedHostCall → Type 0
AllMixedTyped [] = Unit {0}
AllMixedTyped (c ∷ cs) = MixedTyped c × AllMixedTyped cs
