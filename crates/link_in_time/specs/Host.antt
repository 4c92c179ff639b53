-- A host's calls, each given the words and rooms that the last one left: of a monitor alone, and of a link with a monitor.
-- Assumes nothing.
use Rattle.std.specs.Prelude.{Some}
use Rattle.monitor_model.specs.Playing.{Call}
use Rattle.monitor_in_time.specs.Calls.{Monitored}
use Rattle.monitor_in_time.specs.Core.{seen_stand}
use Rattle.link_history.specs.Fresh.{Fits}
use Rattle.host_monitor_model.specs.Hosted.{Lent, said, play_host}
use Rattle.host_link_history.specs.Hosted.{HostLink, HostCall, told, Typed}
use Rattle.host_link_history.specs.Hosted as hosted
use Rattle.link_in_time.specs.Link.{link}

-- `ambrulicciu_monitor_sent`, `_reply`, `_advance` and `_idle`, on the monitor that the words say
abbrev pub host_monitor : Monitored Call Lent
host_monitor = record { number = λ x c. (play_host c x).number; after = λ x c. (play_host c x).lent; drives = λ x c. Some c; seen = λ x. seen_stand (said x) }

-- `ambrulicciu_watched_sent`, `_watched_accept`, `_observe`, `_monitor_advance` and `_monitor_idle`, on the link that the words say
abbrev pub host_link : Monitored HostCall HostLink
host_link = record {
  number = λ x c. (hosted.play_host x c).number;
  after = λ x c. (hosted.play_host x c).next;
  drives = λ x c. link.drives (hosted.said x) (told c);
  seen = λ x. link.seen (hosted.said x);
}

-- the numbers of a call fit their types, which a host cannot break
abbrev pub HostFits : HostCall → Type 0
HostFits c = Typed c × Fits (told c)
