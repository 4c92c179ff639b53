-- What the types of a host's numbers say: each fits its bits, which a host cannot break. Assumes nothing.
use Rattle.std.specs.Prelude.{List, [], ◌∷◌, ℕ, ◌<◌, ◌^◌, get_or}
use Rattle.monitor_model.specs.Playing as monitor
use Rattle.host_link_history.specs.Hosted.{HostCall, sent, accept, observe, advance, idle}
use Rattle.host_mixed_history.specs.Hosted.{MixedHostCall, watched, plain, alone}

-- of a call on a link: u32 sequence, ordinal, train, sender, reflector, pending and each word of an observation; u64 the rest
abbrev pub NumbersFit : HostCall → Type 0
NumbersFit (sent sequence ordinal train time tag) = (sequence < 2 ^ 32) × (ordinal < 2 ^ 32) × (train < 2 ^ 32) × (time < 2 ^ 64) × (tag < 2 ^ 64)
NumbersFit (accept sender reflector t3 pending time tag) = (sender < 2 ^ 32) × (reflector < 2 ^ 32) × (t3 < 2 ^ 64) × (pending < 2 ^ 32) × (time < 2 ^ 64) × (tag < 2 ^ 64)
NumbersFit (observe words) = (i : ℕ) → get_or words i 0 < 2 ^ 32
NumbersFit (advance time) = time < 2 ^ 64
NumbersFit idle = Unit {0}

-- of a call of the monitor alone: u32 sequence, u64 time
abbrev pub MonitorNumbersFit : monitor.Call → Type 0
MonitorNumbersFit (monitor.sending sequence time) = (sequence < 2 ^ 32) × (time < 2 ^ 64)
MonitorNumbersFit (monitor.replying sequence) = sequence < 2 ^ 32
MonitorNumbersFit (monitor.advancing time) = time < 2 ^ 64
MonitorNumbersFit monitor.idling = Unit {0}

-- of a call of any kind
abbrev pub AnyNumbersFit : MixedHostCall → Type 0
AnyNumbersFit (watched c) = NumbersFit c
AnyNumbersFit (plain c) = NumbersFit c
AnyNumbersFit (alone c) = MonitorNumbersFit c

-- of all of them
unfoldable pub AllNumbersFit : List MixedHostCall → Type 0
AllNumbersFit [] = Unit {0}
AllNumbersFit (c ∷ cs) = AnyNumbersFit c × AllNumbersFit cs
