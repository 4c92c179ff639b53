-- Bursts among the calls of a link (document 02, Q-2: "demand 3 counts every entry as a call"): `ambrulicciu_watched_accept_burst` with the monitor and
-- `ambrulicciu_accept_burst` without it, between any of the single calls. What a burst does is what the contracts of the two calls say.
-- Assumes nothing.
use Rattle.std.specs.Prelude.{List, [], ◌∷◌, ℕ, zero, suc, length, get_or}
use Rattle.host_numbers.specs.Numbers.{lower, upper}
use Rattle.host_link_history.specs.Hosted.{HostWatch, HostLink, HostCall, HostStep, host_link, step, accept, accept_rooms}
use Rattle.host_link_history.specs.Hosted as link
use Rattle.host_burst.specs.Burst.{Listed, burst_refusal}
use Rattle.host_accept_burst.specs.Burst.{accept_burst}
use Rattle.host_accept_burst.specs.Burst as plain_burst
use Rattle.host_watched_accept_burst.specs.Burst.{watched_burst}
use Rattle.host_watched_accept_burst.specs.Burst as watch_burst
use Rattle.host_mixed_history.specs.Hosted.{MixedHostCall, watched, plain, unwatched, beside, play_mixed}

-- a call of the host: a single one of any kind, or a list of entries with its room for answers, with the monitor or without it
pub data BurstHostCall : Type 0 where
  single : MixedHostCall → BurstHostCall
  watched_list : (entries rows : List (List ℕ)) → BurstHostCall
  plain_list : (entries rows : List (List ℕ)) → BurstHostCall

-- ---- what it does

-- the link after `ambrulicciu_accept_burst`, which has no monitor: the queue stays
abbrev pub left_plain : HostLink → Listed plain_burst.Lent → HostStep
left_plain x r =
    step r.number
    (host_link r.burst.state.ledger link.alone (accept_rooms x.rooms r.burst.state.keys r.burst.state.slots r.burst.state.probes r.burst.state.links) x.queue)

-- the link after `ambrulicciu_watched_accept_burst`, with the monitor's words and the queue
abbrev pub left_watched : HostLink → Listed watch_burst.Lent → HostStep
left_watched x r =
    step r.number
    (host_link r.burst.state.ledger (link.watching r.burst.state.monitor) (accept_rooms x.rooms r.burst.state.keys r.burst.state.slots r.burst.state.probes r.burst.state.links) r.burst.state.queue)

-- the memory that `ambrulicciu_accept_burst` is lent
abbrev pub plain_lent : HostLink → plain_burst.Lent
plain_lent x = plain_burst.lent x.ledger x.rooms.keys x.rooms.slots x.rooms.probes x.rooms.links

-- the memory that `ambrulicciu_watched_accept_burst` is lent
abbrev pub watched_lent : List ℕ → HostLink → watch_burst.Lent
watched_lent words x = watch_burst.lent x.ledger words x.rooms.keys x.rooms.slots x.rooms.probes x.rooms.links x.queue

-- `ambrulicciu_accept_burst`, and `ambrulicciu_watched_accept_burst` where there is a monitor; the rows of its answers stand in no link
abbrev pub lists : HostWatch → HostLink → (entries rows : List (List ℕ)) → HostStep
lists link.alone x entries rows = left_plain x (accept_burst (plain_lent x) entries rows)
lists (link.watching words) x entries rows = left_watched x (watched_burst (watched_lent words x) entries rows)

-- one call of any kind
unfoldable pub play_burst : HostLink → BurstHostCall → HostStep
play_burst x (single c) = play_mixed x c
play_burst x (watched_list entries rows) = lists x.watch x entries rows
play_burst x (plain_list entries rows) =
    step (lists link.alone (unwatched x) entries rows).number (beside (lists link.alone (unwatched x) entries rows).next x)

-- calls one after the other, newest first
unfoldable pub host_burst_played : HostLink → List BurstHostCall → HostLink
host_burst_played x [] = x
host_burst_played x (c ∷ cs) = (play_burst (host_burst_played x cs) c).next

-- ---- every entry is a call

-- the single call of an entry, as the numbers that the host hands over
abbrev pub entry_call : List ℕ → HostCall
entry_call e = accept (lower (get_or e 1 0)) (upper (get_or e 1 0)) (get_or e 0 0) (get_or e 2 0) (get_or e 3 0) (get_or e 4 0)

-- the calls of a list before the calls cs, newest first
unfoldable pub entries_onto : (HostCall → MixedHostCall) → List (List ℕ) → List MixedHostCall → List MixedHostCall
entries_onto kind [] cs = cs
entries_onto kind (e ∷ entries) cs = entries_onto kind entries (kind (entry_call e) ∷ cs)

-- those of a list that is served: of one that is refused as a whole no entry is a call
abbrev pub list_onto : ℕ → (HostCall → MixedHostCall) → List (List ℕ) → List MixedHostCall → List MixedHostCall
list_onto zero kind entries cs = entries_onto kind entries cs
list_onto (suc n) kind entries cs = cs

-- one call, of a list its entries
abbrev pub singly : BurstHostCall → List MixedHostCall → List MixedHostCall
singly (single c) cs = c ∷ cs
singly (watched_list entries rows) cs = list_onto (burst_refusal (length entries) (length rows)) watched entries cs
singly (plain_list entries rows) cs = list_onto (burst_refusal (length entries) (length rows)) plain entries cs

-- all calls, of each list its entries: newest first
unfoldable pub all_singly : List BurstHostCall → List MixedHostCall
all_singly [] = []
all_singly (c ∷ cs) = singly c (all_singly cs)
