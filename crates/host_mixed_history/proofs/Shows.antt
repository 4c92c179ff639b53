-- A host's words and rooms after any sequence of calls, of the ledger alone, with the monitor and of the monitor alone, say the link that the library's
-- calls leave, and show what the served calls call for.
-- Assumes nothing.
use mathlib.Core.Path.{◌≡◌, refl, sym, ap, ◌∙◌, subst}
use mathlib.Core.List.{List, [], ◌∷◌, map}
use Prim.Native.Nat.{ℕ}
use lib.ListN.{length}
use Rattle.ledger_steps.specs.Rooms.{Rooms}
use Rattle.probe_queue.specs.declared.QueuedProbe.{QueuedProbe}
use Rattle.monitor.specs.Operations.{MonitorStand}
use Rattle.monitor_model.specs.Playing as monitor
use Rattle.history.specs.Ledger.{copies_of}
use Rattle.link_steps.specs.Steps.{LinkStand, refuses, after}
use Rattle.link_history.specs.Fresh.{Making, MakingFits, fresh_link}
use Rattle.link_mixed_history.specs.Mixed.{number_of, leaves, mixed_played, ledger_served, monitor_served}
use Rattle.link_mixed_history.specs.Mixed as mixed
use Rattle.link_mixed_history.specs.Shows.{MixedShows, AllMixedFit}
use Rattle.link_mixed_history.proofs.Whole.{mixed-shows}
use Rattle.host_ledger.specs.Words.{ledger_at}
use Rattle.host_link_history.specs.Hosted.{HostWatch, HostLink, HostCall, HostFits, host_link, said, told, play_host, host_fresh}
use Rattle.host_link_history.specs.Hosted as link
use Rattle.host_link_history.proofs.Link as call
use Rattle.host_link_history.proofs.Shows.{begins, long}
use Rattle.host_monitor_model.proofs.Follows as monitor_call
use Rattle.host_monitor_model.specs.Hosted as host_monitor
use Rattle.host_mixed_history.specs.Hosted.{MixedHostCall, watched, plain, alone, mixed_told, unwatched, beside, plays, play_mixed, host_mixed_played, MixedTyped, AllMixedTyped}

-- as many words as a ledger has
abbrev Long : HostLink → Type 0
Long x = length x.ledger ≡ 80

-- its number is the library's, and the words that it leaves say what the library's call leaves
abbrev Agrees : HostLink → MixedHostCall → Type 0
Agrees x c = ((play_mixed x c).number ≡ number_of (said x) (mixed_told c)) × (said (play_mixed x c).next ≡ leaves (said x) (mixed_told c)) × Long (play_mixed x c).next

-- a call of the monitor alone
alone_agrees : (ledger : List ℕ) → length ledger ≡ 80 → (v : HostWatch) (rooms : Rooms) (queue : List QueuedProbe) (c : monitor.Call) → host_monitor.Typed c
    → Agrees (host_link ledger v rooms queue) (alone c)
unfolding play_mixed number_of leaves
alone_agrees ledger l link.alone rooms queue c h = (refl, refl, l)
alone_agrees ledger l (link.watching words) rooms queue c h =
    let a = monitor_call.agrees c (record { words = words; queue = queue }) h in
    (a.0, ap (λ (y : MonitorStand). mixed.with_monitor (said (host_link ledger (link.watching words) rooms queue)) y) a.1, l)

-- one call
pub agrees : (x : HostLink) (c : MixedHostCall) → Long x → MixedTyped c → Agrees x c
unfolding play_mixed number_of leaves
agrees x (watched c) l h = call.agrees x c l h
agrees x (plain c) l h =
    let a = call.agrees (unwatched x) c l h in
    (a.0, ap (λ (y : LinkStand). mixed.beside y (said x)) a.1, a.2)
agrees x (alone c) l h = alone_agrees x.ledger l x.watch x.rooms x.queue c h

-- all calls, newest first
pub mixed_agrees : (x : HostLink) → Long x → (cs : List MixedHostCall) → AllMixedTyped cs
    → (said (host_mixed_played x cs) ≡ mixed_played (said x) (map mixed_told cs)) × Long (host_mixed_played x cs)
unfolding host_mixed_played mixed_played AllMixedTyped
mixed_agrees x l [] t = (refl, l)
mixed_agrees x l (c ∷ cs) t =
    let r = mixed_agrees x l cs t.1 in
    let a = agrees (host_mixed_played x cs) c r.1 t.0 in
    (a.1 ∙ ap (λ (k : LinkStand). leaves k (mixed_told c)) r.0, a.2)

-- the number of the next call is the library's
pub mixed-number_agrees : (x : HostLink) → Long x → (cs : List MixedHostCall) → AllMixedTyped cs → (c : MixedHostCall) → MixedTyped c
    → (play_mixed (host_mixed_played x cs) c).number ≡ number_of (mixed_played (said x) (map mixed_told cs)) (mixed_told c)
mixed-number_agrees x l cs t c h =
    let r = mixed_agrees x l cs t in
    (agrees (host_mixed_played x cs) c r.1 h).0 ∙ ap (λ (k : LinkStand). number_of k (mixed_told c)) r.0

-- THE THEOREM. Whatever the words, the rooms and the queue held before, whatever a host calls on them, each call of the ledger alone, with the monitor or of
-- the monitor alone, and whatever is refused: what its words and rooms then say is what the calls that ledger and monitor were served call for.
pub any_calls-show : (m : Making) → MakingFits m → HostFits m → (cs : List MixedHostCall) → AllMixedTyped cs → AllMixedFit (map mixed_told cs)
    → MixedShows (copies_of m.copies) m.monitor (ledger_served (fresh_link m) (map mixed_told cs)) (monitor_served (fresh_link m) (map mixed_told cs))
    (said (host_mixed_played (host_fresh m) cs))
any_calls-show m ok fits cs t w =
    let r = mixed_agrees (host_fresh m) (long m) cs t in
    subst
    (λ (k : LinkStand). MixedShows (copies_of m.copies) m.monitor (ledger_served (fresh_link m) (map mixed_told cs)) (monitor_served (fresh_link m) (map mixed_told cs)) k)
    (sym (r.0 ∙ ap (λ (k : LinkStand). mixed_played k (map mixed_told cs)) (begins m ok fits))) (mixed-shows m ok (map mixed_told cs) w)
