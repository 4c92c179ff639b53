-- A host's calls one after another, refused ones included, each given what the last one left: the words and rooms say the link that the library's own calls
-- leave, and each number is the library's.
-- Assumes nothing.
use mathlib.Core.Path.{◌≡◌, refl, ap, ◌∙◌}
use mathlib.Core.List.{List, [], ◌∷◌, map}
use Prim.Native.Nat.{ℕ}
use lib.ListN.{length}
use Rattle.link_steps.specs.Steps.{LinkStand, refuses, after, played}
use Rattle.host_link_history.specs.Hosted.{HostLink, HostCall, sent, accept, observe, advance, idle, said, told, play_host, host_played, Typed, AllTyped}
use Rattle.host_link_history.proofs.Agreeing.{Agrees}
use Rattle.host_link_history.proofs.Sent.{sent_agrees}
use Rattle.host_link_history.proofs.Accept.{accept_agrees}
use Rattle.host_link_history.proofs.Observe.{observe_agrees}
use Rattle.host_link_history.proofs.Watch.{advance_agrees, idle_agrees}

-- ---- one call
pub agrees : (x : HostLink) (c : HostCall) → length x.ledger ≡ 80 → Typed c → Agrees x c
agrees x (sent sequence ordinal train time tag) long h = sent_agrees x.ledger long x.watch x.rooms x.queue sequence ordinal train time tag h
agrees x (accept sender reflector t3 pending time tag) long h = accept_agrees x.ledger long x.watch x.rooms x.queue sender reflector t3 pending time tag h
agrees x (observe words) long h = observe_agrees x.ledger long x.watch x.rooms x.queue words h
agrees x (advance time) long h = advance_agrees x.ledger long x.watch x.rooms x.queue time
agrees x idle long h = idle_agrees x.ledger long x.watch x.rooms x.queue

-- ---- all calls, newest first
pub played_agrees : (x : HostLink) → length x.ledger ≡ 80 → (cs : List HostCall) → AllTyped cs → (said (host_played x cs) ≡ played (said x) (map told cs)) × (length (host_played x cs).ledger ≡ 80)
unfolding host_played played
played_agrees x long [] t = (refl, long)
played_agrees x long (c ∷ cs) t =
    let r = played_agrees x long cs t.1 in
    let a = agrees (host_played x cs) c r.1 t.0 in
    (a.1 ∙ ap (λ (k : LinkStand). after k (told c)) r.0, a.2)

-- the number of the next call is the library's
pub number_agrees : (x : HostLink) → length x.ledger ≡ 80 → (cs : List HostCall) → AllTyped cs → (c : HostCall) → Typed c
    → (play_host (host_played x cs) c).number ≡ refuses (played (said x) (map told cs)) (told c)
number_agrees x long cs t c h =
    let r = played_agrees x long cs t in
    (agrees (host_played x cs) c r.1 h).0 ∙ ap (λ (k : LinkStand). refuses k (told c)) r.0
