use mathlib.Core.Path.{sym, subst}
use Prim.Native.Nat.{ℕ, ◌<◌}
use Rattle.limits.specs.Limits.{capacity, most_calls}
use Rattle.chains.specs.Rings.{RingFits}
use Rattle.probe_ring.specs.Rooms.{outcome}
use Rattle.host_ledger.specs.Words.{ledger_at}
use Rattle.host_accept_words.proofs.Stores.{calls_stay, unique-stored}
use Rattle.host_accept_words.proofs.Steps.{unique-left}
use Rattle.host_accept_words.proofs.unique_ready.Goals as goal

pub count-requires : goal.count-requires
unfolding ledger_at
count-requires c = c.requires.0.counts.replies_in

pub accept_key-next-requires : goal.accept_key-next-requires
accept_key-next-requires c =
    let s = c.requires.0 in
    (s.keys_size, s.slots_size, s.links_size, subst (RingFits capacity) (sym c.keys_ring-ring.ensures) s.rings.keys_ring)

pub store_rings-requires : goal.store_rings-requires
unfolding ledger_at
store_rings-requires c =
    subst (λ (n : ℕ). n < most_calls) (sym (calls_stay c.args.ledger.now _ _ c.count.ensures)) c.requires.0.counts.calls-below

pub returns : goal.returns
returns c =
    let a = c.args in
    let replied = c.reply_to-replied.ensures in
    unique-left a.ledger.now a.secret c.requires.1 a.keys.now a.slots.now a.reply (outcome a.probes.now a.links.now a.ready) _ _ _ _ _ _ _
    c.keys_ring-ring.ensures replied.0 replied.1 replied.2 c.accept_key-next.ensures
    (unique-stored a.ledger.now _ _ a.reply _ _ _ _ _ _ c.is_pending.ensures c.count.ensures c.store_rings.ensures)
    c.accepted_words.ensures
