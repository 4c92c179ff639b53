use mathlib.Core.Path.{sym, subst}
use Rattle.limits.specs.Limits.{capacity}
use Rattle.chains.specs.Rings.{RingFits}
use Rattle.host_accept_words.proofs.Steps.{unique_as}
use borrow.Author.Rules.{rules}
use Rattle.host_accept_words.proofs.unique.Goals as goal

pub ready_probe-ready-requires : goal.ready_probe-ready-requires
ready_probe-ready-requires c =
    let s = c.requires.0 in
    (s.probes_size, s.links_size, subst (RingFits capacity) (sym c.probes_ring-ring.ensures) s.rings.probes_ring)

pub unique_ready-requires : goal.unique_ready-requires
unique_ready-requires c =
    let s = c.requires.0 in
    (record { keys_size = s.keys_size; slots_size = s.slots_size; probes_size = search rules; links_size = search rules; rings = s.rings; counts = s.counts }, c.requires.1, c.ready_probe-ready.ensures.2)

pub returns : goal.returns
returns c =
    let a = c.args in
    unique_as a.ledger.now a.secret c.requires.1 a.keys.now a.slots.now a.reply a.probes.now a.links.now _ a.slot _ _
    c.probes_ring-ring.ensures c.ready_probe-ready.ensures.0 c.unique_ready.ensures
