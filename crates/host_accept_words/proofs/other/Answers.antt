use mathlib.Core.Path.{sym, subst}
use Rattle.limits.specs.Limits.{capacity}
use Rattle.chains.specs.Rings.{RingFits}
use Rattle.host_ledger.specs.Parts.{replies_at}
use Rattle.host_ledger.specs.Words.{ledger_at}
use Rattle.host_accept_words.proofs.Steps.{other-unique, other-unknown}
use Rattle.host_accept_words.proofs.other.Goals as goal

pub returns-then-slot-is_pending : goal.returns-then-slot-is_pending
returns-then-slot-is_pending c =
    let a = c.args in
    other-unique a.ledger.now a.secret c.requires.1 a.keys.now a.slots.now a.probes.now a.links.now a.reply c.requires.2 _ _ _
    c.probes_ring-ring.ensures c.find-slot.ensures c.is_pending.ensures c.if-slot-is_pending.true _ c.unique.ensures

pub count_unknown-requires : goal.count_unknown-requires
unfolding ledger_at replies_at
count_unknown-requires c =
    let s = c.requires.0.counts in
    (s.calls-below, s.replies_in.totals.unknown)

pub returns : goal.returns
returns c =
    let a = c.args in
    other-unknown a.ledger.now a.secret c.requires.1 a.keys.now a.slots.now a.probes.now a.links.now a.reply c.requires.2 _ _ _
    c.probes_ring-ring.ensures c.find-slot.ensures c.is_pending.ensures c.if-slot-is_pending.false _ c.count_unknown.ensures
