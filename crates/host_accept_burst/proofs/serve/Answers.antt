use Prim.Native.Nat.{◌-◌}
use native.Mathlib.Omega.{arith}
use Rattle.host_accept_burst.proofs.Serving.{begins, not_refused, serves_on, all_served}
use Rattle.host_accept_burst.proofs.serve.Goals as goal

pub loop-i-init : goal.loop-i-init
loop-i-init c =
    let a = c.args in
    begins a.ledger.now a.keys.now a.slots.now a.probes.now a.links.now a.entries.now a.count a.answers.now _ c.counted.ensures c.lasts-sure.ensures

pub serve_entry-requires : goal.serve_entry-requires
serve_entry-requires c =
    let a = c.args in
    let l = c.loop-i in
    not_refused a.ledger.now a.keys.now a.slots.now a.probes.now a.links.now a.entries.now a.count a.answers.now _ l.i l.ledger l.keys l.slots l.probes l.links l.answers l.invariant c.loop-i-test.true

pub loop-i-preserved : goal.loop-i-preserved
loop-i-preserved c =
    let a = c.args in
    let l = c.loop-i in
    let k = c.serve_entry in
    serves_on a.ledger.now a.keys.now a.slots.now a.probes.now a.links.now a.entries.now a.count a.answers.now _ l.i l.ledger l.keys l.slots l.probes l.links l.answers l.invariant c.loop-i-test.true _ _ _ _ _ _
    k.ensures k.auto.keys k.auto.slots k.auto.probes k.auto.links k.auto.answers

pub shape_of-keys : goal.shape_of-keys
shape_of-keys c = c.loop-i.invariant.keys_long

pub shape_of-slots : goal.shape_of-slots
shape_of-slots c = c.loop-i.invariant.slots_long

pub shape_of-probes : goal.shape_of-probes
shape_of-probes c = c.loop-i.invariant.probes-long

pub shape_of-links : goal.shape_of-links
shape_of-links c = c.loop-i.invariant.links_long

pub shape_of-answers : goal.shape_of-answers
shape_of-answers c = c.loop-i.invariant.answers_long

pub returns : goal.returns
returns c =
    let a = c.args in
    let l = c.loop-i in
    all_served a.ledger.now a.keys.now a.slots.now a.probes.now a.links.now a.entries.now a.count a.answers.now _ l.i l.ledger l.keys l.slots l.probes l.links l.answers l.invariant c.loop-i-test.false
