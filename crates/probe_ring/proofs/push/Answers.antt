use mathlib.Core.Path.{sym}
use native.Mathlib.Omega.{arith}
use Rattle.chains.proofs.Tests.{lt_true, lt_false}
use Rattle.probe_ring.proofs.push.Goals as goal

-- Assumes nothing.
pub push_when-requires : goal.push_when-requires
push_when-requires c =
    let ring = c.args.ring in
    let pre = c.requires in
    let short = c.if-ring-lt-CAPACITY.true in
    (sym (lt_false 4095 ring.len (omega (arith, short))), pre.0, pre.1, pre.2)

pub push_when-requires-2 : goal.push_when-requires-2
push_when-requires-2 c =
    let ring = c.args.ring in
    let pre = c.requires in
    let full = c.if-ring-lt-CAPACITY.false in
    (sym (lt_true 4095 ring.len (omega (arith, full))), pre.0, pre.1, pre.2)
