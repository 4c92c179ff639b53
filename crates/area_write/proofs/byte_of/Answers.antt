use mathlib.Core.Path.{◌≡◌, ap, ◌∙◌}
use Prim.Native.Nat.{ℕ, ◌+◌, ◌-◌}
use native.Mathlib.Omega.{arith}
use lib.ListN.{get_or}
use Rattle.area_write.proofs.Laws.{wire, byte_zero, byte_one, byte_two, byte_three}
use Rattle.area_write.proofs.byte_of.Goals as goal

pub returns-then-at-eq0 : goal.returns-then-at-eq0
returns-then-at-eq0 c =
    byte_zero c.args.values.now c.args.word c.requires.0 c.args.at _ c.if-at-eq0.true c.flags_of.ensures

pub returns-then-at-eq1 : goal.returns-then-at-eq1
returns-then-at-eq1 c =
    byte_one c.args.values.now c.args.word c.requires.0 c.args.at _ c.if-at-eq1.true c.kind_of.ensures

pub returns-then-at-eq2 : goal.returns-then-at-eq2
returns-then-at-eq2 c =
    byte_two c.args.values.now c.args.word c.requires.0 c.args.at _ c.if-at-eq2.true c.length_of-size.ensures.0

pub returns-then-at-eq3 : goal.returns-then-at-eq3
returns-then-at-eq3 c =
    byte_three c.args.values.now c.args.word c.requires.0 c.args.at _ c.if-at-eq3.true c.length_of-size.ensures.0

pub returns : goal.returns
returns c =
    let e : c.args.at - 4 + 4 ≡ c.args.at = omega arith in
    c.value_byte.ensures ∙ ap (λ (n : ℕ). get_or (wire c.args.values.now c.args.word) n 0) e
