use mathlib.Core.Path.{sym, ◌∙◌}
use native.Mathlib.Omega.{arith}
use Rattle.area_write.proofs.Laws.{good, byte_reserved, byte_seven, byte-other}
use Rattle.area_write.proofs.value_byte.Goals as goal

pub returns-then-at-gt12 : goal.returns-then-at-gt12
returns-then-at-gt12 c =
    byte_reserved c.args.values.now c.args.word c.requires.0 c.args.at (sym c.kind_of.ensures ∙ c.if-kind_of-eq7.true) (omega arith)

pub bounds-values-from : goal.bounds-values-from
bounds-values-from c =
    omega (arith, (good c.args.values.now c.args.word c.requires.0).0, c.place_of.ensures.0, c.requires.1)

pub returns-then-kind_of-eq7 : goal.returns-then-kind_of-eq7
returns-then-kind_of-eq7 c =
    byte_seven c.args.values.now c.args.word c.requires.0 c.args.at _ (sym c.kind_of.ensures ∙ c.if-kind_of-eq7.true) (omega arith) c.place_of.ensures.0

pub bounds-values-from-2 : goal.bounds-values-from-2
bounds-values-from-2 c =
    omega (arith, (good c.args.values.now c.args.word c.requires.0).0, c.place_of.ensures.0, c.requires.1)

pub returns : goal.returns
returns c =
    byte-other c.args.values.now c.args.word c.requires.0 c.args.at _ (λ k. c.if-kind_of-eq7.false (c.kind_of.ensures ∙ k)) c.requires.1 c.place_of.ensures.0
