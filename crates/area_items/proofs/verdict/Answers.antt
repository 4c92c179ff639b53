use mathlib.Core.Path.{sym, ap, ◌∙◌}
use native.Mathlib.Omega.{arith}
use Rattle.area_items.proofs.Laws.{no_header, no_value, right_length, wrong-length}
use Rattle.area_items.specs.Items.{kind_at, fits}
use Rattle.area_items.proofs.verdict.Goals as goal

pub returns-then-left-lt4 : goal.returns-then-left-lt4
returns-then-left-lt4 c = let a = c.args in no_header a.bytes.now a.at (omega arith)

pub returns-then-left-size : goal.returns-then-left-size
returns-then-left-size c =
    let a = c.args in
    no_value a.bytes.now a.at (omega arith) (omega (arith, c.u16_at-size.ensures))

pub returns-then-length_fits : goal.returns-then-length_fits
returns-then-length_fits c =
    let a = c.args in
    let size = c.u16_at-size in
    right_length a.bytes.now a.at (omega arith) (omega (arith, size.ensures))
    (ap (fits (kind_at a.bytes.now a.at)) (sym size.ensures) ∙ sym c.length_fits.ensures ∙ c.if-length_fits.true)

pub returns : goal.returns
returns c =
    let a = c.args in
    let size = c.u16_at-size in
    wrong-length a.bytes.now a.at (omega arith) (omega (arith, size.ensures))
    (ap (fits (kind_at a.bytes.now a.at)) (sym size.ensures) ∙ sym c.length_fits.ensures ∙ c.if-length_fits.false)
