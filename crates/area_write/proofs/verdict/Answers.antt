use mathlib.Core.Path.{sym, ap, ◌∙◌}
use Prim.Native.Nat.{ℕ}
use native.Mathlib.Omega.{arith}
use Rattle.area_items.specs.Items.{fits}
use Rattle.area_write.specs.Write.{kind_of}
use Rattle.area_write.proofs.Laws.{past_end, right, wrong}
use Rattle.area_write.proofs.verdict.Goals as goal

pub returns-then-values-end : goal.returns-then-values-end
returns-then-values-end c = past_end c.args.values.now c.args.word (omega (arith, c.place_of.ensures.0, c.length_of-size.ensures.0))

pub returns-then-length_fits : goal.returns-then-length_fits
returns-then-length_fits c =
    let a = c.args in
    right a.values.now a.word (omega (arith, c.place_of.ensures.0, c.length_of-size.ensures.0))
    (sym (ap (λ (n : ℕ). fits n c.length_of-size.result) c.kind_of.ensures ∙ ap (fits (kind_of a.word)) c.length_of-size.ensures.0) ∙ sym c.length_fits.ensures ∙ c.if-length_fits.true)

pub returns : goal.returns
returns c =
    let a = c.args in
    wrong a.values.now a.word (omega (arith, c.place_of.ensures.0, c.length_of-size.ensures.0))
    (sym (ap (λ (n : ℕ). fits n c.length_of-size.result) c.kind_of.ensures ∙ ap (fits (kind_of a.word)) c.length_of-size.ensures.0) ∙ sym c.length_fits.ensures ∙ c.if-length_fits.false)
