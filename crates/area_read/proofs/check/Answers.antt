use mathlib.Core.Path.{sym, ap, ◌∙◌}
use Prim.Native.Nat.{ℕ, ◌+◌}
use native.Mathlib.Omega.{arith}
use Rattle.std.proofs.lemmas.Result.{err_from_is_err_and}
use Rattle.area_items.specs.Items.{rest_of}
use Rattle.area_items.proofs.Laws.{good}
use Rattle.area_read.specs.Read.{checked_of}
use Rattle.area_read.proofs.Laws.{later, counted_none, counted-bad, counted_more, counted_all}
use Rattle.area_read.proofs.check.Goals as goal

pub loop-at-init : goal.loop-at-init
loop-at-init c = (omega arith, omega arith, counted_none c.args.bytes.now)

pub returns-in_err-verdict : goal.returns-in_err-verdict
returns-in_err-verdict c =
    let l = c.loop-at in
    let p = err_from_is_err_and c.from_residual.result c.from_residual.ensures.1 in
    rw (p.1, p.2) (counted-bad c.args.bytes.now l.at l.count l.invariant.2 (omega arith) _ c.in_err-verdict.ensures)

pub end_of-at-requires : goal.end_of-at-requires
end_of-at-requires c = let g = good c.args.bytes.now c.loop-at.at (sym c.in_ok-verdict.ensures) in (g.0, g.1)

pub loop-at-preserved : goal.loop-at-preserved
loop-at-preserved c =
    let l = c.loop-at in
    let b = c.args.bytes.now in
    let g = good b l.at (sym c.in_ok-verdict.ensures) in (
      omega (arith, c.end_of-at.ensures, g.1),
      omega (arith, c.end_of-at.ensures),
      counted_more b l.at l.count l.invariant.2 (omega arith) c.in_ok-verdict.ensures ∙ ap (λ (n : ℕ). later (l.count + 1) (checked_of (rest_of b n))) (sym c.end_of-at.ensures),
    )

pub returns : goal.returns
returns c =
    let l = c.loop-at in
    counted_all c.args.bytes.now l.at l.count l.invariant.2 (omega arith)
