use mathlib.Core.Path.{refl, sym}
use native.Mathlib.Omega.{arith}
use Rattle.std.proofs.lemmas.Result.{err_from_is_err_and}
use Rattle.area_items.proofs.Laws.{good}
use Rattle.area_observation.proofs.Laws.{walk_from, walk-bad, walk_more, walk_all, safe_more}
use Rattle.area_observation.proofs.find.Goals as goal

pub loop-at-init : goal.loop-at-init
loop-at-init c = (omega arith, walk_from c.args.bytes.now, ((λ h. absurd (h refl)), (λ h. absurd (h refl))))

pub returns-in_err-verdict : goal.returns-in_err-verdict
returns-in_err-verdict c =
    let l = c.loop-at in
    let p = err_from_is_err_and c.from_residual.result c.from_residual.ensures.1 in
    rw (p.1, p.2) (walk-bad c.args.bytes.now l.at l.found l.invariant.1 (omega arith) _ c.in_err-verdict.ensures, tt)

pub bounds-bytes-at-in-loop-at : goal.bounds-bytes-at-in-loop-at
bounds-bytes-at-in-loop-at c = omega (arith, (good c.args.bytes.now c.loop-at.at (sym c.in_ok-verdict.ensures)).0)

pub overflow_add-at-in-loop-at : goal.overflow_add-at-in-loop-at
overflow_add-at-in-loop-at c = record { fits = omega (arith, (good c.args.bytes.now c.loop-at.at (sym c.in_ok-verdict.ensures)).0) }

pub end_of-at-requires : goal.end_of-at-requires
end_of-at-requires c = let g = good c.args.bytes.now c.loop-at.at (sym c.in_ok-verdict.ensures) in (g.0, g.1)

pub loop-at-preserved : goal.loop-at-preserved
loop-at-preserved c =
    let l = c.loop-at in
    let b = c.args.bytes.now in
    let n = c.noted-found in
    let g = good b l.at (sym c.in_ok-verdict.ensures) in (
      omega (arith, c.end_of-at.ensures, g.1),
      walk_more b l.at l.found l.invariant.1 (omega arith) c.in_ok-verdict.ensures n.result c.end_of-at.result n.ensures c.end_of-at.ensures,
      safe_more b l.at (sym c.in_ok-verdict.ensures) l.found n.result l.invariant.2 n.ensures,
    )

pub returns : goal.returns
returns c =
    let l = c.loop-at in
    (walk_all c.args.bytes.now l.at l.found l.invariant.1 (omega arith), l.invariant.2)
