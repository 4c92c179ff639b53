use mathlib.Core.Path.{◌≡◌, refl, sym, ap, ◌∙◌}
use Prim.Native.Nat.{ℕ, ◌+◌, ◌*◌, ◌<◌}
use native.Mathlib.Omega.{arith}
use Rattle.thousandths.proofs.Places.{stays, carries, quotient, rest}
use Rattle.thousandths.proofs.tenfold.Goals as goal
use Rattle.thousandths.proofs.tenfold.Goals.{then-sum-left, else-sum-left}

pub loop-turn-init : goal.loop-turn-init
loop-turn-init c = omega arith

pub loop-turn-preserved : goal.loop-turn-preserved
loop-turn-preserved c = let l = c.loop-turn in (
  refl,
  elim c.if-sum-left.branch [ then-sum-left w ↦ omega arith | else-sum-left w ↦ omega arith ],
  elim c.if-sum-left.branch [ then-sum-left w ↦ omega arith | else-sum-left w ↦ omega arith ],
  elim c.if-sum-left.branch [
    | then-sum-left w ↦ stays l._turn c.args.rest l.whole c.args.divisor l.sum l.invariant.3 ∙ sym (λ i. w.whole-is i * c.args.divisor + w.sum-is i)
    | else-sum-left w ↦ carries l._turn c.args.rest l.whole c.args.divisor l.sum l.invariant.3 c.requires w.if-sum-left.false ∙ sym (λ i. w.whole-is i * c.args.divisor + w.sum-is i)
  ],
)

pub returns : goal.returns
returns c =
    let l = c.loop-turn in
    let ten : l._turn ≡ 10 = omega arith in
    let e : 10 * c.args.rest ≡ l.whole * c.args.divisor + l.sum = ap (λ (n : ℕ). n * c.args.rest) (sym ten) ∙ l.invariant.3 in
    let h : l.sum < c.args.divisor = omega arith in (
      quotient _ l.whole c.args.divisor l.sum e h,
      rest _ l.whole c.args.divisor l.sum e h,
      omega arith,
      h,
    )
