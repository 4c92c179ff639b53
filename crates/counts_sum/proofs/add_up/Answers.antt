use Rattle.std.proofs.Common.{ℕ, ◌+◌, ◌*◌, ◌%◌, ◌^◌, ◌≤◌, eqb, length, get_or, take, sym, refl, ap, ◌∙◌, subst, le_of_eq, arith, take_all, rules}
use lib.Bits.{bit_or}
use Rattle.histogram.specs.Histogram.{total}
use Rattle.histogram.proofs.Sums.{total-none, total-next}
use Rattle.counts_sum.proofs.Adds.{adds_next, sum_next, adds_up}
use Rattle.counts_sum.proofs.add_up.Goals as goal

pub loop-here-init : goal.loop-here-init
loop-here-init c = (ap (λ (x : ℕ). x % 2 ^ 64) total-none, le_of_eq (sym total-none), search rules)

pub loop-here-preserved : goal.loop-here-preserved
loop-here-preserved c =
    let l = c.loop-here in
    let b = c.args.counts.now in
    let t = total-next l.here-index b c.loop-here-test.true in (
      sum_next (total (take l.here-index b)) (get_or b l.here-index 0) l.sum _ l.invariant.0 refl ∙ ap (λ (x : ℕ). x % 2 ^ 64) (sym t),
      subst (λ (x : ℕ). x ≤ (l.here-index + 1) * bit_or l.any (get_or b l.here-index 0)) (sym t) (adds_next l.here-index (total (take l.here-index b)) l.any (get_or b l.here-index 0) l.invariant.1),
      l.invariant.2,
    )

pub returns-then-any-lt281474976710656 : goal.returns-then-any-lt281474976710656
returns-then-any-lt281474976710656 c =
    let l = c.loop-here in
    let b = c.args.counts.now in
    adds_up l.here-index (length b) (total (take l.here-index b)) l.any l.sum c.args.number (omega arith) l.invariant.2 l.invariant.1 c.if-any-lt281474976710656.true l.invariant.0
    ∙ ap (λ (x : ℕ). eqb x c.args.number) (ap total (take_all l.here-index b c.loop-here-test.false))
