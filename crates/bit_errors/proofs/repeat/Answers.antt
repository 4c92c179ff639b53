use mathlib.Core.Path.{◌≡◌, refl, sym, ap, ◌∙◌}
use Prim.Native.Nat.{ℕ, ◌+◌, ◌%◌, ◌<◌}
use native.Mathlib.Nat.{mod_self, zero-mod, mod-eq_of_lt}
use native.Mathlib.Omega.{arith}
use lib.ListN.{length, get_or, length-set}
use Rattle.bit_errors.proofs.Patterns.{further, repeats_more}
use Rattle.bit_errors.proofs.repeat.Goals as goal
use Rattle.bit_errors.proofs.repeat.Goals.{then-from-pattern, else-from-pattern}

pub loop-at-init : goal.loop-at-init
loop-at-init c = (refl, c.requires.0, sym (zero-mod (length c.args.pattern.now)), λ i l. absurd (omega arith))

pub bounds-pattern-from : goal.bounds-pattern-from
bounds-pattern-from c = c.loop-at.invariant.1

pub bounds-room-at : goal.bounds-room-at
bounds-room-at c = omega arith

pub loop-at-preserved : goal.loop-at-preserved
loop-at-preserved c =
    let l = c.loop-at in
    let n = length c.args.pattern.now in (
      length-set l.room l.at (get_or c.args.pattern.now l.from 0) ∙ l.invariant.0,
      elim c.if-from-pattern.branch [ then-from-pattern w ↦ omega arith | else-from-pattern w ↦ omega (arith, l.invariant.1, w.if-from-pattern.false) ],
      elim c.if-from-pattern.branch [
        | then-from-pattern w ↦
            let e : l.at % n + 1 ≡ n = omega (arith, l.invariant.2, w.if-from-pattern.true) in
            w.from-is ∙ sym (further l.at n 1 ∙ ap (λ (m : ℕ). m % n) e ∙ mod_self n)
        | else-from-pattern w ↦
            let h : l.from + 1 < n = omega (arith, l.invariant.1, w.if-from-pattern.false) in
            w.from-is ∙ sym (further l.at n 1 ∙ ap (λ (m : ℕ). (m + 1) % n) (sym l.invariant.2) ∙ mod-eq_of_lt h)
      ],
      repeats_more l.room c.args.pattern.now l.at l.from (omega arith) l.invariant.2 l.invariant.3,
    )

pub returns : goal.returns
returns c = λ i l. c.loop-at.invariant.3 i (omega arith)
