use mathlib.Core.Path.{ap}
use Prim.Native.Nat.{ℕ, ◌≤◌, ◌*◌}
use native.Mathlib.Nat.{mul-le-mul}
use native.Mathlib.Omega.{arith}
use Rattle.chains.proofs.times.Goals as goal

pub overflow_mul-result : goal.overflow_mul-result
overflow_mul-result c =
    let b : c.wide_word.result * c.args.piece ≤ 4294967295 * 4194303 = mul-le-mul {n₁ = c.wide_word.result} {m₁ = c.args.piece} {n₂ = 4294967295} {m₂ = 4194303} (omega arith) (omega arith) in
    omega arith

pub returns : goal.returns
returns c =
    let b : c.wide_word.result * c.args.piece ≤ 4294967295 * 4194303 = mul-le-mul {n₁ = c.wide_word.result} {m₁ = c.args.piece} {n₂ = 4294967295} {m₂ = 4194303} (omega arith) (omega arith) in
    (ap (λ (w : ℕ). w * c.args.piece) c.wide_word.ensures.0, omega arith)
