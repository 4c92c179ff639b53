use mathlib.Core.Path.{◌≡◌}
use Prim.Native.Nat.{ℕ, ◌<◌}
use native.Mathlib.Omega.{arith}
use Rattle.quantiles.proofs.Ways.{grown_later}
use Rattle.quantiles.proofs.grow.Goals as goal

not_none : (n : ℕ) → 0 < n → n ≡ 0 → ⊥
not_none n h e = omega arith

pub returns : goal.returns
returns c =
    let a = c.args in
    grown_later a.q a.value c.least-low.result c.greatest-high.result (not_none a.q.count c.requires.0) c.least-low.ensures c.greatest-high.ensures
