use mathlib.Core.Path.{sym, ◌∙◌}
use Prim.Native.Nat.{ℕ, ◌+◌, ◌-◌, ◌^◌, ◌<◌}
use native.Mathlib.Omega.{arith}
use Rattle.quantiles.proofs.Between.{within}
use Rattle.quantiles.proofs.Quantiles.record_between.Goals as goal

one_more : (n : ℕ) → n < 2 ^ 64 - 1 → n + 1 < 2 ^ 64
one_more n h = omega arith

pub try_later-requires : goal.try_later-requires
try_later-requires c =
    let w = within 4096 c.args.self.count (2 ^ 64 - 1) c.if-self.true in
    (sym c.is_between.ensures ∙ c.if-is_between.true, w.0, one_more c.args.self.count w.1)

pub try_sample-requires : goal.try_sample-requires
try_sample-requires c =
    let w = within 0 c.args.self.count 4096 c.if-self-2.true in
    (sym c.is_between.ensures ∙ c.if-is_between.true, w.0, w.1)
