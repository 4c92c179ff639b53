use mathlib.Core.Path.{◌≡◌, refl, sym, subst}
use mathlib.Core.Bool.{Bool}
use Prim.Native.Nat.{ℕ, ◌+◌}
use Rattle.buckets.specs.Signed.{bucket_count}
use Rattle.quantile_room.proofs.totals_start.Goals as goal

pub returns-then-signed : goal.returns-then-signed
returns-then-signed c = subst (λ (s : Bool). ◌≡◌ {A = ℕ} 18689 (4096 + bucket_count s)) (sym c.if-signed.true) refl

pub returns-else-signed : goal.returns-else-signed
returns-else-signed c = subst (λ (s : Bool). ◌≡◌ {A = ℕ} 11520 (4096 + bucket_count s)) (sym c.if-signed.false) refl
