-- What the figures of loss need. Assumes nothing.
use Rattle.std.specs.Prelude.{Some}
use mathlib.Core.Path.{◌≡◌, refl}
use mathlib.Core.Bool.{Bool}
use mathlib.Core.List.{List}
use Prim.Native.Nat.{ℕ, zero, suc, ◌*◌, ◌/◌, ◌^◌, ◌<◌}
use native.Mathlib.Omega.{arith}
use native.Mathlib.Nat.{mul-le-mul}
use Rattle.history.specs.Ledger.{Event}
use Rattle.recount_seen.specs.declared.Seen.{Seen}
use Rattle.recount_counts.specs.Tests.{passing}
use Rattle.recount_counts.proofs.Laws.{passing-most}
use Rattle.recount_lines.specs.Lines.{thousandths_of}

pub known : (requested lost : ℕ) → (requested ≡ 0 → ⊥) → Some (1000 * lost / requested) ≡ thousandths_of requested lost
known zero lost h = absurd (h refl)
known (suc n) lost h = refl

-- so many copies of so many probes
pub product_fits : (copies sent : ℕ) (test : Seen → List Event → Bool) (log marks : List ℕ) (n : ℕ) → copies < 65536 → n < 65536 → sent ≡ passing test log marks n → copies * sent < 2 ^ 32
product_fits copies sent test log marks n few short e =
    omega (arith, mul-le-mul {n₁ = copies} {m₁ = sent} {n₂ = 65535} {m₂ = 65535} (omega arith) (omega (arith, e, passing-most test log marks n)))
