use Rattle.std.proofs.Common.{◌≡◌, ℕ, ◌+◌, ◌-◌, ◌*◌, ◌/◌, ◌%◌, ◌^◌, ◌<◌, ◌≤◌, sym, ◌∙◌, subst, mod-eq_of_lt, arith}
use Rattle.buckets.specs.Buckets.{value}
use Rattle.buckets.proofs.Facts.{value-small, value-large, value-below}
use Rattle.buckets.proofs.magnitude_value.Goals as goal

large : (i : ℕ) → i < 7424 → 256 ≤ i → (128 + i % 128) * 2 ^ (i / 128 - 1) % 2 ^ 64 ≡ value i
large i h g = mod-eq_of_lt (subst (λ (x : ℕ). x < 2 ^ 64) (value-large i g) (value-below 64 i (omega arith) (omega arith))) ∙ sym (value-large i g)

pub returns-then-place-lt256 : goal.returns-then-place-lt256
returns-then-place-lt256 c = sym (value-small c.args.place c.if-place-lt256.true)

pub returns : goal.returns
returns c = large c.args.place c.requires c.if-place-lt256.false
