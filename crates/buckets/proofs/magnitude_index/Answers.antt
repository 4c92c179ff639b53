use Rattle.std.proofs.Common.{◌≡◌, ℕ, ◌+◌, ◌*◌, ◌/◌, ◌^◌, ◌<◌, sym, ap, ◌∙◌, subst, arith}
use Rattle.buckets.specs.Buckets.{shift_of, index}
use Rattle.buckets.proofs.Facts.{index_is, index_below}
use Rattle.buckets.proofs.magnitude_index.Goals as goal

placed_at : (v k : ℕ) → v < 2 ^ 64 → k ≡ shift_of v → (k * 128 + v / 2 ^ k ≡ index v) × (k * 128 + v / 2 ^ k < 7424)
placed_at v k h e = (same, subst (λ (x : ℕ). x < 7424) (sym same) (index_below 64 v (omega arith) h))
  where
    turned : (k x : ℕ) → k * 128 + x ≡ 128 * k + x
    turned k x = omega arith

    same : k * 128 + v / 2 ^ k ≡ index v
    same = turned k (v / 2 ^ k) ∙ ap (λ (j : ℕ). 128 * j + v / 2 ^ j) e ∙ sym (index_is v)

pub returns : goal.returns
returns c = placed_at c.args.value c.bucket_shift-shift.result c.ranges.value.fits c.bucket_shift-shift.ensures.0
