use Rattle.std.proofs.Common.{◌≡◌, ℕ, ◌+◌, ◌-◌, ◌/◌, ◌^◌, ◌<◌, ◌≤◌, sym, ◌∙◌, subst, arith}
use lib.Bits.{bit_or, or_lt}
use lib.Count.{count_leading_zeros}
use Rattle.buckets.specs.Buckets.{bit_length, shift_of}
use Rattle.buckets.proofs.Length.{length-least, length-leading, length-with, length-either}
use Rattle.buckets.proofs.Place.{placed}
use Rattle.buckets.proofs.bucket_shift.Goals as goal

settled : (v r : ℕ) → v < 2 ^ 64 → r ≡ shift_of v → (r ≡ shift_of v) × (r ≤ 56) × (v / 2 ^ r < 256)
unfolding shift_of
settled v r h e = (e, (omega (arith, length-least v 64 h)), subst (λ (k : ℕ). v / 2 ^ k < 256) (sym e) (placed v).under)

-- the zeros before bit 7 or before the value's leading digit
all : (v : ℕ) → v < 2 ^ 64 → count_leading_zeros 64 (bit_or v 128) + bit_length (bit_or v 128) ≡ 64
all v h = length-leading 64 (bit_or v 128) (or_lt 64 v 128 h (omega arith))

few : (v : ℕ) → v < 2 ^ 64 → count_leading_zeros 64 (bit_or v 128) ≤ 56
few v h = omega (arith, all v h, length-with v)

shift : (v : ℕ) → v < 2 ^ 64 → 56 - count_leading_zeros 64 (bit_or v 128) ≡ shift_of v
unfolding shift_of
shift v h = same (count_leading_zeros 64 (bit_or v 128)) (bit_length (bit_or v 128)) (all v h) ∙ length-either v
  where
    same : (z n : ℕ) → z + n ≡ 64 → 56 - z ≡ n - 8
    same z n e = omega arith

pub overflow_sub-result : goal.overflow_sub-result
overflow_sub-result c = few c.args.value c.ranges.value.fits

pub returns : goal.returns
returns c = settled c.args.value _ c.ranges.value.fits (shift c.args.value c.ranges.value.fits)
