-- What is stored is read back. Assumes nothing.
use mathlib.Core.Path.{◌≡◌, ap, ◌∙◌}
use mathlib.Core.List.{List}
use Prim.Native.Nat.{ℕ}
use native.Mathlib.Omega.{arith}
use lib.ListN.{length}
use lib.Seq.{sets, sets-eq}
use Rattle.clock_quality.specs.declared.ClockQuality.{ClockQuality}
use Rattle.host_quality.specs.Words.{quality_at, quality_words, QualityKept}

-- of every quality that its words keep
pub stored_is_read : (ws : List ℕ) (q : ClockQuality) → length ws ≡ 16 → QualityKept q → quality_at 0 (sets ws 0 (quality_words q)) ≡ q
unfolding quality_at quality_words
stored_is_read ws q long kept = ap (quality_at 0) (sets-eq (quality_words q) ws 0 (omega arith)) ∙ kept
