-- What the call that shows a clock quality answers and leaves in the 26 lent words. Assumes nothing.
use Rattle.std.specs.Prelude.{◌≡◌, List, ℕ}
use Rattle.host_quality.specs.Words.{quality_at}
use Rattle.host_snapshot_words.specs.Words as shown

-- nothing is refused, and each word is that of the quality that the lent words say
pub record Summary (ws : List ℕ) (number : ℕ) (after : List ℕ) : Type 0 where
  pub served : number ≡ 0
  pub words : after ≡ shown.quality_words (quality_at 0 ws)
