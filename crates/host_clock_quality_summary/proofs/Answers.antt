-- What the proof of the call cites: 26 words over a room of 26 are the room. Assumes nothing.
use Rattle.std.specs.Prelude.{Option, Some, None}
use Rattle.clock_quality.specs.declared.ClockEstimate.{ClockEstimate}
use mathlib.Core.Path.{◌≡◌, refl, sym, ap, ◌∙◌}
use mathlib.Core.List.{List}
use Prim.Native.Nat.{ℕ}
use native.Mathlib.Omega.{arith}
use lib.ListN.{length, length-append}
use lib.Seq.{sets}
use Rattle.clock_quality.specs.declared.ClockQuality.{ClockQuality}
use Rattle.host_quality.specs.Words.{quality_at}
use Rattle.host_snapshot_words.specs.Words.{estimate_words, quality_words}
use Rattle.host_snapshot_words.proofs.Laws.{placed_all}
use Rattle.host_clock_quality_summary.specs.Summary.{Summary}

eight : (l : Option ClockEstimate) → length (estimate_words l) ≡ 8
unfolding estimate_words
eight None = refl
eight (Some e) = refl

all : (q : ClockQuality) → length (quality_words q) ≡ 26
unfolding quality_words
all q = simp length-append (omega (arith, eight q.sender, eight q.reflector))

pub shown-said : (ws room after : List ℕ) (q : ClockQuality) → length room ≡ 26 → q ≡ quality_at 0 ws → after ≡ sets room 0 (quality_words q) → Summary ws 0 after
shown-said ws room after q long is left = record {
  served = refl;
  words = left ∙ placed_all (quality_words q) room (all q ∙ sym long) ∙ ap quality_words is;
}
