-- What the proofs of `load` and `store` cite. Assumes nothing.
use Rattle.std.specs.Prelude.{Option}
use Rattle.std.specs.Float.Ieee.{Float}
use Rattle.clock_quality.specs.declared.ClockEstimate.{ClockEstimate}
use mathlib.Core.Path.{◌≡◌}
use mathlib.Core.List.{List}
use Prim.Native.Nat.{ℕ}
use lib.ListN.{get_or, set}
use lib.Seq.{sets}
use Rattle.clock_quality.specs.declared.ClockQuality.{ClockQuality}
use Rattle.host_quality.specs.declared.LastWords.{LastWords}
use Rattle.host_quality.specs.Words.{last_of, last_word, last_bits, largest_of, largest_word, largest_bits, quality_at, quality_words}

pub load_said : (ws : List ℕ) (largest : Option Float) (sender reflector : Option ClockEstimate)
    → largest ≡ largest_of (get_or ws 8 0) (get_or ws 9 0) → sender ≡ last_of (get_or ws 10 0) (get_or ws 11 0) → reflector ≡ last_of (get_or ws 12 0) (get_or ws 13 0)
    → ◌≡◌ {A = ClockQuality} (record {
      samples = get_or ws 0 0;
      both = get_or ws 1 0;
      unsynchronized = get_or ws 2 0;
      invalid = get_or ws 3 0;
      unknown = get_or ws 4 0;
      invalid_sender = get_or ws 5 0;
      invalid_reflector = get_or ws 6 0;
      invalid_both = get_or ws 7 0;
      sender = sender;
      reflector = reflector;
      largest = largest;
    }) (quality_at 0 ws)
unfolding quality_at
load_said ws largest sender reflector l s r = λ i. record {
  samples = get_or ws 0 0;
  both = get_or ws 1 0;
  unsynchronized = get_or ws 2 0;
  invalid = get_or ws 3 0;
  unknown = get_or ws 4 0;
  invalid_sender = get_or ws 5 0;
  invalid_reflector = get_or ws 6 0;
  invalid_both = get_or ws 7 0;
  sender = s i;
  reflector = r i;
  largest = l i;
}

-- the fourteen words, stored one after the other
pub store_said : (ws : List ℕ) (q : ClockQuality) (known bits : ℕ) (sender reflector : LastWords)
    → known ≡ largest_word q.largest → bits ≡ largest_bits q.largest
    → sender.word ≡ last_word q.sender → sender.bits ≡ last_bits q.sender
    → reflector.word ≡ last_word q.reflector → reflector.bits ≡ last_bits q.reflector
    → set (set (set (set (set (set (set (set (set (set (set (set (set (set ws 0 q.samples) 1 q.both) 2 q.unsynchronized) 3 q.invalid) 4 q.unknown) 5 q.invalid_sender) 6 q.invalid_reflector) 7 q.invalid_both) 8 known) 9 bits) 10 sender.word) 11 sender.bits) 12 reflector.word) 13 reflector.bits
    ≡ sets ws 0 (quality_words q)
unfolding quality_words
store_said ws q known bits sender reflector a b c d e f = cc
