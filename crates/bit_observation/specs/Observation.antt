-- `observation` of src/ber.rs over items already read: unsupported, nothing, or a sample. Assumes nothing.
use Rattle.std.specs.Prelude.{Bool, true, false, not, ◌||◌, cond, List, [], ◌∷◌, ℕ, ◌*◌, eqb, ltb, length, Option, Some, None, Result, Ok, Err}
use Rattle.limits.specs.declared.Refusal.{Refusal}
use Rattle.limits.specs.declared.Refusal.TheVariants as refusal
use Rattle.request_limits.specs.Refusals.{most_padding}
use Rattle.bit_errors.specs.Errors.{comparison, counts_of}
use Rattle.bit_observation.specs.declared.Seen.{Seen}
use Rattle.bit_observation.specs.declared.Reading.{Reading}
use Rattle.bit_observation.specs.declared.Reading.TheVariants as reading
use Rattle.bit_observation.specs.declared.Observed.{Observed}
use Rattle.bit_observation.specs.declared.Observed.TheVariants.{Unusable, Unsupported, Sampled}
use Rattle.bit_observation.specs.Items.{flag_of, value_of}
use Rattle.bit_observation.specs.Reading.{nothing, read_all}

-- an item that says its integrity failed
unfoldable pub failed : List ℕ → Bool
failed [] = false
failed (w ∷ ws) = flag_of 61 w || failed ws

-- two tests that agree
abbrev pub same_truth : Bool → Bool → Bool
same_truth true b = b
same_truth false b = not b

-- a burst that is wanted is there; and one that is there is at most the count, and 0 exactly where the count is
unfoldable pub burst_fits : (wanted : Bool) → ℕ → Option ℕ → Bool
burst_fits wanted count None = not wanted
burst_fits wanted count (Some n) = cond (ltb count n) false (same_truth (eqb n 0) (eqb count 0))

-- the sample of a padding, and of the count and burst that the reflector told
abbrev pub sampled : (value pattern : List ℕ) → ℕ → Option ℕ → Observed
sampled value pattern count burst = Sampled (record {
  bits = length value * 8;
  forward = count;
  burst = burst;
  reverse = (counts_of (comparison value pattern)).errors;
  longest = (counts_of (comparison value pattern)).longest;
})

-- a count that is there, at most the bits
abbrev pub count_judged : (value pattern : List ℕ) → (wanted : Bool) → Option ℕ → Option ℕ → Observed
count_judged value pattern wanted None burst = Unusable
count_judged value pattern wanted (Some n) burst =
    cond (ltb (length value * 8) n) Unusable (cond (burst_fits wanted n burst) (sampled value pattern n burst) Unusable)

-- padding that is there, of the size that was sent, with a pattern that is not empty; then the count and the burst
unfoldable pub judged : (bytes pattern : List ℕ) (size : ℕ) (wanted : Bool) → Seen → Observed
judged bytes pattern size wanted s = by s.padding
  where
    by : Option ℕ → Observed
    by None = Unusable
    by (Some w) = cond (eqb (length (value_of bytes w)) size)
        (cond (eqb (length pattern) 0) Unusable (count_judged (value_of bytes w) pattern wanted s.count s.burst)) Unusable

-- what the walk came to
abbrev pub ending : (bytes pattern : List ℕ) (size : ℕ) (wanted : Bool) → Reading → Observed
ending bytes pattern size wanted (reading.On s) = judged bytes pattern size wanted s
ending bytes pattern size wanted (reading.Ended s) = judged bytes pattern size wanted s
ending bytes pattern size wanted reading.Unsupported = Unsupported
ending bytes pattern size wanted reading.Unusable = Unusable

-- refused, before all else, for a padding size above 65,535; nothing where the integrity of the reply, or of an item, failed; else the walk
unfoldable pub observed : (items bytes pattern : List ℕ) (size : ℕ) (intact wanted : Bool) → Result Observed Refusal
observed items bytes pattern size intact wanted =
    cond (ltb most_padding size) (Err refusal.TooMuchPadding)
    (Ok (cond intact (cond (failed items) Unusable (ending bytes pattern size wanted (read_all bytes pattern (reading.On nothing) items))) Unusable))
