-- The walk of `observation` over the items, in the source's order of tests. Assumes nothing.
use Rattle.std.specs.Prelude.{Bool, true, false, ◌&&◌, ◌||◌, cond, List, [], ◌∷◌, ℕ, eqb, length, Option, Some, None}
use Rattle.big_endian.specs.Numbers.{number_at}
use Rattle.bit_observation.specs.declared.Seen.{Seen}
use Rattle.bit_observation.specs.declared.Reading.{Reading}
use Rattle.bit_observation.specs.declared.Reading.TheVariants.{On, Ended, Unsupported, Unusable}
use Rattle.bit_observation.specs.Items.{flag_of, kind_of, value_of, same_bytes, is_ber, is_ours}

-- no item told it yet
abbrev pub is_absent : Option ℕ → Bool
is_absent None = true
is_absent (Some n) = false

-- nothing was read yet
abbrev pub nothing : Seen
nothing = record { pattern = false; padding = None; count = None; burst = None }

-- the pattern, once and equal to the one that was sent
abbrev pub with_pattern : Seen → (value pattern : List ℕ) → Reading
with_pattern s value pattern =
    cond s.pattern Unusable (cond (same_bytes value pattern) (On (record { pattern = true; padding = s.padding; count = s.count; burst = s.burst })) Unusable)

-- the padding, once
abbrev pub with_padding : Seen → ℕ → Reading
with_padding s word = cond (is_absent s.padding) (On (record { pattern = s.pattern; padding = Some word; count = s.count; burst = s.burst })) Unusable

-- a count of four bytes, once
abbrev pub with_count : Seen → List ℕ → Reading
with_count s value =
    cond (eqb (length value) 4)
    (cond (is_absent s.count) (On (record { pattern = s.pattern; padding = s.padding; count = Some (number_at 2 value 0); burst = s.burst })) Unusable)
    Unusable

-- a burst of four bytes, once
abbrev pub with_burst : Seen → List ℕ → Reading
with_burst s value =
    cond (eqb (length value) 4)
    (cond (is_absent s.burst) (On (record { pattern = s.pattern; padding = s.padding; count = s.count; burst = Some (number_at 2 value 0) })) Unusable)
    Unusable

-- what an item of one of the four types leaves
unfoldable pub noted : (bytes pattern : List ℕ) → Seen → ℕ → Reading
noted bytes pattern s word =
    cond (eqb (kind_of word) 240) (with_pattern s (value_of bytes word) pattern)
    (cond (eqb (kind_of word) 241) (with_count s (value_of bytes word))
    (cond (eqb (kind_of word) 242) (with_burst s (value_of bytes word)) (with_padding s word)))

-- one item: HMAC is passed over; a malformed one ends the walk; of bit errors and unrecognized, the sender does not do this; other types
-- are passed over; unrecognized or conformant, unusable
unfoldable pub step_of : (bytes pattern : List ℕ) → Seen → ℕ → Reading
step_of bytes pattern s word =
    cond (eqb (kind_of word) 8) (On s)
    (cond (flag_of 62 word) (Ended s)
    (cond (is_ber (kind_of word) && flag_of 63 word) Unsupported
    (cond (is_ours (kind_of word)) (cond (flag_of 63 word || flag_of 60 word) Unusable (noted bytes pattern s word)) (On s))))

-- what ended, or has its answer, stays
abbrev pub turned : (bytes pattern : List ℕ) → Reading → ℕ → Reading
turned bytes pattern (On s) word = step_of bytes pattern s word
turned bytes pattern (Ended s) word = Ended s
turned bytes pattern Unsupported word = Unsupported
turned bytes pattern Unusable word = Unusable

-- one item after the other
unfoldable pub read_all : (bytes pattern : List ℕ) → Reading → List ℕ → Reading
read_all bytes pattern r [] = r
read_all bytes pattern r (w ∷ ws) = read_all bytes pattern (turned bytes pattern r w) ws
