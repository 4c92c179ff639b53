-- `xor_popcount_and_max_burst` of src/ber.rs over all bits: the padding against the pattern, repeated. Assumes nothing.
use Rattle.std.specs.Prelude.{cond, List, [], ◌∷◌, ℕ, suc, ◌%◌, ltb, length, get_or, Result, Ok, Err}
use Rattle.std.specs.Int.Bits.{bit_xor}
use Rattle.limits.specs.declared.Refusal.{Refusal}
use Rattle.limits.specs.declared.Refusal.TheVariants as refusal
use Rattle.request_limits.specs.Refusals.{most_padding}
use Rattle.bit_errors.specs.declared.BitErrors.{BitErrors}
use Rattle.bit_runs.specs.Bits.{all_bits, ones_of, longest}

-- the byte at a place of the pattern repeated without end
abbrev pub repeated : (pattern : List ℕ) (i : ℕ) → ℕ
repeated pattern i = get_or pattern (i % length pattern) 0

-- bytes against the pattern repeated, the first of them at place i of it
unfoldable pub wrong_from : (pattern : List ℕ) (i : ℕ) (padding : List ℕ) → List ℕ
wrong_from pattern i [] = []
wrong_from pattern i (b ∷ bs) = bit_xor b (repeated pattern i) ∷ wrong_from pattern (suc i) bs

-- the padding against the pattern; an empty pattern compares nothing
unfoldable pub wrong_bytes : (padding pattern : List ℕ) → List ℕ
wrong_bytes padding [] = []
wrong_bytes padding (q ∷ qs) = wrong_from (q ∷ qs) 0 padding

-- the bits that are wrong: how many, and the longest run of them
unfoldable pub errors_in : List ℕ → BitErrors
errors_in bytes = record { errors = ones_of (all_bits bytes); longest = longest (all_bits bytes) }

-- refused, before all else, for padding above 65,535 bytes; otherwise the count over all bits
unfoldable pub comparison : (padding pattern : List ℕ) → Result BitErrors Refusal
comparison padding pattern = cond (ltb most_padding (length padding)) (Err refusal.TooMuchPadding) (Ok (errors_in (wrong_bytes padding pattern)))

-- the counts of an answer, 0 where it is a refusal
abbrev pub counts_of : Result BitErrors Refusal → BitErrors
counts_of (Err e) = record { errors = 0; longest = 0 }
counts_of (Ok c) = c
