-- Clock quality by class numbers is that of crate clock_quality, over the same samples; and so are its words. Assumes nothing.
use Rattle.std.specs.Prelude.{Some, None, Option}
use mathlib.Core.Path.{◌≡◌, refl, sym, ap, ◌∙◌}
use mathlib.Core.Bool.{Bool, true, false, ◌&&◌, cond}
use mathlib.Core.List.{List, [], ◌∷◌, map, ◌++◌, append_assoc}
use Prim.Native.Nat.{ℕ, suc, ◌+◌}
use native.Mathlib.Numerals.{add-one}
use lib.Dec.{eqb}
use lib.Ieee.{Float}
use lib.ListN.{length}
use Rattle.estimate.specs.declared.ErrorEstimate.{ErrorEstimate}
use Rattle.estimate.specs.Make.{is_ptp, format_of}
use Rattle.estimate.specs.Error.{known_if, error_known, ms_of}
use Rattle.estimate.specs.Wire.{wire_of}
use Rattle.clock_quality.specs.Quality as clock
use Rattle.clock_quality.specs.Quality.{Class, is_known, counted, is_both, is_unsynchronized, is_invalid, is_unknown, is_invalid_sender, is_invalid_reflector, is_invalid_both, clock_estimate_of}
use Rattle.clock_quality.specs.Samples as samples
use Rattle.clock_quality.specs.Samples.{largest_among}
use Rattle.clock_quality.proofs.Samples.{invalid_adds_up}
use Rattle.host_numbers.specs.Numbers.{flag_word}
use Rattle.host_snapshot_words.specs.Words as shown
use Rattle.history.specs.Counting.{tally}
use Rattle.history.specs.FollowUps.{Measured}
use Rattle.history.specs.Figures.{given, estimates}
use Rattle.history.specs.Figures as history
use Rattle.history.specs.Quality.{Sample, pair_class, class_of, of_class, larger_with, largest_with, largest_error, newest, plain_quality}
use Rattle.host_plain_history.specs.Words.{float_words, error_words, estimate_words, sample_words, quality_words}

-- the samples of matched follow-ups
abbrev pub samples_of : List Measured → List Sample
samples_of ms = map (λ (m : Measured). m.quality) ms

-- ---- classes

-- the number of a class
abbrev number_of : Class → ℕ
number_of clock.unknown = 0
number_of clock.invalid_sender = 1
number_of clock.invalid_reflector = 2
number_of clock.invalid_both = 3
number_of clock.unsynchronized = 4
number_of clock.both = 5

pair_is : (a b s : Bool) (x y : Float) (v w : ℕ)
    → number_of (clock.pair_class (is_known (known_if a x v)) (is_known (known_if b y w)) s) ≡ pair_class (cond a (Some x) None) (cond b (Some y) None) s
pair_is true true true x y v w = refl
pair_is true true false x y v w = refl
pair_is true false s x y v w = refl
pair_is false true s x y v w = refl
pair_is false false s x y v w = refl

class_is : (q : Sample) → number_of (samples.class_of (given q)) ≡ class_of q
class_is None = refl
class_is (Some p) =
    pair_is (error_known p.sender) (error_known p.reflector) (p.sender.synchronized && p.reflector.synchronized) (ms_of p.sender) (ms_of p.reflector)
    (wire_of p.sender) (wire_of p.reflector)

counted_is : (b : Bool) (n : ℕ) → counted b n ≡ tally b n
counted_is true n = add-one n
counted_is false n = refl

-- a test that is that of a class number
abbrev Tests : (Class → Bool) → ℕ → Type 0
Tests test k = (c : Class) → test c ≡ eqb k (number_of c)

count_is : (test : Class → Bool) (k : ℕ) → Tests test k → (ms : List Measured) → samples.count test (estimates ms) ≡ of_class k (samples_of ms)
unfolding samples.count estimates of_class
count_is test k t [] = refl
count_is test k t (m ∷ ms) =
    counted_is (test (samples.class_of (given m.quality))) (samples.count test (estimates ms))
    ∙ ap (λ (b : Bool). tally b (samples.count test (estimates ms))) (t (samples.class_of (given m.quality)) ∙ ap (eqb k) (class_is m.quality))
    ∙ ap (tally (eqb k (class_of m.quality))) (count_is test k t ms)

both_test : Tests is_both 5
both_test clock.unknown = refl
both_test clock.invalid_sender = refl
both_test clock.invalid_reflector = refl
both_test clock.invalid_both = refl
both_test clock.unsynchronized = refl
both_test clock.both = refl

unsynchronized_test : Tests is_unsynchronized 4
unsynchronized_test clock.unknown = refl
unsynchronized_test clock.invalid_sender = refl
unsynchronized_test clock.invalid_reflector = refl
unsynchronized_test clock.invalid_both = refl
unsynchronized_test clock.unsynchronized = refl
unsynchronized_test clock.both = refl

unknown_test : Tests is_unknown 0
unknown_test clock.unknown = refl
unknown_test clock.invalid_sender = refl
unknown_test clock.invalid_reflector = refl
unknown_test clock.invalid_both = refl
unknown_test clock.unsynchronized = refl
unknown_test clock.both = refl

sender_test : Tests is_invalid_sender 1
sender_test clock.unknown = refl
sender_test clock.invalid_sender = refl
sender_test clock.invalid_reflector = refl
sender_test clock.invalid_both = refl
sender_test clock.unsynchronized = refl
sender_test clock.both = refl

reflector_test : Tests is_invalid_reflector 2
reflector_test clock.unknown = refl
reflector_test clock.invalid_sender = refl
reflector_test clock.invalid_reflector = refl
reflector_test clock.invalid_both = refl
reflector_test clock.unsynchronized = refl
reflector_test clock.both = refl

both_invalid_test : Tests is_invalid_both 3
both_invalid_test clock.unknown = refl
both_invalid_test clock.invalid_sender = refl
both_invalid_test clock.invalid_reflector = refl
both_invalid_test clock.invalid_both = refl
both_invalid_test clock.unsynchronized = refl
both_invalid_test clock.both = refl

length_is : (ms : List Measured) → length (estimates ms) ≡ length (samples_of ms)
unfolding estimates
length_is [] = refl
length_is (m ∷ ms) = ap suc (length_is ms)

-- ---- the largest error

-- an error in the code's type
abbrev as_largest : Option Float → Option Float
as_largest None = None
as_largest (Some x) = Some x

larger_is : (m : Option Float) (a b : Bool) (x y : Float) (v w : ℕ)
    → clock.largest_of (as_largest m) (known_if a x v) (known_if b y w) ≡ as_largest (larger_with m (cond a (Some x) None) (cond b (Some y) None))
larger_is m false b x y v w = refl
larger_is m true false x y v w = refl
larger_is None true true x y v w = refl
larger_is (Some e) true true x y v w = refl

with_is : (m : Option Float) (q : Sample) → samples.largest_with (as_largest m) (given q) ≡ as_largest (largest_with m q)
with_is m None = refl
with_is m (Some p) =
    larger_is m (error_known p.sender) (error_known p.reflector) (ms_of p.sender) (ms_of p.reflector) (wire_of p.sender) (wire_of p.reflector)

largest_is : (ms : List Measured) → largest_among (estimates ms) ≡ as_largest (largest_error (samples_of ms))
unfolding largest_among estimates largest_error
largest_is [] = refl
largest_is (m ∷ ms) = ap (λ (l : Option Float). samples.largest_with l (given m.quality)) (largest_is ms) ∙ with_is (largest_error (samples_of ms)) m.quality

largest-words : (m : Option Float) → shown.largest_words (as_largest m) ≡ float_words m
largest-words None = refl
largest-words (Some x) = refl

-- ---- the newest estimates

-- an estimate's words, by its clock format and by whether its error is known
estimate_by : (e : ErrorEstimate) (ptp known : Bool)
    → (1 ∷ flag_word e.synchronized ∷ flag_word (is_ptp (format_of ptp)) ∷ e.scale ∷ e.multiplier ∷ shown.error_known (known_if known (ms_of e) (wire_of e))
    ∷ shown.shown_error (known_if known (ms_of e) (wire_of e)) ∷ shown.received_bits (known_if known (ms_of e) (wire_of e)) ∷ [])
    ≡ (1 ∷ flag_word e.synchronized ∷ flag_word ptp ∷ e.scale ∷ e.multiplier ∷ error_words (cond known (Some (ms_of e)) None) e)
estimate_by e true true = refl
estimate_by e true false = refl
estimate_by e false true = refl
estimate_by e false false = refl

estimate_is : (e : ErrorEstimate) → shown.estimate_words (Some (clock_estimate_of e)) ≡ estimate_words e
unfolding shown.estimate_words
estimate_is e = estimate_by e e.ptp (error_known e)

last_is : (q : Sample) (rest : List ℕ)
    → shown.estimate_words (samples.sender_of (given q)) ++ (shown.estimate_words (samples.reflector_of (given q)) ++ rest) ≡ sample_words q ++ rest
unfolding shown.estimate_words
last_is None rest = refl
last_is (Some p) rest =
    ap (λ (w : List ℕ). w ++ (shown.estimate_words (Some (clock_estimate_of p.reflector)) ++ rest)) (estimate_is p.sender)
    ∙ ap (λ (w : List ℕ). estimate_words p.sender ++ (w ++ rest)) (estimate_is p.reflector)
    ∙ sym (append_assoc (estimate_words p.sender) (estimate_words p.reflector) rest)

newest_is_lem : (ms : List Measured) (rest : List ℕ)
    → shown.estimate_words (samples.newest samples.sender_of (estimates ms)) ++ (shown.estimate_words (samples.newest samples.reflector_of (estimates ms)) ++ rest)
    ≡ sample_words (newest (samples_of ms)) ++ rest
unfolding estimates shown.estimate_words
newest_is_lem [] rest = refl
newest_is_lem (m ∷ ms) rest = last_is m.quality rest

-- ---- the whole

-- THE WORDS of a clock quality are those of the plain one, of the same matched follow-ups
pub quality-words : (ms : List Measured) → shown.quality_words (history.quality_of (estimates ms)) ≡ quality_words (plain_quality (samples_of ms))
unfolding shown.quality_words
quality-words ms = λ i.
    length_is ms i ∷ count_is is_both 5 both_test ms i ∷ count_is is_unsynchronized 4 unsynchronized_test ms i ∷ invalid i ∷ count_is is_unknown 0 unknown_test ms i
    ∷ sender i ∷ reflector i ∷ neither i ∷ rest i
  where
    sender : samples.count is_invalid_sender (estimates ms) ≡ of_class 1 (samples_of ms)
    sender = count_is is_invalid_sender 1 sender_test ms

    reflector : samples.count is_invalid_reflector (estimates ms) ≡ of_class 2 (samples_of ms)
    reflector = count_is is_invalid_reflector 2 reflector_test ms

    neither : samples.count is_invalid_both (estimates ms) ≡ of_class 3 (samples_of ms)
    neither = count_is is_invalid_both 3 both_invalid_test ms

    invalid : samples.count is_invalid (estimates ms) ≡ of_class 1 (samples_of ms) + of_class 2 (samples_of ms) + of_class 3 (samples_of ms)
    invalid = invalid_adds_up (estimates ms) ∙ (λ i. sender i + reflector i + neither i)

    rest : shown.estimate_words (samples.newest samples.sender_of (estimates ms))
        ++ (shown.estimate_words (samples.newest samples.reflector_of (estimates ms)) ++ shown.largest_words (largest_among (estimates ms)))
        ≡ sample_words (newest (samples_of ms)) ++ float_words (largest_error (samples_of ms))
    rest = newest_is_lem ms (shown.largest_words (largest_among (estimates ms)))
        ∙ ap (λ (w : List ℕ). sample_words (newest (samples_of ms)) ++ w) (ap shown.largest_words (largest_is ms) ∙ largest-words (largest_error (samples_of ms)))
