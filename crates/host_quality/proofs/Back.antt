-- What is written of a clock quality is read back. Assumes nothing.
use Rattle.std.specs.Prelude.{Some, None}
use mathlib.Core.Path.{◌≡◌, refl, sym, ap, ◌∙◌}
use mathlib.Core.Bool.{Bool, true, false, not, cond}
use Prim.Native.Nat.{ℕ, ◌+◌, ◌*◌, ◌/◌, ◌%◌, ◌<◌}
use native.Mathlib.Omega.{arith}
use borrow.Author.Tests.{eq-eqb, ne_eqb}
use lib.Dec.{T, eqb}
use lib.Ieee.{Float, fits, binary64, of_bits, to_bits}
use Rattle.estimate.specs.declared.ClockFormat.{ClockFormat}
use Rattle.estimate.specs.declared.ClockFormat.TheVariants.{NTP, PTP}
use Rattle.estimate.specs.declared.Reading.{Reading}
use Rattle.estimate.specs.declared.Reading.TheVariants.{Known, Invalid}
use Rattle.estimate.specs.declared.ErrorEstimate.{ErrorEstimate}
use Rattle.estimate.specs.Wire.{bit, wire_of}
use Rattle.estimate.specs.Make.{is_ptp, format_of}
use Rattle.clock_quality.specs.declared.ClockEstimate.{ClockEstimate}
use Rattle.clock_quality.specs.declared.ClockQuality.{ClockQuality}
use Rattle.clock_quality.specs.Quality.{is_known}
use Rattle.host_numbers.specs.Numbers.{flag_word, is_set}
use Rattle.host_numbers.proofs.Back.{float_again}
use Rattle.host_quality.specs.Words.{error_of, error_bits, estimate_word, estimate_of, last_word, last_bits, last_of, largest_word, largest_bits, largest_of, quality_at, quality_words, ErrorKept, LastKept, LargestKept, QualityKept}

-- ---- a word of three flags and two bytes

abbrev packed : ℕ → ℕ → ℕ → ℕ → ℕ → ℕ
packed a b c scale multiplier = 1 + a * 2 + b * 4 + c * 8 + scale * 256 + multiplier * 65536

flag-below : (b : Bool) → flag_word b < 2
flag-below true = omega arith
flag-below false = omega arith

flag_test : (b : Bool) → eqb (flag_word b) 1 ≡ b
flag_test true = refl
flag_test false = refl

module _ (a b c scale multiplier : ℕ) (ha : a < 2) (hb : b < 2) (hc : c < 2) (hs : scale < 256) (hm : multiplier < 256) where
  at_a : packed a b c scale multiplier / 2 % 2 ≡ a
  at_a = omega arith

  at_b : packed a b c scale multiplier / 4 % 2 ≡ b
  at_b = omega arith

  at_c : packed a b c scale multiplier / 8 % 2 ≡ c
  at_c = omega arith

  at_scale : packed a b c scale multiplier / 256 % 256 ≡ scale
  at_scale = omega arith

  at_multiplier : packed a b c scale multiplier / 65536 % 256 ≡ multiplier
  at_multiplier = omega arith

never_zero : (a b c scale multiplier : ℕ) → packed a b c scale multiplier ≡ 0 → ⊥
never_zero a b c scale multiplier h = omega arith

format_again : (f : ClockFormat) → format_of (is_ptp f) ≡ f
format_again NTP = refl
format_again PTP = refl

-- ---- the bits of the wire are 16

bit_below : (b : Bool) → bit b < 2
bit_below true = omega arith
bit_below false = omega arith

pub wire_below : (e : ErrorEstimate) → e.multiplier < 256 → wire_of e < 65536
wire_below e h = go (bit e.synchronized) (bit e.ptp) e.scale (bit_below e.synchronized) (bit_below e.ptp)
  where
    go : (a b s : ℕ) → a < 2 → b < 2 → a * 32768 + b * 16384 + s % 64 * 256 + e.multiplier < 65536
    go a b s p q = omega (arith, h)

-- ---- the parts

pub error_kept : (x : Float) (bits : ℕ) → bits ≡ to_bits binary64 x → of_bits binary64 bits ≡ x → ErrorKept (Known x)
error_kept x bits e again = ap Known (ap (of_bits binary64) (sym e) ∙ again)

pub wire_kept : (bits : ℕ) → bits < 65536 → ErrorKept (Invalid bits)
wire_kept bits h = ap Invalid (omega arith)

pub error_again : (x : Float) → T (fits binary64 x) → ErrorKept (Known x)
error_again x h = ap Known (float_again x h)

-- the sum that the code makes of what its helpers return
pub estimate-flags :
    (e : ClockEstimate) (a b k : ℕ) (ptp known : Bool) →
    a ≡ flag_word e.synchronized → ptp ≡ is_ptp e.format → b ≡ flag_word ptp → known ≡ is_known e.error → k ≡ flag_word known →
    packed a b k e.scale e.multiplier ≡ estimate_word e
unfolding estimate_word
estimate-flags e a b k ptp known p q r s t = cc

abbrev estimate : Bool → ClockFormat → ℕ → ℕ → Reading → ClockEstimate
estimate s f scale multiplier e = record { synchronized = s; format = f; scale = scale; multiplier = multiplier; error = e }

pub estimate_again : (e : ClockEstimate) → e.scale < 256 → e.multiplier < 256 → ErrorKept e.error → estimate_of (estimate_word e) (error_bits e.error) ≡ e
unfolding estimate_word estimate_of
estimate_again e hs hm kept =
    let a = flag_word e.synchronized in
    let b = flag_word (is_ptp e.format) in
    let k = flag_word (is_known e.error) in
    let ha = flag-below e.synchronized in
    let hb = flag-below (is_ptp e.format) in
    let hk = flag-below (is_known e.error) in
    let synchronized = ap (λ (n : ℕ). eqb n 1) (at_a a b k e.scale e.multiplier ha hb hk hs hm) ∙ flag_test e.synchronized in
    let format = ap (λ (n : ℕ). format_of (eqb n 1)) (at_b a b k e.scale e.multiplier ha hb hk hs hm) ∙ ap format_of (flag_test (is_ptp e.format)) ∙ format_again e.format in
    let error = ap (λ (n : ℕ). error_of (eqb n 1) (error_bits e.error)) (at_c a b k e.scale e.multiplier ha hb hk hs hm) ∙ ap (λ (x : Bool). error_of x (error_bits e.error)) (flag_test (is_known e.error)) ∙ kept in
    let scale = at_scale a b k e.scale e.multiplier ha hb hk hs hm in
    let multiplier = at_multiplier a b k e.scale e.multiplier ha hb hk hs hm in
    λ i. record { synchronized = synchronized i; format = format i; scale = scale i; multiplier = multiplier i; error = error i }

word_set : (e : ClockEstimate) → is_set (estimate_word e) ≡ true
unfolding estimate_word
word_set e = ap not (ne_eqb (packed (flag_word e.synchronized) (flag_word (is_ptp e.format)) (flag_word (is_known e.error)) e.scale e.multiplier) 0 (never_zero _ _ _ _ _))

pub last_again : (e : ClockEstimate) → e.scale < 256 → e.multiplier < 256 → ErrorKept e.error → LastKept (Some e)
last_again e hs hm kept =
    ap (λ (b : Bool). cond b (Some (estimate_of (estimate_word e) (error_bits e.error))) None) (word_set e)
    ∙ ap Some (estimate_again e hs hm kept)

pub largest-kept : (x : Float) (bits : ℕ) → bits ≡ to_bits binary64 x → of_bits binary64 bits ≡ x → LargestKept (Some x)
largest-kept x bits e again = ap Some (ap (of_bits binary64) (sym e) ∙ again)

pub largest_again : (x : Float) → T (fits binary64 x) → LargestKept (Some x)
largest_again x h = ap Some (float_again x h)

pub quality_again : (q : ClockQuality) → LargestKept q.largest → LastKept q.sender → LastKept q.reflector → QualityKept q
unfolding quality_at quality_words
quality_again q l s r = λ i. record {
  samples = q.samples;
  both = q.both;
  unsynchronized = q.unsynchronized;
  invalid = q.invalid;
  unknown = q.unknown;
  invalid_sender = q.invalid_sender;
  invalid_reflector = q.invalid_reflector;
  invalid_both = q.invalid_both;
  largest = l i;
  sender = s i;
  reflector = r i;
}
