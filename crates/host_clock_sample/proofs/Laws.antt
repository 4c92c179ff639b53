-- What a sample leaves in the words of a clock quality. Assumes nothing.
use Rattle.std.specs.Prelude.{Option, Some, None}
use mathlib.Core.Path.{◌≡◌, refl, sym, ap, ◌∙◌}
use mathlib.Core.Bool.{Bool, true, false, ◌&&◌}
use mathlib.Core.List.{List, [], ◌∷◌}
use Prim.Native.Nat.{ℕ, ◌+◌, ◌-◌, ◌*◌, ◌<◌}
use native.Mathlib.Omega.{arith}
use lib.Ieee.{Float, binary64, add, to_bits}
use lib.ListN.{get_or, set}
use lib.Seq.{sets, get_or-set_other}
use Rattle.estimate.specs.declared.ErrorEstimate.{ErrorEstimate}
use Rattle.estimate.specs.declared.Reading.TheVariants.{Known}
use Rattle.estimate.specs.Make.{is_ptp, format_of}
use Rattle.estimate.specs.Error.{reading_of}
use Rattle.estimate.specs.Wire.{estimate_of}
use Rattle.clock_quality.specs.declared.ClockQuality.{ClockQuality}
use Rattle.clock_quality.specs.Bounds.{Bounded}
use Rattle.clock_quality.specs.Quality as quality
use Rattle.clock_quality.specs.Quality.{Class, known_class, pair_class, is_known, is_both, is_unsynchronized, is_invalid, is_unknown, is_invalid_sender, is_invalid_reflector, is_invalid_both, counted, clock_estimate_of, larger_of, recorded_of}
use Rattle.follow_ups.specs.Followed.{estimates_of}
use Rattle.host_numbers.specs.Numbers.{flag_word}
use Rattle.host_quality.specs.Words.{error_bits, estimate_word, largest_word, largest_bits, largest_of, quality_at, quality_words}
use Rattle.host_ledger.proofs.Kept.{kept}
use Rattle.host_ledger_parts.specs.Last.{quality_without_last}

-- ---- a sample of any kind

pub bounded_without : (q : ClockQuality) → Bounded q → Bounded (quality_without_last q)
bounded_without q b = record {
  samples = b.samples;
  both = b.both;
  unsynchronized = b.unsynchronized;
  invalid = b.invalid;
  unknown = b.unknown;
  invalid_sender = b.invalid_sender;
  invalid_reflector = b.invalid_reflector;
  invalid_both = b.invalid_both;
}

-- it replaces both last estimates
replaces : (q : ClockQuality) (e : Option (ErrorEstimate × ErrorEstimate)) → recorded_of (quality_without_last q) e ≡ recorded_of q e
replaces q None = refl
replaces q (Some (s, r)) = refl

pub any-as :
    (w w' : List ℕ) (x : Option (ℕ × ℕ)) (before after : ClockQuality) (e : Option (ErrorEstimate × ErrorEstimate))
    → before ≡ quality_without_last (quality_at 58 w) → e ≡ estimates_of x → after ≡ recorded_of before e → w' ≡ sets w 58 (quality_words after)
    → w' ≡ sets w 58 (quality_words (recorded_of (quality_at 58 w) (estimates_of x)))
any-as w w' x before after e e₁ e₂ e₃ e₄ =
    e₄ ∙ ap (λ (q : ClockQuality). sets w 58 (quality_words q)) (e₃ ∙ (λ i. recorded_of (e₁ i) (e₂ i)) ∙ replaces (quality_at 58 w) (estimates_of x))

-- the same words whichever way the wires are written
pub told_as : (w w' : List ℕ) (x y : Option (ℕ × ℕ)) → x ≡ y → w' ≡ sets w 58 (quality_words (recorded_of (quality_at 58 w) (estimates_of y)))
    → w' ≡ sets w 58 (quality_words (recorded_of (quality_at 58 w) (estimates_of x)))
told_as w w' x y e h = h ∙ ap (λ (z : Option (ℕ × ℕ)). sets w 58 (quality_words (recorded_of (quality_at 58 w) (estimates_of z)))) (sym e)

-- ---- both errors known: what is stored, and what stays

module _ (w : List ℕ) (a n u : ℕ) where
  abbrev three : List ℕ
  three = set (set (set w 58 a) 59 n) 60 u

  other : (i : ℕ) → 60 < i → get_or three i 0 ≡ get_or w i 0
  other i h =
      get_or-set_other (set (set w 58 a) 59 n) 60 i u 0 (λ e. omega (arith, h, e))
      ∙ get_or-set_other (set w 58 a) 59 i n 0 (λ e. omega (arith, h, e))
      ∙ get_or-set_other w 58 i a 0 (λ e. omega (arith, h, e))

  stays : (i : ℕ) → 60 < i → set three i (get_or w i 0) ≡ three
  stays i h = kept three w i (other i h)

  five : set (set (set (set (set three 61 (get_or w 61 0)) 62 (get_or w 62 0)) 63 (get_or w 63 0)) 64 (get_or w 64 0)) 65 (get_or w 65 0) ≡ three
  five =
      ap (λ (v : List ℕ). set (set (set (set v 62 (get_or w 62 0)) 63 (get_or w 63 0)) 64 (get_or w 64 0)) 65 (get_or w 65 0)) (stays 61 (omega arith))
      ∙ ap (λ (v : List ℕ). set (set (set v 63 (get_or w 63 0)) 64 (get_or w 64 0)) 65 (get_or w 65 0)) (stays 62 (omega arith))
      ∙ ap (λ (v : List ℕ). set (set v 64 (get_or w 64 0)) 65 (get_or w 65 0)) (stays 63 (omega arith))
      ∙ ap (λ (v : List ℕ). set v 65 (get_or w 65 0)) (stays 64 (omega arith))
      ∙ stays 65 (omega arith)

  stored : (k l p x q y : ℕ)
      → set (set (set (set (set (set three 66 k) 67 l) 68 p) 69 x) 70 q) 71 y
      ≡ sets w 58 (a ∷ n ∷ u ∷ get_or w 61 0 ∷ get_or w 62 0 ∷ get_or w 63 0 ∷ get_or w 64 0 ∷ get_or w 65 0 ∷ k ∷ l ∷ p ∷ x ∷ q ∷ y ∷ [])
  stored k l p x q y = ap (λ (v : List ℕ). set (set (set (set (set (set v 66 k) 67 l) 68 p) 69 x) 70 q) 71 y) (sym five)

-- ---- the words themselves

both-counts : (b : Bool) (n : ℕ) → n + flag_word b ≡ counted (is_both (known_class b)) n
both-counts true n = refl
both-counts false n = zero_more n
  where
    zero_more : (n : ℕ) → n + 0 ≡ n
    zero_more n = omega arith

apart-counts : (b : Bool) (n : ℕ) → n + (1 - flag_word b) ≡ counted (is_unsynchronized (known_class b)) n
apart-counts true n = zero_more n
  where
    zero_more : (n : ℕ) → n + 0 ≡ n
    zero_more n = omega arith
apart-counts false n = refl

-- the other counts stay
no_invalid : (b : Bool) (n : ℕ) → n ≡ counted (is_invalid (known_class b)) n
no_invalid true n = refl
no_invalid false n = refl

no_unknown : (b : Bool) (n : ℕ) → n ≡ counted (is_unknown (known_class b)) n
no_unknown true n = refl
no_unknown false n = refl

no_sender : (b : Bool) (n : ℕ) → n ≡ counted (is_invalid_sender (known_class b)) n
no_sender true n = refl
no_sender false n = refl

no_reflector : (b : Bool) (n : ℕ) → n ≡ counted (is_invalid_reflector (known_class b)) n
no_reflector true n = refl
no_reflector false n = refl

no_both : (b : Bool) (n : ℕ) → n ≡ counted (is_invalid_both (known_class b)) n
no_both true n = refl
no_both false n = refl

one_largest : (m : Option Float) (t : Float) → 1 ≡ largest_word (larger_of m t)
one_largest None t = refl
one_largest (Some x) t = refl

-- the first word of an estimate whose error is known
known_word : (e f : ErrorEstimate) (r : ℕ) (x : Float) → f ≡ e → reading_of e ≡ Known x
    → r ≡ 9 + flag_word f.synchronized * 2 + flag_word f.ptp * 4 + f.scale * 256 + f.multiplier * 65536 → r ≡ estimate_word (clock_estimate_of e)
unfolding estimate_word
known_word e f r x ef ek er =
    er
    ∙ ap (λ (g : ErrorEstimate). 9 + flag_word g.synchronized * 2 + flag_word g.ptp * 4 + g.scale * 256 + g.multiplier * 65536) ef
    ∙ shape (flag_word e.synchronized) (flag_word e.ptp) e.scale e.multiplier
    ∙ (λ i. 1 + flag_word e.synchronized * 2 + flag_word (format e.ptp i) * 4 + flag_word (is_known (sym ek i)) * 8 + e.scale * 256 + e.multiplier * 65536)
  where
    shape : (a b c d : ℕ) → 9 + a * 2 + b * 4 + c * 256 + d * 65536 ≡ 1 + a * 2 + b * 4 + 1 * 8 + c * 256 + d * 65536
    shape a b c d = omega arith

    format : (b : Bool) → b ≡ is_ptp (format_of b)
    format true = refl
    format false = refl

module _
    (w : List ℕ) (s r : ℕ) (x y : Float) (hs : reading_of (estimate_of s) ≡ Known x) (hr : reading_of (estimate_of r) ≡ Known y)
    (f g : ErrorEstimate) (ef : f ≡ estimate_of s) (eg : g ≡ estimate_of r)
  where
    abbrev synced : Bool
    synced = (estimate_of s).synchronized && (estimate_of r).synchronized

    abbrev class : Class
    class = pair_class (is_known (reading_of (estimate_of s))) (is_known (reading_of (estimate_of r))) synced

    class_is : known_class synced ≡ class
    class_is = λ i. pair_class (is_known (sym hs i)) (is_known (sym hr i)) synced

    pub known_as :
        (c l p bx q by : ℕ) (before after : Option Float)
        → c ≡ flag_word (f.synchronized && g.synchronized)
        → before ≡ largest_of (get_or w 66 0) (get_or w 67 0) → after ≡ larger_of before (add binary64 x y) → l ≡ largest_bits after
        → p ≡ 9 + flag_word f.synchronized * 2 + flag_word f.ptp * 4 + f.scale * 256 + f.multiplier * 65536 → bx ≡ to_bits binary64 x
        → q ≡ 9 + flag_word g.synchronized * 2 + flag_word g.ptp * 4 + g.scale * 256 + g.multiplier * 65536 → by ≡ to_bits binary64 y
        → set (set (set (set (set (set (set (set (set w 58 (get_or w 58 0 + 1)) 59 (get_or w 59 0 + c)) 60 (get_or w 60 0 + (1 - c))) 66 1) 67 l) 68 p) 69 bx) 70 q) 71 by
        ≡ sets w 58 (quality_words (recorded_of (quality_at 58 w) (estimates_of (Some (s, r)))))
    unfolding quality_words quality_at
    known_as c l p bx q by before after ec eb ea el ep ebx eq eby =
        stored w (get_or w 58 0 + 1) (get_or w 59 0 + c) (get_or w 60 0 + (1 - c)) 1 l p bx q by
        ∙ ap (sets w 58) (λ i.
        (get_or w 58 0 + 1)
        ∷ ((ap (λ (n : ℕ). get_or w 59 0 + n) sync ∙ both-counts synced (get_or w 59 0) ∙ ap (λ (k : Class). counted (is_both k) (get_or w 59 0)) class_is) i)
        ∷ ((ap (λ (n : ℕ). get_or w 60 0 + (1 - n)) sync ∙ apart-counts synced (get_or w 60 0) ∙ ap (λ (k : Class). counted (is_unsynchronized k) (get_or w 60 0)) class_is) i)
        ∷ ((no_invalid synced (get_or w 61 0) ∙ ap (λ (k : Class). counted (is_invalid k) (get_or w 61 0)) class_is) i)
        ∷ ((no_unknown synced (get_or w 62 0) ∙ ap (λ (k : Class). counted (is_unknown k) (get_or w 62 0)) class_is) i)
        ∷ ((no_sender synced (get_or w 63 0) ∙ ap (λ (k : Class). counted (is_invalid_sender k) (get_or w 63 0)) class_is) i)
        ∷ ((no_reflector synced (get_or w 64 0) ∙ ap (λ (k : Class). counted (is_invalid_reflector k) (get_or w 64 0)) class_is) i)
        ∷ ((no_both synced (get_or w 65 0) ∙ ap (λ (k : Class). counted (is_invalid_both k) (get_or w 65 0)) class_is) i)
        ∷ ((one_largest (largest_of (get_or w 66 0) (get_or w 67 0)) (add binary64 x y) ∙ ap largest_word larger_is) i)
        ∷ ((el ∙ ap largest_bits (ea ∙ ap (λ (m : Option Float). larger_of m (add binary64 x y)) eb ∙ larger_is)) i)
        ∷ (known_word (estimate_of s) f p x ef hs ep i)
        ∷ ((ebx ∙ ap error_bits (sym hs)) i)
        ∷ (known_word (estimate_of r) g q y eg hr eq i)
        ∷ ((eby ∙ ap error_bits (sym hr)) i)
        ∷ [])
      where
        sync : c ≡ flag_word synced
        sync = ec ∙ (λ i. flag_word ((ef i).synchronized && (eg i).synchronized))

        larger_is : larger_of (largest_of (get_or w 66 0) (get_or w 67 0)) (add binary64 x y) ≡ quality.largest_of (largest_of (get_or w 66 0) (get_or w 67 0)) (reading_of (estimate_of s)) (reading_of (estimate_of r))
        larger_is = λ i. quality.largest_of (largest_of (get_or w 66 0) (get_or w 67 0)) (sym hs i) (sym hr i)
