-- A matched follow-up in the words: two counts, the delay and the clock quality, one after the other, are all that there is of follow-ups.
-- Assumes nothing.
use Rattle.std.specs.Prelude.{Ok}
use mathlib.Core.Path.{◌≡◌, refl, sym, ap, ◌∙◌, subst}
use mathlib.Core.List.{List}
use Prim.Native.Nat.{ℕ, ◌+◌, ◌≤◌}
use native.Mathlib.Omega.{arith}
use lib.IntN.{ℤ}
use lib.ListN.{get_or, set}
use lib.Seq.{sets, set-get_or}
use Rattle.clock_quality.specs.declared.ClockQuality.{ClockQuality}
use Rattle.clock_quality.specs.Bounds as quality
use Rattle.clock_quality.specs.Quality as clock_quality
use Rattle.correlation.specs.declared.follow.Match.{Match}
use Rattle.correlation.specs.Class.{delay_of}
use Rattle.delays.specs.declared.Delays.{Delays}
use Rattle.delays.specs.Bounds as delays
use Rattle.delays.specs.Delays.{recorded_of}
use Rattle.delays.specs.Sums.{nanoseconds_of}
use Rattle.follow_ups.specs.Bounds.{InBounds}
use Rattle.follow_ups.specs.Followed.{estimates_of, counted, followed}
use Rattle.host_quality.specs.Words.{quality_at, quality_words}
use Rattle.host_ledger.specs.Parts.{delays_at, delays_words, follow_at, follow_counts_words, follow_words}
use Rattle.host_observe_words.proofs.Parts.{Beyond, beyond_set, beyond_sets}

-- one observation and one match more
abbrev pub two_more : List ℕ → List ℕ
two_more w = set (set w 44 (get_or w 44 0 + 1)) 45 (get_or w 45 0 + 1)

two_beyond : (w : List ℕ) → Beyond 46 (two_more w) w
two_beyond w =
    beyond_set 46 (set w 44 (get_or w 44 0 + 1)) w 45 (get_or w 45 0 + 1) (omega arith)
    (beyond_set 46 w w 44 (get_or w 44 0 + 1) (omega arith) (λ j l. refl))

-- and the delay
abbrev pub delayed : List ℕ → Delays → List ℕ
delayed w d = sets (two_more w) 50 (delays_words d)

delayed_beyond : (w : List ℕ) (d : Delays) → Beyond 58 (delayed w d) w
unfolding delays_words
delayed_beyond w d = beyond_sets (delays_words d) 58 (two_more w) w 50 (omega arith) (λ j l. two_beyond w j (omega arith))

-- ---- what is read there is what was there before

delay-same : (w : List ℕ) → delays_at 50 (two_more w) ≡ (follow_at 44 w).delay
unfolding follow_at
delay-same w =
    let b = two_beyond w in
    rw (b 50 (omega arith), b 51 (omega arith), b 52 (omega arith), b 53 (omega arith), b 54 (omega arith), b 55 (omega arith), b 56 (omega arith), b 57 (omega arith))

quality-same : (w : List ℕ) (d : Delays) → quality_at 58 (delayed w d) ≡ (follow_at 44 w).quality
unfolding follow_at quality_at
quality-same w d =
    let b = delayed_beyond w d in
    rw (b 58 (omega arith), b 59 (omega arith), b 60 (omega arith), b 61 (omega arith), b 62 (omega arith), b 63 (omega arith), b 64 (omega arith), b 65 (omega arith), b 66 (omega arith), b 67 (omega arith), b 68 (omega arith), b 69 (omega arith), b 70 (omega arith), b 71 (omega arith))

pub delay_bounded : (w : List ℕ) → InBounds (follow_at 44 w) → delays.Bounded (delays_at 50 (two_more w))
delay_bounded w h = subst delays.Bounded (sym (delay-same w)) h.delay

pub quality_bounded : (w w₂ : List ℕ) (d : Delays) → InBounds (follow_at 44 w) → w₂ ≡ delayed w d → quality.Bounded (quality_at 58 w₂)
quality_bounded w w₂ d h e = subst quality.Bounded (sym (ap (quality_at 58) e ∙ quality-same w d)) h.quality

-- ---- what is stored

-- the counts of the other classes stay
stays : (w : List ℕ) (i : ℕ) → 46 ≤ i → set (two_more w) i (get_or w i 0) ≡ two_more w
stays w i h = ap (set (two_more w) i) (sym (two_beyond w i h)) ∙ set-get_or (two_more w) i 0

counts-stored : (w : List ℕ) (m : Match) → two_more w ≡ sets w 44 (follow_counts_words (counted (Ok m) (follow_at 44 w).counts))
unfolding follow_at
counts-stored w m = sym (
    ap (λ (v : List ℕ). set (set (set v 47 (get_or w 47 0)) 48 (get_or w 48 0)) 49 (get_or w 49 0)) (stays w 46 (omega arith))
    ∙ ap (λ (v : List ℕ). set (set v 48 (get_or w 48 0)) 49 (get_or w 49 0)) (stays w 47 (omega arith))
    ∙ ap (λ (v : List ℕ). set v 49 (get_or w 49 0)) (stays w 48 (omega arith))
    ∙ stays w 49 (omega arith))

-- the three parts are the words of all
joined : (w : List ℕ) (f : ClockQuality) (d : Delays) (m : Match) (offset : ℤ)
    → d ≡ (followed (follow_at 44 w) (Ok m) offset).delay → f ≡ (followed (follow_at 44 w) (Ok m) offset).quality
    → sets (sets (sets w 44 (follow_counts_words (counted (Ok m) (follow_at 44 w).counts))) 50 (delays_words d)) 58 (quality_words f)
    ≡ sets w 44 (follow_words (followed (follow_at 44 w) (Ok m) offset))
unfolding followed follow_words delays_words
joined w f d m offset ed ef =
    λ i. sets (sets (sets w 44 (follow_counts_words (counted (Ok m) (follow_at 44 w).counts))) 50 (delays_words (ed i))) 58 (quality_words (ef i))

pub matched_as :
    (w w₂ w₃ : List ℕ) (m : Match) (offset given : ℤ) → given ≡ offset
    → w₂ ≡ sets (two_more w) 50 (delays_words (recorded_of (delays_at 50 (two_more w)) (nanoseconds_of (delay_of m.t4 m.t3 given))))
    → w₃ ≡ sets w₂ 58 (quality_words (clock_quality.recorded_of (quality_at 58 w₂) (estimates_of m.quality)))
    → w₃ ≡ sets w 44 (follow_words (followed (follow_at 44 w) (Ok m) offset))
unfolding followed
matched_as w w₂ w₃ m offset given eg e₂ e₃ =
    e₃
    ∙ ap (λ (v : List ℕ). sets v 58 (quality_words (clock_quality.recorded_of (quality_at 58 v) (estimates_of m.quality)))) second
    ∙ ap (λ (q : ClockQuality). sets (delayed w after) 58 (quality_words (clock_quality.recorded_of q (estimates_of m.quality)))) (quality-same w after)
    ∙ ap (λ (v : List ℕ). sets (sets v 50 (delays_words after)) 58 (quality_words (clock_quality.recorded_of (follow_at 44 w).quality (estimates_of m.quality)))) (counts-stored w m)
    ∙ joined w (clock_quality.recorded_of (follow_at 44 w).quality (estimates_of m.quality)) after m offset refl refl
  where
    after : Delays
    after = recorded_of (follow_at 44 w).delay (nanoseconds_of (delay_of m.t4 m.t3 offset))

    second : w₂ ≡ delayed w after
    second = e₂ ∙ (λ i. sets (two_more w) 50 (delays_words (recorded_of (delay-same w i) (nanoseconds_of (delay_of m.t4 m.t3 (eg i))))))
