-- THE THEOREM for a host. Make sixteen words fresh, and record any samples, each call given what the last one left, refused ones included. Then every
-- count, the last estimates and the largest error that the words say follow from the plain list of the samples served. Assumes nothing.
use Rattle.std.specs.Prelude.{Option, Some, None}
use Rattle.estimate.specs.declared.ErrorEstimate.{ErrorEstimate}
use mathlib.Core.Path.{◌≡◌, refl, sym, ◌∙◌, ap, subst}
use mathlib.Core.Bool.{Bool, true, false, ◌&&◌, cond}
use mathlib.Core.List.{List, [], ◌∷◌}
use Prim.Native.Nat.{ℕ, suc, ◌+◌, ◌%◌, ◌≤◌, ◌<◌}
use native.Mathlib.Nat.{lt_of_le_of_lt}
use native.Mathlib.Omega.{arith}
use borrow.Author.Tests.{lt-ltb}
use lib.Dec.{T, ltb, ltb→lt}
use lib.ListN.{length}
use lib.Seq.{sets, length-sets}
use Rattle.limits.specs.Limits.{count_bound}
use Rattle.limits.specs.Refusals.{counts_full}
use Rattle.limits.specs.declared.Refusal.TheVariants as refusal
use Rattle.host_numbers.specs.Numbers.{is_set}
use Rattle.host_quality.specs.Words.{quality_at, quality_words}
use Rattle.estimate.specs.Wire.{estimate_of}
use Rattle.clock_quality.specs.declared.ClockQuality.{ClockQuality}
use Rattle.clock_quality.specs.Quality.{Class, counted, is_both, is_unsynchronized, is_invalid, is_unknown, is_invalid_sender, is_invalid_reflector, is_invalid_both, fresh, recorded_of}
use Rattle.clock_quality.specs.Bounds.{counts_fit, answer, state_after}
use Rattle.clock_quality.specs.Samples.{class_of, count, Largest, InRange, played, Shows, AddsUp}
use Rattle.clock_quality.proofs.Samples.{played-shows, played_adds_up}
use Rattle.clock_quality.proofs.Largest.{largest_among_lem}
use Rattle.host_clock_quality.specs.Calls.{fresh_to, record_after, record_to}
use Rattle.host_clock_quality.proofs.Back.{fresh_is_read, record_is_read}
use Rattle.host_clock_quality_summary.specs.Summary.{Summary}
use Rattle.host_snapshot_words.specs.Words as shown
use Rattle.host_clock_quality_meaning.specs.Recorded.{Told, sample_of, served, number_after, words_after}

-- ---- which samples are served: no count is above the number of samples, so that number alone decides

counted_one : (b : Bool) (n m : ℕ) → n ≤ m → counted b n ≤ suc m
counted_one true n m l = omega arith
counted_one false n m l = omega arith

count-at-most : (test : Class → Bool) (es : List (Option (ErrorEstimate × ErrorEstimate))) → count test es ≤ length es
unfolding count
count-at-most test [] = omega arith
count-at-most test (e ∷ es) = counted_one (test (class_of e)) (count test es) (length es) (count-at-most test es)

below : (test : Class → Bool) (es : List (Option (ErrorEstimate × ErrorEstimate))) (n : ℕ) → n ≡ count test es → length es < count_bound → ltb n count_bound ≡ true
below test es n e l = lt-ltb n count_bound (subst (λ (m : ℕ). m < count_bound) (sym e) (lt_of_le_of_lt (count-at-most test es) l))

pub fit_by-length : (es : List (Option (ErrorEstimate × ErrorEstimate))) → counts_fit (played es) ≡ ltb (length es) count_bound
fit_by-length es = by (ltb (length es) count_bound) refl
  where
    s : Shows es (played es)
    s = played-shows es

    by : (b : Bool) → ltb (length es) count_bound ≡ b → counts_fit (played es) ≡ b
    by true h =
        let l = ltb→lt (length es) count_bound (subst T (sym h) tt) in
        let q = played es in
        λ i. (ap (λ (n : ℕ). ltb n count_bound) s.samples ∙ h) i
        && below is_both es q.both s.both l i
        && below is_unsynchronized es q.unsynchronized s.unsynchronized l i
        && below is_invalid es q.invalid s.invalid l i
        && below is_unknown es q.unknown s.unknown l i
        && below is_invalid_sender es q.invalid_sender s.invalid_sender l i
        && below is_invalid_reflector es q.invalid_reflector s.invalid_reflector l i
        && below is_invalid_both es q.invalid_both s.invalid_both l i
    by false h =
        let q = played es in
        ap (λ (b : Bool). b && ltb q.both count_bound && ltb q.unsynchronized count_bound && ltb q.invalid count_bound && ltb q.unknown count_bound && ltb q.invalid_sender count_bound && ltb q.invalid_reflector count_bound && ltb q.invalid_both count_bound)
        (ap (λ (n : ℕ). ltb n count_bound) s.samples ∙ h)

-- ---- what the words say

after-length : (ws : List ℕ) (ts : List Told) → length (words_after ws ts) ≡ length ws
unfolding words_after fresh_to record_to
after-length ws [] = length-sets ws 0 (quality_words fresh)
after-length ws (t ∷ ts) = by (counts_fit (quality_at 0 (words_after ws ts))) ∙ after-length ws ts
  where
    by : (b : Bool) → length (record_after (answer (cond b None (Some refusal.CountsFull)) (recorded_of (quality_at 0 (words_after ws ts)) (sample_of t))) (words_after ws ts)).words ≡ length (words_after ws ts)
    by true = length-sets (words_after ws ts) 0 (quality_words (recorded_of (quality_at 0 (words_after ws ts)) (sample_of t)))
    by false = refl

pub words-played : (ws : List ℕ) (ts : List Told) → length ws ≡ 16 → quality_at 0 (words_after ws ts) ≡ played (served ts)
unfolding words_after served played
words-played ws [] h = fresh_is_read ws h
words-played ws (t ∷ ts) h =
    record_is_read (words_after ws ts) t.estimated t.sender t.reflector (after-length ws ts ∙ h)
    ∙ ap (λ (q : ClockQuality). state_after q (answer (cond (counts_fit q) None (Some refusal.CountsFull)) (recorded_of q (sample_of t)))) (words-played ws ts h)
    ∙ ap (λ (b : Bool). state_after (played (served ts)) (answer (cond b None (Some refusal.CountsFull)) (recorded_of (played (served ts)) (sample_of t)))) (fit_by-length (served ts))
    ∙ by (ltb (length (served ts)) count_bound)
  where
    by : (b : Bool) → state_after (played (served ts)) (answer (cond b None (Some refusal.CountsFull)) (recorded_of (played (served ts)) (sample_of t))) ≡ played (cond b (sample_of t ∷ served ts) (served ts))
    by true = refl
    by false = refl

-- and the number that the next call answers
pub number_is : (ws : List ℕ) (ts : List Told) (t : Told) → length ws ≡ 16 → (record_to (words_after ws ts) t.estimated t.sender t.reflector).number ≡ number_after ts
unfolding record_to
number_is ws ts t h =
    ap (λ (q : ClockQuality). (record_after (answer (cond (counts_fit q) None (Some refusal.CountsFull)) (recorded_of q (sample_of t))) (words_after ws ts)).number) (words-played ws ts h)
    ∙ ap (λ (b : Bool). (record_after (answer (cond b None (Some refusal.CountsFull)) (recorded_of (played (served ts)) (sample_of t))) (words_after ws ts)).number) (fit_by-length (served ts))
    ∙ by (ltb (length (served ts)) count_bound)
  where
    by : (b : Bool) → (record_after (answer (cond b None (Some refusal.CountsFull)) (recorded_of (played (served ts)) (sample_of t))) (words_after ws ts)).number ≡ cond b 0 counts_full
    by true = refl
    by false = refl

-- ---- THE THEOREM: each count and both last estimates; that the invalid ones add up; that the largest error is the largest

pub words-show : (ws : List ℕ) (ts : List Told) → length ws ≡ 16 → Shows (served ts) (quality_at 0 (words_after ws ts))
words-show ws ts h = subst (Shows (served ts)) (sym (words-played ws ts h)) (played-shows (served ts))

pub words-add_up : (ws : List ℕ) (ts : List Told) → length ws ≡ 16 → AddsUp (quality_at 0 (words_after ws ts))
words-add_up ws ts h = subst AddsUp (sym (words-played ws ts h)) (played_adds_up (served ts))

-- what 16 bits say has a multiplier of eight
in_range_lem : (ts : List Told) → InRange (served ts)
unfolding served
in_range_lem [] = tt
in_range_lem (t ∷ ts) = by (ltb (length (served ts)) count_bound) (is_set t.estimated) (in_range_lem ts)
  where
    eight : (n : ℕ) → n % 256 < 256
    eight n = omega arith

    by : (b e : Bool) → InRange (served ts) → InRange (cond b (cond e (Some (estimate_of t.sender, estimate_of t.reflector)) None ∷ served ts) (served ts))
    by true true rest = (eight t.sender, eight t.reflector, rest)
    by true false rest = rest
    by false e rest = rest

pub words-largest : (ws : List ℕ) (ts : List Told) → length ws ≡ 16 → Largest (served ts) (quality_at 0 (words_after ws ts)).largest
words-largest ws ts h = subst (Largest (served ts)) (sym (words-show ws ts h).largest) (largest_among_lem (served ts) (in_range_lem ts))

-- so the summary's words show the quality of the plain list
pub summary-shows : (ws : List ℕ) (ts : List Told) (number : ℕ) (after : List ℕ) → length ws ≡ 16 → Summary (words_after ws ts) number after
    → (number ≡ 0) × (after ≡ shown.quality_words (played (served ts)))
summary-shows ws ts number after h s = (s.served, s.words ∙ ap shown.quality_words (words-played ws ts h))
