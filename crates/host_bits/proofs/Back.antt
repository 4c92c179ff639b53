-- What a call leaves in a summary's eight words is what the next call reads, so calls one after the other on the words are those of crate
-- bit_summary; and a refusal changes nothing. Assumes nothing.
use Rattle.std.specs.Prelude.{Option, Some, None, Result, Ok, Err}
use Rattle.limits.specs.declared.Refusal.{Refusal}
use Rattle.limits.specs.declared.Refusal.TheVariants as refusal
use mathlib.Core.Path.{◌≡◌, refl, sym, ap, ◌∙◌, subst}
use mathlib.Core.Bool.{Bool, true, false, cond}
use mathlib.Core.List.{List, [], ◌∷◌}
use Prim.Native.Nat.{ℕ, ◌^◌, ◌<◌}
use native.Mathlib.Nat.{mod-eq_of_lt}
use native.Mathlib.Omega.{arith}
use lib.Dec.{eqb, ltb}
use lib.ListN.{length, get_or}
use lib.Seq.{sets, length-sets}
use Rattle.request_limits.specs.Refusals.{most_bits}
use Rattle.host_numbers.specs.Numbers.{lower}
use Rattle.bit_summary.specs.declared.Sample.{Sample}
use Rattle.bit_summary.specs.declared.DirectionSummary.{DirectionSummary}
use Rattle.bit_summary.specs.Summary.{fresh, with_burst, recorded_of}
use Rattle.bit_summary.specs.Record as record-call
use Rattle.bit_summary.specs.Samples.{Shows, played, served}
use Rattle.bit_summary.proofs.Shows.{played-shows}
use Rattle.host_bits.specs.Words.{burst_from, known, word_of, summary_at, summary_words}
use Rattle.host_bits.specs.Calls.{fresh_to, record_by, record_to}

-- what holds of every eight words holds of a list of eight
eight : (P : List ℕ → Type 0) → ((a b c d e f g h : ℕ) → P (a ∷ b ∷ c ∷ d ∷ e ∷ f ∷ g ∷ h ∷ [])) → (ws : List ℕ) → length ws ≡ 8 → P ws
eight P each [] h = absurd (omega arith)
eight P each (a ∷ []) h = absurd (omega arith)
eight P each (a ∷ b ∷ []) h = absurd (omega arith)
eight P each (a ∷ b ∷ c ∷ []) h = absurd (omega arith)
eight P each (a ∷ b ∷ c ∷ d ∷ []) h = absurd (omega arith)
eight P each (a ∷ b ∷ c ∷ d ∷ e ∷ []) h = absurd (omega arith)
eight P each (a ∷ b ∷ c ∷ d ∷ e ∷ f ∷ []) h = absurd (omega arith)
eight P each (a ∷ b ∷ c ∷ d ∷ e ∷ f ∷ g ∷ []) h = absurd (omega arith)
eight P each (a ∷ b ∷ c ∷ d ∷ e ∷ f ∷ g ∷ i ∷ []) h = each a b c d e f g i
eight P each (a ∷ b ∷ c ∷ d ∷ e ∷ f ∷ g ∷ i ∷ j ∷ l) h = absurd (omega arith)

-- a burst that fits its u32
abbrev pub Small : Option ℕ → Type 0
Small None = Unit {0}
Small (Some n) = n < 2 ^ 32

burst-back : (b : Option ℕ) → Small b → burst_from (known b) (lower (word_of b)) ≡ b
burst-back None h = refl
burst-back (Some n) h = ap Some (mod-eq_of_lt h)

-- what is stored is read back
pub stored_is_read : (ws : List ℕ) (d : DirectionSummary) → length ws ≡ 8 → Small d.longest → summary_at (sets ws 0 (summary_words d)) ≡ d
stored_is_read ws d h s =
    eight (λ (ws : List ℕ). summary_at (sets ws 0 (summary_words d)) ≡ d)
    (λ a b c e f g i j. λ k. record { received = d.received; faulty = d.faulty; bits = d.bits; errors = d.errors; bursts = d.bursts; sum = d.sum; longest = burst-back d.longest s k })
    ws h

-- a fresh summary is read as one
pub fresh_is_read : (ws : List ℕ) → length ws ≡ 8 → summary_at (fresh_to ws).words ≡ fresh
unfolding fresh_to
fresh_is_read ws h = stored_is_read ws fresh h tt

-- what the words say fits, and what a sample leaves
from_small : (told n : ℕ) → n < 2 ^ 32 → Small (burst_from told n)
from_small told n h = by (eqb told 0)
  where
    by : (b : Bool) → Small (cond b None (Some n))
    by true = tt
    by false = h

with-small : (b c : Option ℕ) → Small b → Small c → Small (with_burst b c)
with-small b None s t = s
with-small None (Some n) s t = t
with-small (Some m) (Some n) s t = omega arith

-- after `record`, served or refused, the words say the next summary of crate bit_summary
pub record_is_read : (ws : List ℕ) (bits errors told n : ℕ) → length ws ≡ 8 → n < 2 ^ 32
    → summary_at (record_to ws bits errors told n).words ≡ record-call.state_after (summary_at ws) (record-call.record_to (summary_at ws) (record { bits = bits; errors = errors; burst = burst_from told n }))
unfolding record_to record-call.record_to
record_is_read ws bits errors told n h s = by (ltb most_bits bits) (record-call.counts_fit (summary_at ws))
  where
    by : (a b : Bool) → let d = summary_at ws in
        let r = cond a (Err refusal.TooMuchPadding) (cond b (Ok (recorded_of d (record { bits = bits; errors = errors; burst = burst_from told n }))) (Err refusal.CountsFull)) in
        summary_at (record_by r ws).words ≡ record-call.state_after d r
    by true b = refl
    by false true =
        stored_is_read ws (recorded_of (summary_at ws) (record { bits = bits; errors = errors; burst = burst_from told n })) h
        (with-small (burst_from (get_or ws 6 0) (lower (get_or ws 7 0))) (burst_from told n) (from_small (get_or ws 6 0) (lower (get_or ws 7 0)) (omega arith)) (from_small told n s))
    by false false = refl

-- ---- calls one after the other, the newest first

-- what a host tells: bits, errors, whether the burst is known, the burst
pub record Told : Type 0 where
  pub bits : ℕ
  pub errors : ℕ
  pub known : ℕ
  pub burst : ℕ

abbrev pub sample_of : Told → Sample
sample_of t = record { bits = t.bits; errors = t.errors; burst = burst_from t.known t.burst }

unfoldable pub samples_of : List Told → List Sample
samples_of [] = []
samples_of (t ∷ ts) = sample_of t ∷ samples_of ts

-- each burst is a u32
abbrev pub AllSmall : List Told → Type 0
AllSmall [] = Unit {0}
AllSmall (t ∷ ts) = (t.burst < 2 ^ 32) × AllSmall ts

-- the words that a fresh call and then these leave
unfoldable pub words_after : List ℕ → List Told → List ℕ
words_after ws [] = (fresh_to ws).words
words_after ws (t ∷ ts) = (record_to (words_after ws ts) t.bits t.errors t.known t.burst).words

by_length : (r : Result DirectionSummary Refusal) (ws : List ℕ) → length (record_by r ws).words ≡ length ws
by_length (Ok d) ws = length-sets ws 0 (summary_words d)
by_length (Err e) ws = refl

after-length : (ws : List ℕ) (ts : List Told) → length (words_after ws ts) ≡ length ws
unfolding words_after fresh_to record_to
after-length ws [] = length-sets ws 0 (summary_words fresh)
after-length ws (t ∷ ts) =
    by_length (record-call.record_to (summary_at (words_after ws ts)) (sample_of t)) (words_after ws ts) ∙ after-length ws ts

-- they say what the samples leave
pub words-played : (ws : List ℕ) (ts : List Told) → length ws ≡ 8 → AllSmall ts → summary_at (words_after ws ts) ≡ played (samples_of ts)
unfolding words_after samples_of played
words-played ws [] h s = fresh_is_read ws h
words-played ws (t ∷ ts) h s =
    record_is_read (words_after ws ts) t.bits t.errors t.known t.burst (after-length ws ts ∙ h) s.0
    ∙ ap (λ (d : DirectionSummary). record-call.state_after d (record-call.record_to d (sample_of t))) (words-played ws ts h s.1)

-- so each count and sum in a host's words follows from the samples that were served
pub words-show : (ws : List ℕ) (ts : List Told) → length ws ≡ 8 → AllSmall ts → Shows (served (samples_of ts)) (summary_at (words_after ws ts))
words-show ws ts h s = subst (Shows (served (samples_of ts))) (sym (words-played ws ts h s)) (played-shows (samples_of ts))

-- ---- a refusal changes nothing

pub record-refused-unchanged : (ws : List ℕ) (bits errors told n : ℕ) → ((record_to ws bits errors told n).number ≡ 0 → ⊥) → (record_to ws bits errors told n).words ≡ ws
unfolding record_to
record-refused-unchanged ws bits errors told n =
    by (record-call.record_to (summary_at ws) (record { bits = bits; errors = errors; burst = burst_from told n }))
  where
    by : (a : Result DirectionSummary Refusal) → ((record_by a ws).number ≡ 0 → ⊥) → (record_by a ws).words ≡ ws
    by (Ok d) r = absurd (r refl)
    by (Err e) r = refl
