-- What the proofs of the calls cite. Assumes nothing.
use Rattle.std.specs.Prelude.{Option, Some, None, Result, Ok, Err}
use mathlib.Core.Path.{◌≡◌, refl, sym, ap, ◌∙◌}
use mathlib.Core.Bool.{Bool, true, false, not, cond}
use mathlib.Core.List.{List}
use Prim.Native.Nat.{ℕ}
use lib.ListN.{get_or, set}
use lib.Seq.{sets}
use borrow.Author.Tests.{eq-eqb, ne_eqb}
use Rattle.estimate.specs.declared.ErrorEstimate.{ErrorEstimate}
use Rattle.estimate.specs.Wire.{estimate_of}
use Rattle.clock_quality.specs.declared.ClockQuality.{ClockQuality}
use Rattle.limits.specs.declared.Refusal.{Refusal}
use Rattle.limits.specs.Numbers.{number_of}
use Rattle.clock_quality.specs.Quality.{fresh, recorded_of}
use Rattle.clock_quality.specs.Bounds.{refusal_of, answer}
use Rattle.host_quality.specs.declared.LastWords.{LastWords}
use Rattle.host_quality.specs.Words.{last_of, last_word, last_bits, largest_of, largest_word, largest_bits, quality_at, quality_words}
use Rattle.host_clock_quality.specs.Calls.{left, estimates_from, fresh_to, record_after, record_of, record_to}

-- ---- the estimates

pub estimates_there : (estimated sender reflector : ℕ) (s r : ErrorEstimate) → (estimated ≡ 0 → ⊥) → s ≡ estimate_of sender → r ≡ estimate_of reflector
    → Some (s, r) ≡ estimates_from estimated sender reflector
estimates_there estimated sender reflector s r there p q =
    ap (λ (e : ErrorEstimate). Some (e, r)) p
    ∙ ap (λ (e : ErrorEstimate). Some (estimate_of sender, e)) q
    ∙ sym (ap (λ (b : Bool). cond (not b) (Some (estimate_of sender, estimate_of reflector)) None) (ne_eqb estimated 0 there))

pub estimates-absent : (estimated sender reflector : ℕ) → estimated ≡ 0 → None ≡ estimates_from estimated sender reflector
estimates-absent estimated sender reflector absent =
    sym (ap (λ (b : Bool). cond (not b) (Some (estimate_of sender, estimate_of reflector)) None) (eq-eqb estimated 0 absent))

-- ---- the calls

module _ (ws : List ℕ) (estimated sender reflector : ℕ) (q : ClockQuality) (e : Option (ErrorEstimate × ErrorEstimate)) (r : Result ClockQuality Refusal)
    (is : q ≡ quality_at 0 ws) (given : e ≡ estimates_from estimated sender reflector) (answers : r ≡ answer (refusal_of q) (recorded_of q e)) where
  -- what the library answers is what it answers of the quality that the words say
  from_answer : r ≡ record_of ws estimated sender reflector
  from_answer =
      answers
      ∙ ap (λ (x : ClockQuality). answer (refusal_of x) (recorded_of x e)) is
      ∙ ap (λ (x : Option (ErrorEstimate × ErrorEstimate)). answer (refusal_of (quality_at 0 ws)) (recorded_of (quality_at 0 ws) x)) given

  pub record-served : (next : ClockQuality) (after : List ℕ) → r ≡ Ok next → after ≡ sets ws 0 (quality_words next)
      → left 0 after ≡ record_to ws estimated sender reflector
  unfolding record_to
  record-served next after told stored = ap (left 0) stored ∙ ap (λ (x : Result ClockQuality Refusal). record_after x ws) (sym told ∙ from_answer)

  pub record-refused : (why : Refusal) (n : ℕ) → r ≡ Err why → n ≡ number_of why → left n ws ≡ record_to ws estimated sender reflector
  unfolding record_to
  record-refused why n told is = ap (λ (m : ℕ). left m ws) is ∙ ap (λ (x : Result ClockQuality Refusal). record_after x ws) (sym told ∙ from_answer)
