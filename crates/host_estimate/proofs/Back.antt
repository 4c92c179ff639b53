-- What a host makes is what it reads back, and a refusal leaves its word alone. Assumes nothing.
use Rattle.std.specs.Prelude.{Result}
use mathlib.Core.Path.{◌≡◌, refl, ap, ◌∙◌}
use mathlib.Core.Bool.{Bool, true, false}
use mathlib.Core.List.{List}
use Prim.Native.Nat.{ℕ, ◌≤◌, ◌<◌, ◌%◌, ◌/◌}
use native.Mathlib.Omega.{arith}
use lib.Ieee.{Float}
use lib.ListN.{length, get_or, set}
use lib.Seq.{get_or-set_same}
use Rattle.limits.specs.Refusals.{out_of_range}
use Rattle.limits.specs.declared.Refusal.{Refusal}
use Rattle.host_numbers.specs.Numbers.{flag_word, is_set}
use Rattle.host_numbers.proofs.Back.{flag_again}
use Rattle.estimate.specs.declared.ErrorEstimate.{ErrorEstimate}
use Rattle.estimate.specs.Wire.{estimate_of, wire_of}
use Rattle.estimate.specs.Make.{made_of, in_range_lem, above_range}
use Rattle.estimate.specs.RoundTrip.{wire_back, estimate_back}
use Rattle.estimate.specs.declared.Reading.{Reading}
use Rattle.estimate.specs.Error.{known_if, error_known, ms_of, as_received}
use Rattle.host_estimate.specs.Calls.{Left, left, wire_after, new_to, reading_after, reading_to}

-- a scale of six bits is served
pub served : (synchronized ptp scale multiplier : ℕ) (wire : List ℕ) → scale ≤ 63
    → new_to synchronized ptp scale multiplier wire ≡ left 0 (set wire 0 (wire_of (record { synchronized = is_set synchronized; ptp = is_set ptp; scale = scale; multiplier = multiplier })))
unfolding new_to
served synchronized ptp scale multiplier wire h = ap (λ (m : Result ErrorEstimate Refusal). wire_after m wire) (in_range_lem (is_set synchronized) (is_set ptp) scale multiplier h)

-- any other is refused, and the lent word stays
pub refused-unchanged : (synchronized ptp scale multiplier : ℕ) (wire : List ℕ) → 63 < scale
    → new_to synchronized ptp scale multiplier wire ≡ left out_of_range wire
unfolding new_to
refused-unchanged synchronized ptp scale multiplier wire h = ap (λ (m : Result ErrorEstimate Refusal). wire_after m wire) (above_range (is_set synchronized) (is_set ptp) scale multiplier h)

-- the word that a served call leaves says the estimate that was asked for
pub made_is_read : (synchronized ptp scale multiplier : ℕ) (wire : List ℕ) → length wire ≡ 1 → scale ≤ 63 → multiplier < 256
    → estimate_of (get_or (new_to synchronized ptp scale multiplier wire).words 0 0) ≡ record { synchronized = is_set synchronized; ptp = is_set ptp; scale = scale; multiplier = multiplier }
made_is_read synchronized ptp scale multiplier wire one h k =
    let e : ErrorEstimate = record { synchronized = is_set synchronized; ptp = is_set ptp; scale = scale; multiplier = multiplier } in
    ap (λ (x : Left). estimate_of (get_or x.words 0 0)) (served synchronized ptp scale multiplier wire h)
    ∙ ap estimate_of (get_or-set_same wire 0 (wire_of e) 0 (omega arith))
    ∙ estimate_back e h k

-- every 16 bits, taken apart and made again, are the same 16 bits
pub wire_again : (w : ℕ) (wire : List ℕ) → w < 65536
    → new_to (flag_word (estimate_of w).synchronized) (flag_word (estimate_of w).ptp) (estimate_of w).scale (estimate_of w).multiplier wire ≡ left 0 (set wire 0 w)
wire_again w wire h =
    served (flag_word (estimate_of w).synchronized) (flag_word (estimate_of w).ptp) (estimate_of w).scale (estimate_of w).multiplier wire (six (w / 256))
    ∙ ap (λ (n : ℕ). left 0 (set wire 0 n)) (ap wire_of same ∙ wire_back w h)
  where
    six : (n : ℕ) → n % 64 ≤ 63
    six n = omega arith

    same : ◌≡◌ {A = ErrorEstimate} (record { synchronized = is_set (flag_word (estimate_of w).synchronized); ptp = is_set (flag_word (estimate_of w).ptp); scale = (estimate_of w).scale; multiplier = (estimate_of w).multiplier }) (estimate_of w)
    same = λ i. record { synchronized = flag_again (estimate_of w).synchronized i; ptp = flag_again (estimate_of w).ptp i; scale = (estimate_of w).scale; multiplier = (estimate_of w).multiplier }

-- of an invalid estimate the call shows the 16 bits that were handed over
pub received_back : (w : ℕ) (known : List ℕ) (ms : List Float) (received : List ℕ) → w < 65536
    → reading_to w known ms received ≡ reading_after (known_if (error_known (estimate_of w)) (ms_of (estimate_of w)) w) known ms received
unfolding reading_to
received_back w known ms received h = ap (λ (r : Reading). reading_after r known ms received) (as_received w h)
