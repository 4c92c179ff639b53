-- What a call leaves in the four words is what the next call reads, and a refusal changes nothing. Assumes nothing.
use mathlib.Core.Path.{◌≡◌, refl, sym, ap}
use mathlib.Core.Bool.{Bool, true, false}
use mathlib.Core.List.{List, [], ◌∷◌}
use Prim.Native.Nat.{ℕ, ◌-◌, ◌^◌}
use native.Mathlib.Omega.{arith}
use lib.Dec.{eqb}
use lib.Ieee.{Float}
use lib.ListN.{length, get_or}
use Rattle.limits.specs.Refusals.{wrong_room}
use Rattle.host_numbers.specs.Numbers.{is_set}
use Rattle.host_numbers.proofs.Back.{flag_again}
use Rattle.quantiles.specs.declared.Quantiles.{Quantiles}
use Rattle.quantiles.specs.Record.{Outcome, still, taken, refuses, grown, stored, pick_outcome, recorded}
use Rattle.quantiles.proofs.Determined.{refusal_changes_nothing}
use Rattle.percentiles.specs.Percentiles as percentiles-call
use Rattle.percentiles.proofs.Determined.{refusal-has_no_values}
use Rattle.host_quantiles.specs.Calls.{quantiles_at, words_with, fresh_to, record_left, record_by, record_to, percentiles_left, percentiles_by, percentiles_to}

-- what holds of every four words holds of a list of four
four : (P : List ℕ → Type 0) → ((a b c d : ℕ) → P (a ∷ b ∷ c ∷ d ∷ [])) → (ws : List ℕ) → length ws ≡ 4 → P ws
four P each [] h = absurd (omega arith)
four P each (a ∷ []) h = absurd (omega arith)
four P each (a ∷ b ∷ []) h = absurd (omega arith)
four P each (a ∷ b ∷ c ∷ []) h = absurd (omega arith)
four P each (a ∷ b ∷ c ∷ d ∷ []) h = each a b c d
four P each (a ∷ b ∷ c ∷ d ∷ e ∷ l) h = absurd (omega arith)

-- what is stored of a state of the same kind is read back
stored_is_read : (ws : List ℕ) (q : Quantiles) → length ws ≡ 4 → q.signed ≡ is_set (get_or ws 0 0) → quantiles_at (words_with ws q) ≡ q
stored_is_read ws q h =
    four (λ (ws : List ℕ). q.signed ≡ is_set (get_or ws 0 0) → quantiles_at (words_with ws q) ≡ q)
    (λ a b c d s. λ i. record { signed = sym s i; count = q.count; min = q.min; max = q.max }) ws h

-- a fresh state is read as one with no samples, of the kind that was asked for
pub fresh_is_read : (ws : List ℕ) (signed : ℕ) → length ws ≡ 4 → quantiles_at (fresh_to ws signed).words ≡ record { signed = is_set signed; count = 0; min = 0; max = 0 }
unfolding fresh_to
fresh_is_read ws signed h =
    four (λ (ws : List ℕ). quantiles_at (fresh_to ws signed).words ≡ record { signed = is_set signed; count = 0; min = 0; max = 0 })
    (λ a b c d. λ i. record { signed = flag_again (is_set signed) i; count = 0; min = 0; max = 0 }) ws h

-- after `record`, served or refused, the words say the library's next state
pub record_is_read : (ws room : List ℕ) (v : ℕ) (rec : List ℕ) → length ws ≡ 4 → quantiles_at (record_to ws room v rec).words ≡ (recorded (quantiles_at ws) room v).state
unfolding record_to recorded still taken grown
record_is_read ws room v rec h = by (refuses (quantiles_at ws) room v) (eqb (quantiles_at ws).count (2 ^ 64 - 1))
  where
    by : (r f : Bool) → let o = pick_outcome r (still wrong_room (quantiles_at ws) room) (pick_outcome f (still 0 (quantiles_at ws) room) (taken (grown (quantiles_at ws) v) (stored (quantiles_at ws) room v))) in
        quantiles_at (record_by o.number o ws room rec).words ≡ o.state
    by true f = refl
    by false true = stored_is_read ws (quantiles_at ws) h refl
    by false false = stored_is_read ws (grown (quantiles_at ws) v) h refl

-- a refusal of `record` changes nothing
pub record-refused-unchanged : (ws room : List ℕ) (v : ℕ) (rec : List ℕ) → ((record_to ws room v rec).number ≡ 0 → ⊥) → record_to ws room v rec ≡ record_left wrong_room ws room rec
unfolding record_to still
record-refused-unchanged ws room v rec n =
    ap (λ (o : Outcome). record_by o.number o ws room rec) (refusal_changes_nothing (quantiles_at ws) room v (λ z. n (by (recorded (quantiles_at ws) room v) z)))
  where
    by : (o : Outcome) → o.number ≡ 0 → (record_by o.number o ws room rec).number ≡ 0
    by o z = ap (λ (m : ℕ). (record_by m o ws room rec).number) z

-- and of `percentiles`
pub percentiles-refused-unchanged : (ws room : List ℕ) (percents : List Float) (shown present : List ℕ)
    → ((percentiles_to ws room percents shown present).number ≡ 0 → ⊥) → percentiles_to ws room percents shown present ≡ percentiles_left wrong_room shown present
unfolding percentiles_to percentiles-call.outcome
percentiles-refused-unchanged ws room percents shown present n =
    ap (λ (o : percentiles-call.Outcome). percentiles_by o.number o shown present)
    (refusal-has_no_values (quantiles_at ws) room percents shown (λ z. n (by (percentiles-call.percentiles_of (quantiles_at ws) room percents shown) z)))
  where
    by : (o : percentiles-call.Outcome) → o.number ≡ 0 → (percentiles_by o.number o shown present).number ≡ 0
    by o z = ap (λ (m : ℕ). (percentiles_by m o shown present).number) z
