-- The contract of `record_beside` determines the answer, the quantiles and each word of the room; and a refusal, and Rust's false, change
-- nothing. Assumes nothing.
use Rattle.std.proofs.Common.{◌≡◌, ℕ, Bool, true, false, not, List, sym, refl, ap, ◌∙◌, true≢false}
use contract.Lifetimes.{Lfts}
use borrow.Fn.World as World
use borrow.Fn.Kinds as Kinds'
use denote.Triple.Clauses as Clauses
use Rattle.floats.proofs.Determined.{OneAnswer}
use Rattle.limits.specs.Refusals.{wrong_room, counts_full}
use Rattle.quantiles.specs.declared.Quantiles.{Quantiles}
use Rattle.quantiles.specs.Record.{Outcome, still, refuses, pick_outcome, recorded}
use Rattle.quantiles.proofs.Determined.{false_changes_nothing, same_answer, room_of}
use Rattle.series.specs.Series.{recorded_beside}
use Rattle.series.proofs.sum_fits.Kinds as fits
use Rattle.series.proofs.sum_fits.Reads as fits'
use Rattle.series.proofs.sum_with.Kinds as sums
use Rattle.series.proofs.sum_with.Reads as sums'
use Rattle.series.proofs.span_of.Kinds as span
use Rattle.series.proofs.span_of.Reads as span'
use Rattle.series.proofs.summary.Kinds as shown
use Rattle.series.proofs.summary.Reads as shown'
use Rattle.series.specs.contracts.record_beside.{signature}
use Rattle.series.proofs.record_beside.Kinds as K
use Rattle.series.proofs.record_beside.Reads.{Post}

-- whatever answers false changes nothing
pub false_changes_nothing-beside : (fits : Bool) (q : Quantiles) (room : List ℕ) (v : ℕ) → (recorded_beside fits q room v).answer ≡ false
    → ((recorded_beside fits q room v).state ≡ q) × ((recorded_beside fits q room v).room ≡ room)
unfolding recorded_beside still
false_changes_nothing-beside fits q room v = by (refuses q room v) (not fits)
  where
    by : (r f : Bool) → let o = pick_outcome r (still wrong_room q room) (pick_outcome f (still counts_full q room) (recorded q room v)) in
        o.answer ≡ false → (o.state ≡ q) × (o.room ≡ room)
    by true f n = (refl, refl)
    by false true n = (refl, refl)
    by false false n = false_changes_nothing q room v n

-- a sample is taken only where the sums have room
pub taken-fits : (fits : Bool) (q : Quantiles) (room : List ℕ) (v : ℕ) → (recorded_beside fits q room v).answer ≡ true → fits ≡ true
unfolding recorded_beside still
taken-fits true q room v h = refl
taken-fits false q room v h = absurd (by (refuses q room v) h)
  where
    by : (r : Bool) → (pick_outcome r (still wrong_room q room) (still counts_full q room)).answer ≡ true → ⊥
    by true h = true≢false (sym h)
    by false h = true≢false (sym h)

-- any two exits that meet the contract are equal
pub record_beside-unique : (κs : Lfts 1) (a : World.ArgsD signature κs) (r₁ r₂ : World.ResD signature κs) (s₁ s₂ : Clauses.AtExit (Kinds'.ended_of 1 K.ps K.r) κs)
    → Post κs a r₁ s₁ → Post κs a r₂ s₂ → (r₁ ≡ r₂) × (s₁.1.1.0.now ≡ s₂.1.1.0.now)
record_beside-unique κs a r₁ r₂ s₁ s₂ p q =
    let e = p ∙ sym q in (
      same_answer a.1.0 r₁ r₂ s₁.1.1.0.now s₂.1.1.0.now e,
      sym (room_of a.1.0 r₁ s₁.1.1.0.now) ∙ ap (λ (o : Outcome). o.room) e ∙ room_of a.1.0 r₂ s₂.1.1.0.now,
    )

pub sum_fits-unique : OneAnswer fits.ps fits.r fits'.Post
sum_fits-unique κs a x y s t p q = p ∙ sym q

pub sum_with-unique : OneAnswer sums.ps sums.r sums'.Post
sum_with-unique κs a x y s t p q = p ∙ sym q

pub span_of-unique : OneAnswer span.ps span.r span'.Post
span_of-unique κs a x y s t p q = p ∙ sym q

pub summary-unique : OneAnswer shown.ps shown.r shown'.Post
summary-unique κs a x y s t p q = p ∙ sym q
