-- The contract of `percentiles` determines the answer and each lent word; and a refusal, and a call at count 0, change nothing.
-- Assumes nothing.
use mathlib.Core.Path.{◌≡◌, refl, sym, ap, ◌∙◌}
use mathlib.Core.Bool.{Bool, true, false}
use mathlib.Core.List.{List, map}
use Prim.Native.Nat.{ℕ}
use native.Mathlib.Omega.{arith}
use Rattle.limits.specs.declared.Refusal.{Refusal}
use Rattle.limits.proofs.Numbers.{number_of_unique}
use Rattle.quantiles.proofs.Numbers.{some_number}
use contract.Lifetimes.{Lfts}
use borrow.Fn.World as World
use borrow.Fn.Kinds as Kinds'
use denote.Triple.Clauses as Clauses
use lib.Dec.{eqb}
use lib.Ieee.{Float}
use Rattle.quantiles.specs.declared.Quantiles.{Quantiles}
use Rattle.std.specs.Prelude.{Result, Ok, Err}
use Rattle.limits.specs.declared.Refusal.TheVariants as refusal
use Rattle.percentiles.specs.Percentiles.{Outcome, outcome, refuses, percentile, pick_outcome, percentiles_of}
use Rattle.percentiles.specs.contracts.percentiles.{signature}
use Rattle.percentiles.proofs.percentiles.Kinds as K
use Rattle.percentiles.proofs.percentiles.Reads.{Post}

-- an outcome tells the answer
same_answer : (a b : Result Bool Refusal) (l m : List ℕ) → outcome a l ≡ outcome b m → a ≡ b
unfolding outcome
same_answer (Err x) (Err y) l m e = ap Err (number_of_unique x y (ap (λ (o : Outcome). o.number) e))
same_answer (Err x) (Ok t) l m e = absurd (some_number x (ap (λ (o : Outcome). o.number) e))
same_answer (Ok t) (Err y) l m e = absurd (some_number y (sym (ap (λ (o : Outcome). o.number) e)))
same_answer (Ok t) (Ok u) l m e = ap Ok (ap (λ (o : Outcome). o.values) e)

-- and the lent words
shown_of : (a : Result Bool Refusal) (l : List ℕ) → (outcome a l).shown ≡ l
unfolding outcome
shown_of (Err x) l = refl
shown_of (Ok t) l = refl

-- any two exits that meet the contract are equal
pub percentiles-unique : (κs : Lfts 3) (a : World.ArgsD signature κs) (r₁ r₂ : World.ResD signature κs) (s₁ s₂ : Clauses.AtExit (Kinds'.ended_of 3 K.ps K.r) κs)
    → Post κs a r₁ s₁ → Post κs a r₂ s₂ → (r₁ ≡ r₂) × (s₁.1.1.1.0.now ≡ s₂.1.1.1.0.now)
percentiles-unique κs a r₁ r₂ s₁ s₂ p q =
    let e = p ∙ sym q in (
      same_answer r₁ r₂ s₁.1.1.1.0.now s₂.1.1.1.0.now e,
      sym (shown_of r₁ s₁.1.1.1.0.now) ∙ ap (λ (o : Outcome). o.shown) e ∙ shown_of r₂ s₂.1.1.1.0.now,
    )

-- without values nothing is changed
pub no_values_change-nothing : (q : Quantiles) (room : List ℕ) (ps : List Float) (shown : List ℕ) → (percentiles_of q room ps shown).values ≡ false → (percentiles_of q room ps shown).shown ≡ shown
unfolding percentiles_of outcome
no_values_change-nothing q room ps shown e = by (refuses q room ps shown) (eqb q.count 0) e
  where
    by : (r n : Bool) → (pick_outcome r (outcome (Err refusal.WrongRoom) shown) (pick_outcome n (outcome (Ok false) shown) (outcome (Ok true) (map (percentile q room) ps)))).values ≡ false
        → (pick_outcome r (outcome (Err refusal.WrongRoom) shown) (pick_outcome n (outcome (Ok false) shown) (outcome (Ok true) (map (percentile q room) ps)))).shown ≡ shown
    by true n e = refl
    by false true e = refl
    by false false e = absurd (never e)
      where
        never : ◌≡◌ {A = Bool} true false → ⊥
        never e = let z : ◌≡◌ {A = ℕ} 0 1 = cc in omega arith

-- and a refusal has no values
pub refusal-has_no_values : (q : Quantiles) (room : List ℕ) (ps : List Float) (shown : List ℕ) → ((percentiles_of q room ps shown).number ≡ 0 → ⊥) → percentiles_of q room ps shown ≡ outcome (Err refusal.WrongRoom) shown
unfolding percentiles_of outcome
refusal-has_no_values q room ps shown m = by (refuses q room ps shown) (eqb q.count 0) m
  where
    by : (r n : Bool) → ((pick_outcome r (outcome (Err refusal.WrongRoom) shown) (pick_outcome n (outcome (Ok false) shown) (outcome (Ok true) (map (percentile q room) ps)))).number ≡ 0 → ⊥)
        → pick_outcome r (outcome (Err refusal.WrongRoom) shown) (pick_outcome n (outcome (Ok false) shown) (outcome (Ok true) (map (percentile q room) ps))) ≡ outcome (Err refusal.WrongRoom) shown
    by true n m = refl
    by false true m = absurd (m refl)
    by false false m = absurd (m refl)
