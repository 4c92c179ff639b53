-- The contract of `record` determines the answer, the state and each word of the room; and a call that is refused, or answers false,
-- changes nothing. Assumes nothing.
use mathlib.Core.Path.{◌≡◌, refl, sym, ap, ◌∙◌}
use mathlib.Core.Bool.{Bool, true, false, true≢false}
use mathlib.Core.List.{List}
use Prim.Native.Nat.{ℕ, ◌-◌, ◌^◌}
use native.Mathlib.Omega.{arith}
use contract.Lifetimes.{Lfts}
use borrow.Fn.World as World
use borrow.Fn.Kinds as Kinds'
use denote.Triple.Clauses as Clauses
use lib.Dec.{eqb}
use Rattle.std.specs.Prelude.{Option, Some, None, Result, Ok, Err}
use Rattle.limits.specs.declared.Refusal.{Refusal}
use Rattle.limits.specs.Refusals.{wrong_room}
use Rattle.quantiles.specs.declared.Quantiles.{Quantiles}
use Rattle.quantiles.specs.Record.{Outcome, still, taken, outcome, refuses, recorded, grown, stored, pick_outcome}
use Rattle.limits.proofs.Numbers.{number_of_unique}
use Rattle.quantiles.proofs.Numbers.{some_number}
use Rattle.quantiles.specs.contracts.Quantiles.record.{signature}
use Rattle.quantiles.proofs.Quantiles.record.Kinds as K
use Rattle.quantiles.proofs.Quantiles.record.Reads.{Post}

-- an outcome tells the answer
pub same_answer : (q : Quantiles) (r₁ r₂ : Result (Option Quantiles) Refusal) (l₁ l₂ : List ℕ) → outcome q r₁ l₁ ≡ outcome q r₂ l₂ → r₁ ≡ r₂
unfolding outcome still taken
same_answer q (Err x) (Err y) l₁ l₂ e = ap Err (number_of_unique x y (ap (λ (o : Outcome). o.number) e))
same_answer q (Err x) (Ok None) l₁ l₂ e = absurd (some_number x (ap (λ (o : Outcome). o.number) e))
same_answer q (Err x) (Ok (Some n)) l₁ l₂ e = absurd (some_number x (ap (λ (o : Outcome). o.number) e))
same_answer q (Ok None) (Err y) l₁ l₂ e = absurd (some_number y (sym (ap (λ (o : Outcome). o.number) e)))
same_answer q (Ok None) (Ok None) l₁ l₂ e = refl
same_answer q (Ok None) (Ok (Some n)) l₁ l₂ e = absurd (true≢false (sym (ap (λ (o : Outcome). o.answer) e)))
same_answer q (Ok (Some m)) (Err y) l₁ l₂ e = absurd (some_number y (sym (ap (λ (o : Outcome). o.number) e)))
same_answer q (Ok (Some m)) (Ok None) l₁ l₂ e = absurd (true≢false (ap (λ (o : Outcome). o.answer) e))
same_answer q (Ok (Some m)) (Ok (Some n)) l₁ l₂ e = ap (λ (x : Quantiles). Ok (Some x)) (ap (λ (o : Outcome). o.state) e)

-- and the room
pub room_of : (q : Quantiles) (r : Result (Option Quantiles) Refusal) (l : List ℕ) → (outcome q r l).room ≡ l
unfolding outcome still taken
room_of q (Err x) l = refl
room_of q (Ok None) l = refl
room_of q (Ok (Some n)) l = refl

-- any two exits that meet the contract are equal
pub record-unique : (κs : Lfts 1) (a : World.ArgsD signature κs) (r₁ r₂ : World.ResD signature κs) (s₁ s₂ : Clauses.AtExit (Kinds'.ended_of 1 K.ps K.r) κs)
    → Post κs a r₁ s₁ → Post κs a r₂ s₂ → (r₁ ≡ r₂) × (s₁.1.0.now ≡ s₂.1.0.now)
record-unique κs a r₁ r₂ s₁ s₂ p q =
    let e = p ∙ sym q in (
      same_answer a.0 r₁ r₂ s₁.1.0.now s₂.1.0.now e,
      sym (room_of a.0 r₁ s₁.1.0.now) ∙ ap (λ (o : Outcome). o.room) e ∙ room_of a.0 r₂ s₂.1.0.now,
    )

-- a refusal is number 5, and changes nothing
pub refusal_changes_nothing : (q : Quantiles) (room : List ℕ) (v : ℕ) → ((recorded q room v).number ≡ 0 → ⊥) → recorded q room v ≡ still wrong_room q room
unfolding recorded still taken
refusal_changes_nothing q room v n = by (refuses q room v) (eqb q.count (2 ^ 64 - 1)) n
  where
    by : (r f : Bool) → ((pick_outcome r (still wrong_room q room) (pick_outcome f (still 0 q room) (taken (grown q v) (stored q room v)))).number ≡ 0 → ⊥)
        → pick_outcome r (still wrong_room q room) (pick_outcome f (still 0 q room) (taken (grown q v) (stored q room v))) ≡ still wrong_room q room
    by true f n = refl
    by false true n = absurd (n refl)
    by false false n = absurd (n refl)

-- and whatever answers false changes nothing
pub false_changes_nothing : (q : Quantiles) (room : List ℕ) (v : ℕ) → (recorded q room v).answer ≡ false → ((recorded q room v).state ≡ q) × ((recorded q room v).room ≡ room)
unfolding recorded still taken
false_changes_nothing q room v n = by (refuses q room v) (eqb q.count (2 ^ 64 - 1)) n
  where
    by : (r f : Bool) → (pick_outcome r (still wrong_room q room) (pick_outcome f (still 0 q room) (taken (grown q v) (stored q room v)))).answer ≡ false
        → ((pick_outcome r (still wrong_room q room) (pick_outcome f (still 0 q room) (taken (grown q v) (stored q room v)))).state ≡ q)
        × ((pick_outcome r (still wrong_room q room) (pick_outcome f (still 0 q room) (taken (grown q v) (stored q room v)))).room ≡ room)
    by true f n = (refl, refl)
    by false true n = (refl, refl)
    by false false n = absurd (never n)
      where
        never : ◌≡◌ {A = Bool} true false → ⊥
        never e = let z : ◌≡◌ {A = ℕ} 0 1 = cc in omega arith
