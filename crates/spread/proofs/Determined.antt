-- The contract of each public call determines its answer, the collector and each word of the room; and a refusal, and Rust's false, change
-- nothing. Assumes nothing.
use Rattle.std.proofs.Common.{◌≡◌, ℕ, Bool, false, cond, List, sym, refl, ap, ◌∙◌, true≢false}
use Rattle.std.specs.Prelude.{Option, Some, None, Result, Ok, Err}
use Rattle.limits.specs.declared.Refusal.{Refusal}
use Rattle.limits.proofs.Numbers.{number_of_unique}
use Rattle.quantiles.proofs.Numbers.{some_number}
use contract.Lifetimes.{Lfts}
use borrow.Fn.World as World
use borrow.Fn.Kinds as Kinds'
use denote.Triple.Clauses as Clauses
use Rattle.floats.proofs.Determined.{OneAnswer}
use Rattle.series.specs.Series.{recorded_beside}
use Rattle.series.proofs.Determined.{false_changes_nothing-beside}
use Rattle.spread.specs.declared.RttCollector.{RttCollector}
use Rattle.spread.specs.Spread.{fits, grown_of}
use Rattle.spread.specs.Record.{Outcome, outcome, record_to}
use Rattle.spread.proofs.RttCollector.new.Kinds as new
use Rattle.spread.proofs.RttCollector.new.Reads as new'
use Rattle.spread.specs.contracts.RttCollector.record.{signature}
use Rattle.spread.proofs.RttCollector.record.Kinds as K
use Rattle.spread.proofs.RttCollector.record.Reads.{Post}

-- whatever answers false, a refusal or a count of 2^64-1, changes nothing
pub false_changes_nothing : (s : RttCollector) (room : List ℕ) (v : ℕ) → (record_to s room v).answer ≡ false → ((record_to s room v).state ≡ s) × ((record_to s room v).room ≡ room)
unfolding record_to
false_changes_nothing s room v h =
    let o = recorded_beside (fits s) s.quantiles room v in
    (ap (λ (b : Bool). cond b (grown_of s o.state v) s) h, (false_changes_nothing-beside (fits s) s.quantiles room v h).1)

-- an outcome tells the answer
same_answer : (s : RttCollector) (a b : Result (Option RttCollector) Refusal) (l k : List ℕ) → outcome s a l ≡ outcome s b k → a ≡ b
unfolding outcome
same_answer s (Err x) (Err y) l k e = ap Err (number_of_unique x y (ap (λ (o : Outcome). o.number) e))
same_answer s (Err x) (Ok None) l k e = absurd (some_number x (ap (λ (o : Outcome). o.number) e))
same_answer s (Err x) (Ok (Some n)) l k e = absurd (some_number x (ap (λ (o : Outcome). o.number) e))
same_answer s (Ok None) (Err y) l k e = absurd (some_number y (sym (ap (λ (o : Outcome). o.number) e)))
same_answer s (Ok None) (Ok None) l k e = refl
same_answer s (Ok None) (Ok (Some n)) l k e = absurd (true≢false (sym (ap (λ (o : Outcome). o.answer) e)))
same_answer s (Ok (Some m)) (Err y) l k e = absurd (some_number y (sym (ap (λ (o : Outcome). o.number) e)))
same_answer s (Ok (Some m)) (Ok None) l k e = absurd (true≢false (ap (λ (o : Outcome). o.answer) e))
same_answer s (Ok (Some m)) (Ok (Some n)) l k e = ap (λ (x : RttCollector). Ok (Some x)) (ap (λ (o : Outcome). o.state) e)

-- and the room
room_of : (s : RttCollector) (r : Result (Option RttCollector) Refusal) (l : List ℕ) → (outcome s r l).room ≡ l
unfolding outcome
room_of s (Err x) l = refl
room_of s (Ok None) l = refl
room_of s (Ok (Some n)) l = refl

pub new-unique : OneAnswer new.ps new.r new'.Post
new-unique κs a x y s t p q = p ∙ sym q

-- any two exits that meet the contract are equal
pub record-unique : (κs : Lfts 1) (a : World.ArgsD signature κs) (r₁ r₂ : World.ResD signature κs) (s₁ s₂ : Clauses.AtExit (Kinds'.ended_of 1 K.ps K.r) κs)
    → Post κs a r₁ s₁ → Post κs a r₂ s₂ → (r₁ ≡ r₂) × (s₁.1.0.now ≡ s₂.1.0.now)
record-unique κs a r₁ r₂ s₁ s₂ p q =
    let e = p ∙ sym q in (
      same_answer a.0 r₁ r₂ s₁.1.0.now s₂.1.0.now e,
      sym (room_of a.0 r₁ s₁.1.0.now) ∙ ap (λ (o : Outcome). o.room) e ∙ room_of a.0 r₂ s₂.1.0.now,
    )
