-- The contract of each public call determines its answer, the states and each word that is lent; a refusal, and Rust's false, change nothing;
-- and a sample of one direction leaves the other's part as it was. Assumes nothing.
use mathlib.Core.Path.{◌≡◌, refl, sym, ap, ◌∙◌}
use mathlib.Core.Bool.{Bool, true, false, cond, true≢false}
use mathlib.Core.List.{List}
use Prim.Native.Nat.{ℕ, ◌+◌, ◌<◌}
use Rattle.std.specs.Prelude.{Option, Some, None, Result, Ok, Err}
use Rattle.limits.specs.declared.Refusal.{Refusal}
use Rattle.limits.proofs.Numbers.{number_of_unique}
use Rattle.quantiles.proofs.Numbers.{some_number}
use contract.Lifetimes.{Lfts}
use borrow.Fn.World as World
use borrow.Fn.Kinds as Kinds'
use denote.Triple.Clauses as Clauses
use lib.ListN.{get_or}
use lib.Seq.{get_or-take, get_or-drop}
use Rattle.floats.proofs.Determined.{OneAnswer}
use Rattle.series.specs.Series.{sum_fits, recorded_beside}
use Rattle.series.proofs.Determined.{false_changes_nothing-beside}
use Rattle.directions.specs.declared.OwdDirection.{OwdDirection}
use Rattle.directions.specs.declared.Directions.{Directions}
use Rattle.directions.specs.Direction as direction
use Rattle.directions.specs.Directions.{part_size, start_of, Untouched, Outcome, outcome_both}
use Rattle.directions.proofs.OwdDirection.new.Kinds as new
use Rattle.directions.proofs.OwdDirection.new.Reads as new'
use Rattle.directions.proofs.Directions.new.Kinds as new-both
use Rattle.directions.proofs.Directions.new.Reads as new-both'
use Rattle.directions.specs.contracts.OwdDirection.record as record-call
use Rattle.directions.proofs.OwdDirection.record.Kinds as record-kinds
use Rattle.directions.proofs.OwdDirection.record.Reads as record-reads
use Rattle.directions.specs.contracts.record_own as own-call
use Rattle.directions.proofs.record_own.Kinds as own-kinds
use Rattle.directions.proofs.record_own.Reads as own-reads
use Rattle.directions.specs.contracts.Directions.record as both-call
use Rattle.directions.proofs.Directions.record.Kinds as both-kinds
use Rattle.directions.proofs.Directions.record.Reads as both-reads

-- ---- word by word

-- a sample of the forward direction leaves each word of the reverse part, and each behind it
pub reverse_untouched : (slice after : List ℕ) → Untouched (start_of false) slice after → (i : ℕ) → get_or after (part_size + i) 0 ≡ get_or slice (part_size + i) 0
reverse_untouched slice after h i =
    sym (get_or-drop (0 + part_size) after i 0) ∙ ap (λ (l : List ℕ). get_or l i 0) h.behind ∙ get_or-drop (0 + part_size) slice i 0

-- a sample of the reverse direction leaves each word of the forward part
pub forward_untouched : (slice after : List ℕ) → Untouched (start_of true) slice after → (i : ℕ) → i < part_size → get_or after i 0 ≡ get_or slice i 0
forward_untouched slice after h i l =
    sym (get_or-take part_size after i 0 l) ∙ ap (λ (k : List ℕ). get_or k i 0) h.before ∙ get_or-take part_size slice i 0 l

-- ---- what answers false changes nothing

pub false_changes_nothing : (d : OwdDirection) (room : List ℕ) (v : ℕ) → (direction.record_to d room v).answer ≡ false
    → ((direction.record_to d room v).state ≡ d) × ((direction.record_to d room v).room ≡ room)
unfolding direction.record_to
false_changes_nothing d room v h =
    let o = recorded_beside (sum_fits d.sum) d.quantiles room v in
    (ap (λ (b : Bool). cond b (direction.grown_of d o.state v) d) h, (false_changes_nothing-beside (sum_fits d.sum) d.quantiles room v h).1)

-- ---- one outcome

same_answer : (s : OwdDirection) (a b : Result (Option OwdDirection) Refusal) (l k : List ℕ) → direction.outcome s a l ≡ direction.outcome s b k → a ≡ b
unfolding direction.outcome
same_answer s (Err x) (Err y) l k e = ap Err (number_of_unique x y (ap (λ (o : direction.Outcome). o.number) e))
same_answer s (Err x) (Ok None) l k e = absurd (some_number x (ap (λ (o : direction.Outcome). o.number) e))
same_answer s (Err x) (Ok (Some n)) l k e = absurd (some_number x (ap (λ (o : direction.Outcome). o.number) e))
same_answer s (Ok None) (Err y) l k e = absurd (some_number y (sym (ap (λ (o : direction.Outcome). o.number) e)))
same_answer s (Ok None) (Ok None) l k e = refl
same_answer s (Ok None) (Ok (Some n)) l k e = absurd (true≢false (sym (ap (λ (o : direction.Outcome). o.answer) e)))
same_answer s (Ok (Some m)) (Err y) l k e = absurd (some_number y (sym (ap (λ (o : direction.Outcome). o.number) e)))
same_answer s (Ok (Some m)) (Ok None) l k e = absurd (true≢false (ap (λ (o : direction.Outcome). o.answer) e))
same_answer s (Ok (Some m)) (Ok (Some n)) l k e = ap (λ (x : OwdDirection). Ok (Some x)) (ap (λ (o : direction.Outcome). o.state) e)

room_of : (s : OwdDirection) (r : Result (Option OwdDirection) Refusal) (l : List ℕ) → (direction.outcome s r l).room ≡ l
unfolding direction.outcome
room_of s (Err x) l = refl
room_of s (Ok None) l = refl
room_of s (Ok (Some n)) l = refl

same_measuring : (s : Directions) (a b : Result (Option Directions) Refusal) (l k : List ℕ) → outcome_both s a l ≡ outcome_both s b k → a ≡ b
unfolding outcome_both
same_measuring s (Err x) (Err y) l k e = ap Err (number_of_unique x y (ap (λ (o : Outcome). o.number) e))
same_measuring s (Err x) (Ok None) l k e = absurd (some_number x (ap (λ (o : Outcome). o.number) e))
same_measuring s (Err x) (Ok (Some n)) l k e = absurd (some_number x (ap (λ (o : Outcome). o.number) e))
same_measuring s (Ok None) (Err y) l k e = absurd (some_number y (sym (ap (λ (o : Outcome). o.number) e)))
same_measuring s (Ok None) (Ok None) l k e = refl
same_measuring s (Ok None) (Ok (Some n)) l k e = absurd (true≢false (sym (ap (λ (o : Outcome). o.answer) e)))
same_measuring s (Ok (Some m)) (Err y) l k e = absurd (some_number y (sym (ap (λ (o : Outcome). o.number) e)))
same_measuring s (Ok (Some m)) (Ok None) l k e = absurd (true≢false (ap (λ (o : Outcome). o.answer) e))
same_measuring s (Ok (Some m)) (Ok (Some n)) l k e = ap (λ (x : Directions). Ok (Some x)) (ap (λ (o : Outcome). o.state) e)

slice_of : (s : Directions) (r : Result (Option Directions) Refusal) (l : List ℕ) → (outcome_both s r l).slice ≡ l
unfolding outcome_both
slice_of s (Err x) l = refl
slice_of s (Ok None) l = refl
slice_of s (Ok (Some n)) l = refl

pub new-unique : OneAnswer new.ps new.r new'.Post
new-unique κs a x y s t p q = p ∙ sym q

pub new-both-unique : OneAnswer new-both.ps new-both.r new-both'.Post
new-both-unique κs a x y s t p q = p ∙ sym q

-- any two exits that meet the contract are equal
pub record-unique :
    (κs : Lfts 1) (a : World.ArgsD record-call.signature κs) (r₁ r₂ : World.ResD record-call.signature κs)
    (s₁ s₂ : Clauses.AtExit (Kinds'.ended_of 1 record-kinds.ps record-kinds.r) κs)
    → record-reads.Post κs a r₁ s₁ → record-reads.Post κs a r₂ s₂ → (r₁ ≡ r₂) × (s₁.1.0.now ≡ s₂.1.0.now)
record-unique κs a r₁ r₂ s₁ s₂ p q =
    let e = p ∙ sym q in (
      same_answer a.0 r₁ r₂ s₁.1.0.now s₂.1.0.now e,
      sym (room_of a.0 r₁ s₁.1.0.now) ∙ ap (λ (o : direction.Outcome). o.room) e ∙ room_of a.0 r₂ s₂.1.0.now,
    )

-- of a direction in its part of the slice
pub record-own-unique :
    (κs : Lfts 1) (a : World.ArgsD own-call.signature κs) (r₁ r₂ : World.ResD own-call.signature κs)
    (s₁ s₂ : Clauses.AtExit (Kinds'.ended_of 1 own-kinds.ps own-kinds.r) κs)
    → own-reads.Post κs a r₁ s₁ → own-reads.Post κs a r₂ s₂ → (r₁ ≡ r₂) × (s₁.1.0.now ≡ s₂.1.0.now)
record-own-unique κs a r₁ r₂ s₁ s₂ p q =
    let e = p.0 ∙ sym q.0 in (
      same_answer a.0 r₁ r₂ s₁.1.0.now s₂.1.0.now e,
      sym (room_of a.0 r₁ s₁.1.0.now) ∙ ap (λ (o : direction.Outcome). o.room) e ∙ room_of a.0 r₂ s₂.1.0.now,
    )

-- of both
pub record-both-unique :
    (κs : Lfts 1) (a : World.ArgsD both-call.signature κs) (r₁ r₂ : World.ResD both-call.signature κs)
    (s₁ s₂ : Clauses.AtExit (Kinds'.ended_of 1 both-kinds.ps both-kinds.r) κs)
    → both-reads.Post κs a r₁ s₁ → both-reads.Post κs a r₂ s₂ → (r₁ ≡ r₂) × (s₁.1.0.now ≡ s₂.1.0.now)
record-both-unique κs a r₁ r₂ s₁ s₂ p q =
    let e = p.0 ∙ sym q.0 in (
      same_measuring a.0 r₁ r₂ s₁.1.0.now s₂.1.0.now e,
      sym (slice_of a.0 r₁ s₁.1.0.now) ∙ ap (λ (o : Outcome). o.slice) e ∙ slice_of a.0 r₂ s₂.1.0.now,
    )
