-- The contract of each public call determines the answer and every lent byte, and a refusal changes none. Assumes nothing.
use Rattle.limits.proofs.Numbers.{numbered_unique}
use Rattle.limits.specs.Numbers.{numbered}
use Rattle.std.specs.Prelude.{Result, Ok, Err}
use mathlib.Core.Path.{◌≡◌, refl, sym, ap, ap₂, ◌∙◌}
use mathlib.Core.Bool.{Bool, true, false}
use mathlib.Core.List.{List, [], ◌∷◌, ◌++◌}
use Prim.Native.Nat.{ℕ, ◌≤◌}
use native.Mathlib.Omega.{arith}
use contract.Lifetimes.{Lfts}
use borrow.Fn.World as World
use borrow.Fn.Kinds as Kinds'
use denote.Triple.Clauses as Clauses
use lib.Dec.{eqb}
use lib.ListN.{length, take, drop, length-append}
use lib.Seq.{take-append_seam}
use Rattle.report.specs.declared.figures.Figures.{Figures}
use Rattle.report.specs.Lines.{text_of}
use Rattle.report.specs.Report.{Outcome, outcome, pick_outcome, written, wrong, report_of, report_room}
use Rattle.report.specs.contracts.report.{signature}
use Rattle.report.proofs.report.Kinds as K
use Rattle.report.proofs.report.Reads.{Post}

-- an outcome tells the answer
same_answer : (a b : Result ℕ ℕ) (l m : List ℕ) → outcome a l ≡ outcome b m → a ≡ b
unfolding outcome
same_answer (Ok x) (Ok y) l m e = cc (ap (λ (o : Outcome). o.values) e)
same_answer (Ok x) (Err y) l m e = cc (ap (λ (o : Outcome). o.values) e)
same_answer (Err x) (Ok y) l m e = cc (ap (λ (o : Outcome). o.values) e)
same_answer (Err x) (Err y) l m e = ap Err (ap (λ (o : Outcome). o.number) e)

-- and the buffer
buffer_of : (a : Result ℕ ℕ) (l : List ℕ) → (outcome a l).buffer ≡ l
unfolding outcome
buffer_of (Ok n) l = refl
buffer_of (Err n) l = refl

-- Any two exits that meet the contract are equal.
pub report-unique : (κs : Lfts 1) (a : World.ArgsD signature κs) (r₁ r₂ : World.ResD signature κs) (s₁ s₂ : Clauses.AtExit (Kinds'.ended_of 1 K.ps K.r) κs)
    → Post κs a r₁ s₁ → Post κs a r₂ s₂ → (r₁ ≡ r₂) × (s₁.0.now ≡ s₂.0.now)
report-unique κs a r₁ r₂ s₁ s₂ p q =
    let e = p ∙ sym q in
    (numbered_unique r₁ r₂ (same_answer (numbered r₁) (numbered r₂) s₁.0.now s₂.0.now e), sym (buffer_of (numbered r₁) s₁.0.now) ∙ ap (λ (o : Outcome). o.buffer) e ∙ buffer_of (numbered r₂) s₂.0.now)

-- A refusal changes no byte.
pub refused-unchanged : (before after : List ℕ) (f : Figures) (n : ℕ) → outcome (Err n) after ≡ report_of before f → after ≡ before
unfolding outcome report_of
refused-unchanged before after f n e = go (eqb (length before) report_room) e
  where
    go : (b : Bool) → outcome (Err n) after ≡ pick_outcome b (written (text_of f) before) (wrong before) → after ≡ before
    go true e = cc (ap (λ (o : Outcome). o.values) e)
    go false e = ap (λ (o : Outcome). o.buffer) e

-- The length that is answered is that of the text, and is within the buffer that is left: what a caller needs to print the text.
pub written-length : (before after : List ℕ) (f : Figures) (n : ℕ) → outcome (Ok n) after ≡ report_of before f → (n ≡ length (text_of f)) × (n ≤ length after) × (take n after ≡ text_of f)
unfolding outcome report_of
written-length before after f n e = go (eqb (length before) report_room) e
  where
    whole : n ∷ [] ≡ length (text_of f) ∷ [] → after ≡ text_of f ++ drop (length (text_of f)) before → (n ≡ length (text_of f)) × (n ≤ length after) × (take n after ≡ text_of f)
    whole v b =
        let same : n ≡ length (text_of f) = cc v in
        (same, omega (arith, ap length b, length-append (text_of f) (drop (length (text_of f)) before)), ap₂ (λ (k : ℕ) (l : List ℕ). take k l) same b ∙ take-append_seam (text_of f) (drop (length (text_of f)) before))

    go : (b : Bool) → outcome (Ok n) after ≡ pick_outcome b (written (text_of f) before) (wrong before) → (n ≡ length (text_of f)) × (n ≤ length after) × (take n after ≡ text_of f)
    go true e = whole (ap (λ (o : Outcome). o.values) e) (ap (λ (o : Outcome). o.buffer) e)
    go false e = absurd (no (ap (λ (o : Outcome). o.number) e))
      where
        no : ◌≡◌ {A = ℕ} 0 5 → ⊥
        no e = omega arith
