-- The contract determines the number, the text's buffer and the word of its length, and a refusal changes none. Assumes nothing.
use mathlib.Core.Path.{◌≡◌, refl, sym, ap, ◌∙◌}
use mathlib.Core.Bool.{Bool, true, false, cond}
use mathlib.Core.List.{List}
use Prim.Native.Nat.{ℕ}
use lib.Dec.{eqb}
use lib.ListN.{length}
use contract.Lifetimes.{Lfts}
use borrow.Fn.World as World
use borrow.Fn.Kinds as Kinds'
use denote.Triple.Clauses as Clauses
use Rattle.limits.specs.Refusals.{wrong_room}
use Rattle.report.specs.Lines.{text_of}
use Rattle.report.specs.Report.{report_room, pick_outcome, written, wrong, report_of}
use Rattle.link_figures.specs.Figures.{figures_of}
use Rattle.host_ledger.specs.Words.{ledger_at}
use Rattle.host_report_answer.specs.Told.{Told, told, told_of}
use Rattle.host_report_link.specs.LinkTold.{watch_at, link_at, out_of_place, report_link_to}
use Rattle.host_report_link.specs.contracts.ambrulicciu_report_link.{signature}
use Rattle.host_report_link.proofs.ambrulicciu_report_link.Kinds as K
use Rattle.host_report_link.proofs.ambrulicciu_report_link.Reads.{Post}

pub report-link-unique :
    (κs : Lfts 4) (a : World.ArgsD signature κs) (r₁ r₂ : World.ResD signature κs) (s₁ s₂ : Clauses.AtExit (Kinds'.ended_of 4 K.ps K.r) κs)
    → Post κs a r₁ s₁ → Post κs a r₂ s₂
    → (r₁ ≡ r₂) × (s₁.1.1.1.1.1.0.now ≡ s₂.1.1.1.1.1.0.now) × (s₁.1.1.1.1.1.1.0.now ≡ s₂.1.1.1.1.1.1.0.now)
report-link-unique κs a r₁ r₂ s₁ s₂ p q =
    let e = p ∙ sym q in
    (ap (λ (x : Told). x.number) e, ap (λ (x : Told). x.text) e, ap (λ (x : Told). x.length) e)

-- a refusal is 5, of a ring that is out of place or a buffer of another size, and changes nothing
pub refused-unchanged : (ledger monitor : List ℕ) (watched records turned : ℕ) (text word : List ℕ)
    → ((report_link_to ledger monitor watched records turned text word).number ≡ 0 → ⊥) → report_link_to ledger monitor watched records turned text word ≡ told wrong_room text word
unfolding report_link_to report_of
refused-unchanged ledger monitor watched records turned text word = go (out_of_place (ledger_at ledger) (watch_at watched monitor)) (eqb (length text) report_room)
  where
    go : (o b : Bool) →
        let x = cond o (told wrong_room text word) (told_of (pick_outcome b (written (text_of (figures_of (link_at ledger monitor watched) records turned)) text) (wrong text)) word) in
        (x.number ≡ 0 → ⊥) → x ≡ told wrong_room text word
    go true b h = refl
    go false true h = absurd (h refl)
    go false false h = refl
