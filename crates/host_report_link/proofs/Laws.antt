-- From what the parts of the call answer to what a host is told. Assumes nothing.
use Rattle.std.specs.Prelude.{Option, Some, None, Result}
use mathlib.Core.Path.{◌≡◌, refl, sym, ap, ◌∙◌}
use mathlib.Core.Bool.{Bool, true, false, not, ◌||◌, cond}
use mathlib.Core.List.{List}
use Prim.Native.Nat.{ℕ, zero, suc}
use Rattle.limits.specs.Limits.{capacity}
use Rattle.limits.specs.Refusals.{wrong_room}
use Rattle.ledger_state.specs.declared.Ledger.{Ledger}
use Rattle.ledger_state.specs.Refusal.{rings_fit}
use Rattle.monitor.specs.declared.Monitor.{Monitor}
use Rattle.monitor.specs.Refusals.{misplaced}
use Rattle.link_figures.specs.Figures.{figures_of}
use Rattle.report.specs.declared.figures.Figures.{Figures}
use Rattle.report.specs.Report.{Outcome, outcome, report_of}
use Rattle.host_ledger.specs.Words.{ledger_at}
use Rattle.host_monitor_words.specs.Words.{monitor_at}
use Rattle.host_report_answer.specs.Told.{number_of, word_after, told, told_of}
use Rattle.host_report_answer.proofs.Laws.{tells-outcome}
use Rattle.host_report_link.specs.LinkTold.{watch_at, link_at, out_of_place, report_link_to}

pub watched_is : (n : ℕ) (monitor : List ℕ) (m : Monitor) → (n ≡ 0 → ⊥) → m ≡ monitor_at monitor → Some m ≡ watch_at n monitor
watched_is zero monitor m h e = absurd (h refl)
watched_is (suc n) monitor m h e = ap Some e

pub placed_alone : (l : Ledger) (w : Option Monitor) (fit : Bool) → fit ≡ rings_fit l → not fit ≡ true → true ≡ out_of_place l w
placed_alone l None fit e h = sym (ap not (sym e) ∙ h)
placed_alone l (Some m) fit e h = sym (ap (λ (b : Bool). b || misplaced m capacity) (ap not (sym e) ∙ h))

pub placed-absent : (l : Ledger) (w : Option Monitor) (fit : Bool) → w ≡ None → fit ≡ rings_fit l → not fit ≡ false → false ≡ out_of_place l w
placed-absent l w fit ew e h = sym (ap (out_of_place l) ew ∙ ap not (sym e) ∙ h)

pub placed-present : (l : Ledger) (w : Option Monitor) (m : Monitor) (fit out : Bool) → w ≡ Some m → fit ≡ rings_fit l → not fit ≡ false → out ≡ misplaced m capacity → out ≡ out_of_place l w
placed-present l w m fit out ew e h eo = eo ∙ sym (ap (out_of_place l) ew ∙ ap (λ (b : Bool). b || misplaced m capacity) (ap not (sym e) ∙ h))

-- by whether a ring is out of place
link-by : (ledger monitor : List ℕ) (watched records turned : ℕ) (text word : List ℕ) (w : Option Monitor) (out b : Bool) → w ≡ watch_at watched monitor → out ≡ out_of_place (ledger_at ledger) w → out ≡ b
    → cond b (told wrong_room text word) (told_of (report_of text (figures_of (link_at ledger monitor watched) records turned)) word) ≡ report_link_to ledger monitor watched records turned text word
unfolding report_link_to
link-by ledger monitor watched records turned text word w out b ew eo e =
    ap (λ (x : Bool). cond x (told wrong_room text word) (told_of (report_of text (figures_of (link_at ledger monitor watched) records turned)) word))
    (sym e ∙ eo ∙ ap (out_of_place (ledger_at ledger)) ew)

pub link-refused : (ledger monitor : List ℕ) (watched records turned : ℕ) (text word : List ℕ) (w : Option Monitor) (out : Bool) → w ≡ watch_at watched monitor → out ≡ out_of_place (ledger_at ledger) w → out ≡ true
    → told wrong_room text word ≡ report_link_to ledger monitor watched records turned text word
link-refused ledger monitor watched records turned text word w out ew eo h = link-by ledger monitor watched records turned text word w out true ew eo h

pub link-told : (ledger monitor : List ℕ) (watched records turned : ℕ) (text text' word word' : List ℕ) (k : Ledger) (w : Option Monitor) (f : Figures) (a : Result ℕ ℕ) (n : ℕ) (out : Bool)
    → out ≡ out_of_place (ledger_at ledger) w → out ≡ false → k ≡ ledger_at ledger → w ≡ watch_at watched monitor → f ≡ figures_of (record { ledger = k; watch = w }) records turned
    → outcome a text' ≡ report_of text f → (n ≡ number_of a) × (word' ≡ word_after a word)
    → told n text' word' ≡ report_link_to ledger monitor watched records turned text word
link-told ledger monitor watched records turned text text' word word' k w f a n out eo h ek ew ef ea t =
    let figures : f ≡ figures_of (link_at ledger monitor watched) records turned = ef ∙ (λ i. figures_of (record { ledger = ek i; watch = ew i }) records turned) in
    tells-outcome a n text' word word' t ∙ ap (λ (o : Outcome). told_of o word) (ea ∙ ap (report_of text) figures) ∙ link-by ledger monitor watched records turned text word w out false ew eo h
