use Rattle.std.specs.Prelude.{Ok}
use mathlib.Core.Path.{◌≡◌, sym, ap, ap₂, ◌∙◌}
use mathlib.Core.Bool.{Bool}
use mathlib.Core.List.{List, ◌++◌}
use Prim.Native.Nat.{ℕ, ◌+◌}
use native.Mathlib.Omega.{arith}
use lib.Dec.{lit≤}
use lib.ListN.{length, drop}
use borrow.Author.Tests.{eq-eqb, ne_eqb}
use Rattle.decimal.specs.Writing.{Stands, over}
use Rattle.template.specs.Filled.{filled, places}
use Rattle.template.specs.declared.Shown.{Shown}
use Rattle.report.specs.Lines.{template, values_of, text_of}
use Rattle.report.specs.Report.{outcome, pick_outcome, written, wrong, report_of}
use Rattle.report.proofs.report.Goals as goal

-- a text that stands at the start of the buffer
stands : (most : ℕ) (t before after : List ℕ) (r : ℕ) → Stands most t before 0 after r → outcome (Ok r) after ≡ written t before
unfolding outcome over
stands most t before after r s =
    ap₂ (λ (n : ℕ) (b : List ℕ). outcome (Ok n) b) (s.end ∙ plain (length t)) (s.bytes ∙ ap (λ (n : ℕ). t ++ drop n before) (plain (length t)))
  where
    plain : (n : ℕ) → 0 + n ≡ n
    plain n = omega arith

pub returns-then-buffer-ne-REPORT_ROOM : goal.returns-then-buffer-ne-REPORT_ROOM
unfolding outcome report_of
returns-then-buffer-ne-REPORT_ROOM c =
    sym (ap (λ (b : Bool). pick_outcome b (written (text_of c.args.figures) c.args.buffer.now) (wrong c.args.buffer.now)) (ne_eqb _ _ c.if-buffer-ne-REPORT_ROOM.true))

pub fill-end-requires : goal.fill-end-requires
unfolding places values_of
fill-end-requires c = rw (c.values_of-values.ensures, c.if-buffer-ne-REPORT_ROOM.false) (lit≤ tt, lit≤ tt)

pub returns : goal.returns
unfolding report_of text_of
returns c =
    let before = c.args.buffer.now in
    let figures = c.args.figures in
    stands _ _ before _ _ c.fill-end.ensures
    ∙ ap (λ (vs : List Shown). written (filled template vs) before) c.values_of-values.ensures
    ∙ sym (ap (λ (b : Bool). pick_outcome b (written (text_of figures) before) (wrong before)) (eq-eqb _ _ c.if-buffer-ne-REPORT_ROOM.false))
