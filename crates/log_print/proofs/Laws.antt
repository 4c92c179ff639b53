-- From a line that stands at the start of the buffer to what is said of it. Assumes nothing.
use Rattle.std.specs.Prelude.{Result}
use mathlib.Core.Path.{◌≡◌, sym, ap, ◌∙◌}
use mathlib.Core.Bool.{Bool, true, false, cond}
use mathlib.Core.List.{List, []}
use Prim.Native.Nat.{ℕ, ◌+◌}
use native.Mathlib.Omega.{arith}
use borrow.Author.Tests.{eq-eqb, ne_eqb}
use lib.Dec.{eqb}
use lib.ListN.{length}
use Rattle.decimal.specs.Writing.{Stands}
use Rattle.decimal.proofs.Places.{over_none}
use Rattle.report.specs.Report.{report_room}
use Rattle.log_whole.specs.declared.Fault.{Fault}
use Rattle.log_whole.specs.declared.Settings.{Settings}
use Rattle.log_print.specs.Printed.{refusal_line, Said, said, line_in, refused_in}

pub stands_said : {m r : ℕ} {line before after : List ℕ} → Stands m line before 0 after r → said r after ≡ line_in line before
unfolding line_in
stands_said s = (λ i. said ((s.end ∙ zero_add) i) (s.bytes i))
  where
    zero_add : {n : ℕ} → 0 + n ≡ n
    zero_add = omega arith

-- nothing is put, and nothing said
pub none_said : (text : List ℕ) → said 0 text ≡ line_in [] text
unfolding line_in
none_said text = ap (said 0) (sym (over_none text 0))

module _ (checked : Result Settings Fault) (text : List ℕ) where
  by : (b : Bool) → eqb (length text) report_room ≡ b → cond b (line_in (refusal_line checked) text) (said 0 text) ≡ refused_in checked text
  unfolding refused_in
  by b e = ap (λ (x : Bool). cond x (line_in (refusal_line checked) text) (said 0 text)) (sym e)

  pub another_size : (length text ≡ report_room → ⊥) → said 0 text ≡ refused_in checked text
  another_size h = by false (ne_eqb (length text) report_room h)

  pub its_size : {s : Said} → length text ≡ report_room → s ≡ line_in (refusal_line checked) text → s ≡ refused_in checked text
  its_size h e = e ∙ by true (eq-eqb (length text) report_room h)

-- one of the lines that are put
pub line_put : {m r : ℕ} {line line' before after : List ℕ} → line' ≡ line → Stands m line before 0 after r → said r after ≡ line_in line' before
line_put {before = before} h s = stands_said s ∙ ap (λ (l : List ℕ). line_in l before) (sym h)
