use mathlib.Core.Path.{◌≡◌, sym, subst}
use mathlib.Core.List.{List}
use Prim.Native.Nat.{ℕ}
use native.Mathlib.Omega.{arith}
use Rattle.decimal.specs.Decimal.{most_digits}
use Rattle.decimal.specs.Writing.{Stands}
use Rattle.decimal.proofs.Places.{within}
use Rattle.template.specs.declared.Shown.{Shown}
use Rattle.template.specs.Filled.{shown_text}
use Rattle.template.proofs.put_shown.Goals as goal

-- the text of a value whose case is known
shown_is : {v w : Shown} {b a : List ℕ} {at r : ℕ} → v ≡ w → Stands most_digits (shown_text w) b at a r → Stands most_digits (shown_text v) b at a r
shown_is {v} {w} {b} {a} {at} {r} e s = subst (λ (x : Shown). Stands most_digits (shown_text x) b at a r) (sym e) s

pub returns-in-Absent : goal.returns-in-Absent
returns-in-Absent c = shown_is c.in-Absent.is (within (omega arith) c.put_text.ensures)

pub returns-in-Number : goal.returns-in-Number
returns-in-Number c = shown_is c.in-Number.is c.put_decimal.ensures

pub returns-in-None : goal.returns-in-None
returns-in-None c = shown_is c.in-None.is (within (omega arith) c.put_text-in-None.ensures)

pub returns-in-Idle : goal.returns-in-Idle
returns-in-Idle c = shown_is c.in-Idle.is (within (omega arith) c.put_text-in-Idle.ensures)

pub returns-in-Active : goal.returns-in-Active
returns-in-Active c = shown_is c.in-Active.is (within (omega arith) c.put_text-in-Active.ensures)

pub returns-in-Failed : goal.returns-in-Failed
returns-in-Failed c = shown_is c.in-Failed.is (within (omega arith) c.put_text-in-Failed.ensures)
