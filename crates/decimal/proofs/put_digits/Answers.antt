use mathlib.Core.Path.{◌≡◌, refl, sym, ap, ap₂, ◌∙◌}
use mathlib.Core.List.{List, [], ◌∷◌, ◌++◌, append_assoc, append-nil}
use Prim.Native.Nat.{ℕ, ◌+◌, ◌-◌, ◌/◌, ◌%◌, ◌≤◌}
use native.Mathlib.Omega.{arith}
use lib.ListN.{length, drop, set, length-set}
use lib.Seq.{drop-length, drop-append_seam}
use Rattle.decimal.specs.Decimal.{digit, decimal}
use Rattle.decimal.specs.Writing.{over}
use Rattle.decimal.proofs.Laws.{decimal_digit, decimal_more, one_more-digit, some_digit}
use Rattle.decimal.proofs.Places.{over_none, over-front}
use Rattle.decimal.proofs.put_digits.Invariants.{behind}
use Rattle.decimal.proofs.put_digits.Goals as goal

-- the last digit of the rest goes to those behind
moved : (n rest : ℕ) → 10 ≤ rest → decimal n ≡ decimal rest ++ behind n rest → behind n (rest / 10) ≡ digit (rest % 10) ∷ behind n rest
moved n rest h e =
    ap (drop (length (decimal (rest / 10))))
    (e ∙ ap (λ (l : List ℕ). l ++ behind n rest) (decimal_more rest h) ∙ append_assoc (decimal (rest / 10)) (digit (rest % 10) ∷ []) (behind n rest))
    ∙ drop-append_seam (decimal (rest / 10)) (digit (rest % 10) ∷ behind n rest)

joined : (n rest : ℕ) → 10 ≤ rest → decimal n ≡ decimal rest ++ behind n rest → decimal n ≡ decimal (rest / 10) ++ behind n (rest / 10)
joined n rest h e =
    e
    ∙ ap (λ (l : List ℕ). l ++ behind n rest) (decimal_more rest h)
    ∙ append_assoc (decimal (rest / 10)) (digit (rest % 10) ∷ []) (behind n rest)
    ∙ ap (λ (l : List ℕ). decimal (rest / 10) ++ l) (sym (moved n rest h e))

back : (place : ℕ) → 1 ≤ place → place - 1 + 1 ≡ place
back place h = omega arith

pub overflow_add-place : goal.overflow_add-place
overflow_add-place c = omega arith

pub overflow_sub-place : goal.overflow_sub-place
overflow_sub-place c = omega (arith, some_digit c.args.n)

pub loop-rest-init : goal.loop-rest-init
loop-rest-init c = (
  sym (ap (λ (l : List ℕ). decimal c.args.n ++ l) (drop-length (decimal c.args.n)) ∙ append-nil (decimal c.args.n)),
  sym (ap (λ (l : List ℕ). over c.args.bytes.now (c.args.at + c.args.digits - 1 + 1) l) (drop-length (decimal c.args.n)) ∙ over_none c.args.bytes.now (c.args.at + c.args.digits - 1 + 1)),
  omega (arith, some_digit c.args.n),
  omega (arith, some_digit c.args.n),
  refl,
)

pub overflow_cast-bytes : goal.overflow_cast-bytes
overflow_cast-bytes c = omega arith

pub overflow_add-bytes : goal.overflow_add-bytes
overflow_add-bytes c = omega arith

pub bounds-bytes-place : goal.bounds-bytes-place
bounds-bytes-place c = omega arith

pub overflow_sub-place-in-loop-rest : goal.overflow_sub-place-in-loop-rest
overflow_sub-place-in-loop-rest c = omega (arith, one_more-digit c.loop-rest.rest c.loop-rest-test.true, some_digit (c.loop-rest.rest / 10))

pub loop-rest-smaller : goal.loop-rest-smaller
loop-rest-smaller c = omega arith

pub loop-rest-preserved : goal.loop-rest-preserved
loop-rest-preserved c =
    let n = c.args.n in
    let b = c.args.bytes.now in
    let l = c.loop-rest in
    let one = one_more-digit l.rest c.loop-rest-test.true in
    let some = some_digit (l.rest / 10) in (
      joined n l.rest c.loop-rest-test.true l.invariant.0,
      ap (λ (x : List ℕ). set x l.place (digit (l.rest % 10))) l.invariant.1
          ∙ over-front b l.place (digit (l.rest % 10)) (behind n l.rest) l.invariant.3
          ∙ ap₂ (λ (i : ℕ) (x : List ℕ). over b i x) (sym (back l.place (omega (arith, one, some, l.invariant.2)))) (sym (moved n l.rest c.loop-rest-test.true l.invariant.0)),
      omega (arith, one, some, l.invariant.2),
      omega (arith, l.invariant.3),
      length-set l.bytes l.place (digit (l.rest % 10)) ∙ l.invariant.4,
    )

pub overflow_cast-bytes-2 : goal.overflow_cast-bytes-2
overflow_cast-bytes-2 c = omega arith

pub overflow_add-bytes-2 : goal.overflow_add-bytes-2
overflow_add-bytes-2 c = omega arith

pub bounds-bytes-place-2 : goal.bounds-bytes-place-2
bounds-bytes-place-2 c = omega arith

pub shape_of-bytes : goal.shape_of-bytes
shape_of-bytes c = length-set c.loop-rest.bytes c.loop-rest.place (48 + c.loop-rest.rest) ∙ c.loop-rest.invariant.4

pub returns : goal.returns
returns c =
    let n = c.args.n in
    let b = c.args.bytes.now in
    let l = c.loop-rest in
    let one = decimal_digit l.rest c.loop-rest-test.false in
    let first : l.place ≡ c.args.at = omega (arith, l.invariant.2, ap length one) in
    ap (λ (x : List ℕ). set x l.place (digit l.rest)) l.invariant.1
    ∙ over-front b l.place (digit l.rest) (behind n l.rest) l.invariant.3
    ∙ ap₂ (λ (i : ℕ) (x : List ℕ). over b i x) first (sym (l.invariant.0 ∙ ap (λ (x : List ℕ). x ++ behind n l.rest) one))
