-- How long a filled template is at most. Assumes nothing.
use mathlib.Core.Bool.{Bool, true, false, cond}
use mathlib.Core.List.{List, [], ◌∷◌, ◌++◌}
use Prim.Native.Nat.{ℕ, ◌^◌, ◌≤◌, ◌<◌}
use native.Mathlib.Omega.{arith}
use lib.Dec.{eqb, lit≤}
use lib.ListN.{length, length-append}
use Rattle.decimal.specs.Decimal.{most_digits}
use Rattle.decimal.proofs.Laws.{word-digits}
use Rattle.template.specs.declared.Shown.{Shown}
use Rattle.template.specs.declared.Shown.TheVariants.{Absent, Number, None, Idle, Active, Failed}
use Rattle.template.specs.Filled.{shown_text, place, filled, most_filled}

-- a number is one of 64 bits
abbrev pub Word : Shown → Type 0
Word Absent = Unit
Word (Number n) = n < 2 ^ 64
Word None = Unit
Word Idle = Unit
Word Active = Unit
Word Failed = Unit

-- all numbers are
abbrev pub Words : List Shown → Type 0
Words [] = Unit
Words (v ∷ values) = Word v × Words values

-- no value takes more room than the greatest number
shown-at-most : (v : Shown) → Word v → length (shown_text v) ≤ most_digits
shown-at-most Absent h = lit≤ tt
shown-at-most (Number n) h = word-digits n h
shown-at-most None h = lit≤ tt
shown-at-most Idle h = lit≤ tt
shown-at-most Active h = lit≤ tt
shown-at-most Failed h = lit≤ tt

-- A filled template has at most its own bytes and 20 for each value.
pub filled-at-most : (t : List ℕ) (values : List Shown) → Words values → length (filled t values) ≤ most_filled t values
unfolding filled
filled-at-most [] values h = omega arith
filled-at-most (c ∷ t) [] h = omega arith
filled-at-most (c ∷ t) (v ∷ values) h = go (filled-at-most t values h.1) (filled-at-most t (v ∷ values) h) (shown-at-most v h.0) (eqb c place)
  where
    go : length (filled t values) ≤ most_filled t values → length (filled t (v ∷ values)) ≤ most_filled t (v ∷ values) → length (shown_text v) ≤ most_digits
        → (b : Bool) → length (cond b (shown_text v ++ filled t values) (c ∷ filled t (v ∷ values))) ≤ most_filled (c ∷ t) (v ∷ values)
    go next same short true = omega (arith, next, short, length-append (shown_text v) (filled t values))
    go next same short false = omega (arith, same)
