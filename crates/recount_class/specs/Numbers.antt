-- What follows from the class of a record's counters as a number: 0 a mismatch, 1 both reflector counts 0 without an anchor, 2 the anchor, 3 a
-- jump, 4 seen again, 5 history exceeded, 6 reordered, 7 advanced, 8 where there are no counters. Assumes nothing.
use Rattle.std.specs.Prelude.{Bool, false, not, ◌&&◌, ◌||◌, cond, ℕ, ◌+◌, eqb, Option, Some, None}
use Rattle.recount_class.specs.declared.Class.{Class}
use Rattle.recount_class.specs.declared.Class.TheVariants as class
use Rattle.recount_class.specs.declared.Figure.{Figure}
use Rattle.recount_class.specs.declared.Figure.TheVariants as figure

-- the number of a class
abbrev pub number_of : Class → ℕ
number_of class.Mismatch = 0
number_of class.Zeros = 1
number_of class.Anchor = 2
number_of class.Jump = 3
number_of class.Again = 4
number_of class.Exceeded = 5
number_of class.Reordered = 6
number_of class.Advanced = 7

abbrev pub class_number : Option Class → ℕ
class_number None = 8
class_number (Some c) = number_of c

-- the number of what is counted
abbrev pub figure_number : Figure → ℕ
figure_number figure.Observations = 0
figure_number figure.Unavailable = 1
figure_number figure.Discontinuities = 2
figure_number figure.Reordered = 3

-- the window is empty after it
abbrev pub clears_number : ℕ → Bool
clears_number x = (eqb x 1 || eqb x 3) || eqb x 4 || eqb x 5

-- where the window starts after record j, which has this class
abbrev pub start_next : (x start j : ℕ) → ℕ
start_next x start j = cond (clears_number x) (j + 1) start

-- 0 an observation, 1 unavailable, 2 a discontinuity, 3 reordered
abbrev pub number_test : (kind x : ℕ) → Bool
number_test kind x =
    cond (eqb kind 0) (not (eqb x 0) && not (eqb x 8))
    (cond (eqb kind 1) ((eqb x 0 || eqb x 1) || eqb x 4)
    (cond (eqb kind 2) (eqb x 3 || eqb x 4)
    (cond (eqb kind 3) (eqb x 6) false)))
