use mathlib.Core.Path.{sym, ap, ◌∙◌}
use mathlib.Core.List.{List}
use Prim.Native.Nat.{ℕ, ◌+◌, ◌*◌, ◌/◌, ◌%◌, ◌≤◌}
use native.Mathlib.Nat.{div-le_self, mul-le-mul_left}
use native.Mathlib.Omega.{arith}
use lib.ListN.{length}
use lib.Seq.{take_all}
use Rattle.bit_runs.specs.Bits.{all_bits}
use Rattle.bit_runs.specs.Tally.{none, after}
use Rattle.bit_errors.specs.Errors.{wrong_from}
use Rattle.bit_errors.proofs.Patterns.{as_it_stands, whole_length, repeats_on, same-repeated}
use Rattle.bit_errors.proofs.counted.Goals as goal

-- Assumes nothing.
-- how many bytes are in no whole word, about
single : (n l : ℕ) → n ≤ 65535 → n / l * (l % 8 + 1) ≤ 524280
single n l h =
    let few : l % 8 + 1 ≤ 8 = omega arith in
    omega (arith, div-le_self n l, mul-le-mul_left (n / l) few)

pub overflow_mul-padding : goal.overflow_mul-padding
overflow_mul-padding c =
    record { fits = omega (arith, single (length c.args.padding.now) (length c.args.pattern.now) c.requires.1) }

pub overflow_mul-padding-else-long-gt760 : goal.overflow_mul-padding-else-long-gt760
overflow_mul-padding-else-long-gt760 c =
    record { fits = omega (arith, single (length c.args.padding.now) (length c.args.pattern.now) c.requires.1) }

pub compared-requires : goal.compared-requires
compared-requires c =
    (c.requires.0, omega arith, omega (arith, c.requires.0), as_it_stands c.args.pattern.now, c.requires.1)

pub returns-then-long-gt760 : goal.returns-then-long-gt760
returns-then-long-gt760 c =
    let a = c.args in
    c.compared.ensures
    ∙ ap (λ (q : List ℕ). after (all_bits (wrong_from q 0 a.padding.now)) none) (take_all (length a.pattern.now) a.pattern.now (omega arith))

pub slice_bounds-compared-end : goal.slice_bounds-compared-end
slice_bounds-compared-end c =
    let k = c.times in
    let written = c.repeat in
    sym (whole_length written.new.room c.args.pattern.now k.result k.ensures.0 c.requires.0 (omega (arith, written.auto.room, k.ensures.2)) written.ensures)

pub compared-requires-2 : goal.compared-requires-2
compared-requires-2 c =
    let k = c.times in
    let written = c.repeat in
    let fits : k.result * length c.args.pattern.now + 7 ≤ length written.new.room = omega (arith, written.auto.room, k.ensures.2) in
    let e = whole_length written.new.room c.args.pattern.now k.result k.ensures.0 c.requires.0 fits written.ensures in (
      omega (arith, k.ensures.1),
      omega (arith, e),
      omega (arith, e, k.ensures.1),
      repeats_on written.new.room c.args.pattern.now k.result k.ensures.0 c.requires.0 fits written.ensures,
      c.requires.1,
    )

pub returns : goal.returns
returns c =
    let k = c.times in
    let written = c.repeat in
    c.compared-2.ensures
    ∙ ap (λ (s : List ℕ). after (all_bits s) none)
    (same-repeated written.new.room c.args.pattern.now k.result k.ensures.0 c.requires.0 (omega (arith, written.auto.room, k.ensures.2))
    written.ensures c.args.padding.now)
