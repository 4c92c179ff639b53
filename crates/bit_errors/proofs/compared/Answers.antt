use mathlib.Core.Path.{◌≡◌, sym, ap, ap₂, ◌∙◌, subst}
use mathlib.Core.Logic.{◌⊎◌, inr, ⊎_elim}
use mathlib.Core.List.{List}
use Prim.Native.Nat.{ℕ, ◌<◌, ◌+◌, ◌-◌, ◌*◌, ◌%◌}
use native.Mathlib.Nat.{zero-mod}
use native.Mathlib.Omega.{arith}
use lib.ListN.{length, take, drop, length-take, length-drop}
use lib.Seq.{take_all, length-take-le}
use Rattle.bit_runs.specs.Bits.{all_bits}
use Rattle.bit_runs.specs.Tally.{none, after, Room}
use Rattle.bit_errors.specs.Errors.{wrong_from}
use Rattle.bit_errors.specs.Parts.{differing}
use Rattle.bit_errors.proofs.Parts.{up_to-none, up_to_more, up_to_room, tail}
use Rattle.bit_errors.proofs.Patterns.{wrong-length, part_of, part_end}
use Rattle.bit_errors.proofs.compared.Goals as goal

-- pattern where they end. Assumes nothing.
begins : (at n from size : ℕ) → at < n → (at ≡ n) ⊎ (from ≡ at % size) → from ≡ at % size
begins at n from size h = ⊎_elim (λ (e : at ≡ n). absurd (omega arith)) (λ e. e)

-- as many bytes as are taken
taken : (padding : List ℕ) (at m : ℕ) → take (at + m - at) (drop at padding) ≡ take m (drop at padding)
taken padding at m = ap (λ (n : ℕ). take n (drop at padding)) {x = at + m - at} {y = m} (omega arith)

pub loop-at-init : goal.loop-at-init
loop-at-init c = (
  omega arith,
  c.requires.0,
  inr (sym (zero-mod c.args.size)),
  up_to-none (wrong_from (take c.args.size c.args.room.now) 0 c.args.padding.now) none (omega arith),
)

pub reach-far-requires : goal.reach-far-requires
reach-far-requires c = (c.loop-at.invariant.1, c.requires.1)

pub after_part-t-requires : goal.after_part-t-requires
after_part-t-requires c =
    let l = c.loop-at in
    let far = c.reach-far in
    let m = c.min in
    let p = c.args.padding.now in
    let q = c.args.room.now in
    let e : length (take (l.at + m.result - l.at) (drop l.at p)) ≡ m.result =
    omega (arith, l.invariant.0, m.ensures, ap length (taken p l.at m.result), length-take m.result (drop l.at p), length-drop l.at p) in (
      omega (arith, e, m.ensures, far.ensures.2, ap length (tail l.from q), length-drop l.from q),
      subst (λ (n : ℕ). Room (8 * n) l.t) (sym e)
          (subst (Room (8 * m.result)) (sym l.invariant.3)
          (up_to_room (wrong_from (take c.args.size q) 0 p) none l.at m.result 65535 (omega (arith, l.invariant.0, c.requires.4, m.ensures))
          (record { errors = omega arith; longest = omega arith; run = omega arith }))),
    )

pub loop-at-preserved : goal.loop-at-preserved
loop-at-preserved c =
    let l = c.loop-at in
    let far = c.reach-far in
    let m = c.min in
    let p = c.args.padding.now in
    let q = c.args.room.now in
    let once = take c.args.size q in
    let b = begins l.at (length p) l.from c.args.size (omega arith) l.invariant.2 in
    let bits = all_bits (differing (take (l.at + m.result - l.at) (drop l.at p)) (take (length q - l.from) (drop l.from q))) in (
      omega (arith, m.ensures),
      omega (arith, far.ensures.1, far.ensures.2, c.requires.2),
      part_end c.args.size (length p) l.at l.from far.result m.result b m.ensures l.invariant.0 far.ensures.1
          (omega (arith, far.ensures.2, c.requires.2)),
      c.after_part-t.ensures
          ∙ ap (after bits) l.invariant.3
          ∙ up_to_more (wrong_from once 0 p) none l.at m.result bits
          (ap all_bits (part_of q once p l.at l.from m.result c.requires.3
          (b ∙ ap (λ (n : ℕ). l.at % n) (sym (length-take-le c.args.size q c.requires.1))) (omega (arith, m.ensures, far.ensures.2))
          ∙ ap₂ differing (sym (taken p l.at m.result)) (sym (tail l.from q)))),
    )

pub returns : goal.returns
returns c =
    let a = c.args in
    let once = take a.size a.room.now in
    let w = wrong_from once 0 a.padding.now in
    c.loop-at.invariant.3
    ∙ ap (λ (s : List ℕ). after (all_bits s) none) (take_all c.loop-at.at w (omega (arith, wrong-length once 0 a.padding.now)))
