use mathlib.Core.Path.{refl, sym, ap, ◌∙◌}
use mathlib.Core.List.{List}
use Prim.Native.Nat.{ℕ, ◌+◌, ◌-◌}
use native.Mathlib.Omega.{arith}
use lib.ListN.{length, take, get_or, set, length-set}
use lib.Seq.{take_all}
use native.Mathlib.Numerals.{add-one}
use borrow.Author.Rules.{rules}
use Rattle.host_snapshot_words.proofs.Laws.{placed, placed_one}
use Rattle.host_snapshot_words.proofs.place.Goals as goal

pub loop-i-init : goal.loop-i-init
loop-i-init c = (search rules, refl, refl)

pub loop-i-preserved : goal.loop-i-preserved
loop-i-preserved c = (
  search rules,
  simp length-set c.loop-i.invariant.1,
  ap (λ (l : List ℕ). set l (c.args.at + c.loop-i.i) (get_or c.args.words.now c.loop-i.i 0)) c.loop-i.invariant.2
      ∙ placed_one c.args.at c.loop-i.i c.args.words.now c.args.room.now (omega arith)
      ∙ ap (λ (n : ℕ). placed c.args.at (take n c.args.words.now) c.args.room.now) (sym (add-one c.loop-i.i)),
)

pub returns : goal.returns
returns c =
    c.loop-i.invariant.2
    ∙ ap (λ (l : List ℕ). placed c.args.at l c.args.room.now) (take_all c.loop-i.i c.args.words.now (omega arith))
