use mathlib.Core.Path.{sym, ◌∙◌, ap₂, subst}
use mathlib.Core.List.{List}
use Prim.Native.Nat.{ℕ, ◌≤◌}
use native.Mathlib.Omega.{arith}
use lib.Dec.{eqb}
use lib.ListN.{length}
use Rattle.histogram.specs.Histogram.{total}
use Rattle.histogram_ranks.proofs.Blocks.{block_from, few_below, lent-block, block-length, block-word, last_in, lies-last, lies-other}
use Rattle.histogram_ranks.proofs.block_lies.Goals as goal

pub overflow_mul-from : goal.overflow_mul-from
overflow_mul-from c = record { fits = omega (arith, few_below c.args.signed c.args.k c.requires.1) }

pub overflow_add-from : goal.overflow_add-from
overflow_add-from c = record { fits = omega (arith, few_below c.args.signed c.args.k c.requires.1) }

pub block_end-end-requires : goal.block_end-end-requires
block_end-end-requires c = block_from c.args.signed c.args.k c.requires.1

pub add_up-whole-requires : goal.add_up-whole-requires
add_up-whole-requires c =
    let a = c.args in
    let e = c.block_end-end in
    subst (λ (l : List ℕ). length l ≤ 65536) (sym (lent-block a.signed a.room.now a.k e.result c.requires.0 c.requires.1 e.ensures.0))
    (block-length a.signed a.room.now a.k)

pub bounds-room-18688 : goal.bounds-room-18688
bounds-room-18688 c = last_in c.args.signed c.args.k (length c.args.room.now) c.if-signed-k.true c.requires.0

pub returns-then-signed-k : goal.returns-then-signed-k
returns-then-signed-k c =
    let a = c.args in
    let p = c.requires in
    let e = c.block_end-end in
    let t = c.totals_start in
    lies-last a.signed a.room.now a.k c.add_up-whole.result
    (c.add_up-whole.ensures ∙ ap₂ (λ (l : List ℕ) (n : ℕ). eqb (total l) n) (lent-block a.signed a.room.now a.k e.result p.0 p.1 e.ensures.0) (sym (block-word a.signed a.room.now a.k t.result p.0 t.ensures)))
    c.if-signed-k.true p.0

pub returns : goal.returns
returns c =
    let a = c.args in
    let p = c.requires in
    let e = c.block_end-end in
    let t = c.totals_start in
    lies-other a.signed a.room.now a.k c.add_up-whole.result
    (c.add_up-whole.ensures ∙ ap₂ (λ (l : List ℕ) (n : ℕ). eqb (total l) n) (lent-block a.signed a.room.now a.k e.result p.0 p.1 e.ensures.0) (sym (block-word a.signed a.room.now a.k t.result p.0 t.ensures)))
    c.if-signed-k.false
