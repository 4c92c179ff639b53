use mathlib.Core.Path.{◌≡◌, refl, sym, ap, ◌∙◌}
use Prim.Native.Nat.{ℕ}
use native.Mathlib.Omega.{arith}
use lib.ListN.{length-set}
use lib.Seq.{paste, paste-zero}
use Rattle.area_items.specs.Items.{rest_of, area}
use Rattle.area_items.proofs.Laws.{good}
use Rattle.area_read.specs.Read.{items_of, words_of}
use Rattle.area_read.proofs.Laws.{next, some, none-listed, one_less, listed_more}
use Rattle.area_read.proofs.list.Goals as goal

pub loop-index-init : goal.loop-index-init
loop-index-init c =
    let a = c.args in
    (refl, none-listed a.bytes.now, paste-zero a.room.now 0 (words_of (items_of (area a.bytes.now))))

pub word_at-requires : goal.word_at-requires
word_at-requires c =
    let l = c.loop-index in
    let b = c.args.bytes.now in
    let g = good b l.at (next b l.at (some b l.at l.index (omega (arith, c.requires.1)) l.invariant.1)).right in
    (g.0, g.1)

pub bounds-room-index : goal.bounds-room-index
bounds-room-index c = omega (arith, c.loop-index.invariant.0, c.requires.0)

pub end_of-at-requires : goal.end_of-at-requires
end_of-at-requires c =
    let l = c.loop-index in
    let b = c.args.bytes.now in
    let g = good b l.at (next b l.at (some b l.at l.index (omega (arith, c.requires.1)) l.invariant.1)).right in
    (g.0, g.1)

pub loop-index-preserved : goal.loop-index-preserved
loop-index-preserved c =
    let l = c.loop-index in
    let b = c.args.bytes.now in (
      length-set l.room l.index c.word_at.result ∙ l.invariant.0,
      one_less b l.at l.index (omega (arith, c.requires.1)) l.invariant.1 ∙ ap (λ (n : ℕ). items_of (rest_of b n)) (sym c.end_of-at.ensures),
      listed_more b l.at l.index (omega (arith, c.requires.1)) l.invariant.1 c.args.room.now l.room c.word_at.result (omega (arith, c.requires.0)) l.invariant.2 c.word_at.ensures,
    )

pub returns : goal.returns
returns c =
    let l = c.loop-index in
    let all : l.index ≡ c.args.last = omega arith in
    l.invariant.2 ∙ ap (paste c.args.room.now 0 (words_of (items_of (area c.args.bytes.now)))) all
