use mathlib.Core.Path.{◌∙◌, ap}
use Rattle.histogram_ranks.specs.Ranks.{lies}
use Rattle.histogram_ranks.proofs.Blocks.{block-below}
use Rattle.histogram_ranks.proofs.rank_lies.Goals as goal

pub block_lies-requires : goal.block_lies-requires
block_lies-requires c =
    let a = c.args in
    let p = c.requires in
    (p.0, block-below a.q a.room.now a.rank c.held-found.result.place p.0 p.1 p.2 c.held-found.ensures.0)

pub returns : goal.returns
returns c =
    let a = c.args in
    c.block_lies.ensures ∙ ap (lies a.q.signed a.room.now) c.held-found.ensures.0
