use mathlib.Core.Path.{sym, subst}
use Prim.Native.Nat.{◌≤◌}
use Rattle.chains.specs.Hash.{number_hash}
use Rattle.direct.specs.declared.Direct.{Direct}
use Rattle.direct.specs.Outcomes.{InBounds, seen_in}
use Rattle.host_direct_loss.proofs.Laws.{any-as}
use Rattle.host_direct_loss.proofs.count_any.Goals as goal

pub count_direct-after-requires : goal.count_direct-after-requires
count_direct-after-requires c =
    let bounded = subst (λ (d : Direct). InBounds d.counts × (seen_in d.window ≤ 4096)) (sym c.direct_of-before.ensures) (c.requires.2, c.requires.3) in
    (c.requires.0, c.requires.1, bounded.0, bounded.1)

pub returns : goal.returns
returns c =
    any-as (number_hash c.args.secret) c.args.ledger.now c.args.offsets.now c.args.links.now c.args.told _ _ _ _ _
    c.direct_of-before.ensures c.count_direct-after.ensures c.store_direct.ensures.0
