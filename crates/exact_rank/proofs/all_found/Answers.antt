use Rattle.exact_rank.specs.Searches.{AllFollow, turned_once}
use Rattle.std.proofs.Common.{ℕ, ◌-◌, List, take}
use Rattle.sample_passes.specs.Keys.{shifted}
use Rattle.exact_rank.proofs.Steps.{all_inside, turned_inside, four_turns_follow, four_turns_end}
use Rattle.exact_rank.proofs.all_found.Goals as goal

pub found-second-requires : goal.found-second-requires
found-second-requires c = (c.requires.0, rw c.turned.ensures (turned_inside _ _ _ (all_inside _ _ _ _ c.found-first.ensures.0)))

pub found-third-requires : goal.found-third-requires
found-third-requires c = (c.requires.0, rw c.turned-2.ensures (turned_inside _ _ _ (all_inside _ _ _ _ c.found-second.ensures.0)))

pub found-requires : goal.found-requires
found-requires c = (c.requires.0, rw c.turned-3.ensures (turned_inside _ _ _ (all_inside _ _ _ _ c.found-third.ensures.0)))

pub returns : goal.returns
returns c =
    let key : ℕ → ℕ = shifted c.args.bias in
    let xs : List ℕ = take c.args.count c.args.samples.now in
    let first : AllFollow key xs c.args.four c.found-first.result = c.found-first.ensures.0 in
    let second : AllFollow key xs (turned_once c.found-first.result) c.found-second.result = rw c.turned.ensures at c.found-second.ensures.0 in
    let third : AllFollow key xs (turned_once c.found-second.result) c.found-third.result = rw c.turned-2.ensures at c.found-third.ensures.0 in
    let fourth : AllFollow key xs (turned_once c.found-third.result) c.found.result = rw c.turned-3.ensures at c.found.ensures.0 in
    rw c.turned-4.ensures (
      four_turns_follow key xs c.args.four c.found-first.result c.found-second.result c.found-third.result c.found.result first second third fourth,
      four_turns_end key xs c.args.four c.found-first.result c.found-second.result c.found-third.result c.found.result first second third fourth
          c.found-first.ensures.1 c.found-second.ensures.1 c.found-third.ensures.1 c.found.ensures.1,
    )
