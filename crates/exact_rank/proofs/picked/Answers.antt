use Rattle.std.proofs.Common.{◌≡◌, ◌+◌, ◌-◌, take, arith, rules}
use Rattle.sample_passes.specs.Keys.{shifted}
use Rattle.sample_passes.specs.Counting.{below}
use Rattle.sample_passes.proofs.Counting.{below-whole, below-take-most}
use Rattle.exact_rank.proofs.Parting.{partable, all_parted-stepped, gathered_count}
use Rattle.exact_rank.proofs.picked.Goals as goal

pub overflow_sub-held : goal.overflow_sub-held
overflow_sub-held c =
    let p = c.requires in
    omega (arith, p.1.first.before_is p.2, p.1.first.through_is p.2, p.1.first.few_below, p.1.first.enough_through)

pub overflow_sub-node : goal.overflow_sub-node
overflow_sub-node c =
    let p = c.requires in
    omega (arith, p.1.first.before_is p.2, p.1.first.few_below)

pub overflow_add-node : goal.overflow_add-node
overflow_add-node c =
    let a = c.args in
    let p = c.requires in
    let node = a.four.first in
    let value = c.within-value.result in
    let at = c.around-around in
    let counted = gathered_count (shifted a.bias) (take a.count a.samples.now) node p.1.first p.2 _ c.gather.ensures.0 p.3 in
    let under : node.before + at.result.under ≡ below (shifted a.bias) value (take a.count a.samples.now) = omega (arith, at.ensures.0, counted value c.within-value.ensures.0 (omega (arith, c.within-value.ensures.1))) in
    omega (arith, under, below-take-most (shifted a.bias) value a.samples.now a.count, c.ranges.count.fits)

pub overflow_add-node-2 : goal.overflow_add-node-2
overflow_add-node-2 c =
    let a = c.args in
    let p = c.requires in
    let node = a.four.first in
    let value = c.within-value.result in
    let at = c.around-around in
    let counted = gathered_count (shifted a.bias) (take a.count a.samples.now) node p.1.first p.2 _ c.gather.ensures.0 p.3 in
    let reach : node.before + at.result.reach ≡ below (shifted a.bias) (value + 1) (take a.count a.samples.now) = omega (arith, at.ensures.1, counted (value + 1) (omega (arith, c.within-value.ensures.0)) (omega (arith, c.within-value.ensures.1))) in
    omega (arith, reach, below-take-most (shifted a.bias) (value + 1) a.samples.now a.count, c.ranges.count.fits)

pub all_parted-requires : goal.all_parted-requires
all_parted-requires c =
    let a = c.args in
    let p = c.requires in
    let node = a.four.first in
    let value = c.within-value.result in
    let at = c.around-around in
    let counted = gathered_count (shifted a.bias) (take a.count a.samples.now) node p.1.first p.2 _ c.gather.ensures.0 p.3 in
    let under : node.before + at.result.under ≡ below (shifted a.bias) value (take a.count a.samples.now) = omega (arith, at.ensures.0, counted value c.within-value.ensures.0 (omega (arith, c.within-value.ensures.1))) in
    let reach : node.before + at.result.reach ≡ below (shifted a.bias) (value + 1) (take a.count a.samples.now) = omega (arith, at.ensures.1, counted (value + 1) (omega (arith, c.within-value.ensures.0)) (omega (arith, c.within-value.ensures.1))) in
    let can = partable (shifted a.bias) (take a.count a.samples.now) value (node.before + at.result.under) (node.before + at.result.reach) under reach (search rules)
    (λ k. omega (arith, below-whole a.bias a.count a.samples.now p.0, below-take-most (shifted a.bias) k a.samples.now a.count)) in
    (can a.four.first p.1.first, can a.four.second p.1.second, can a.four.third p.1.third, can a.four.fourth p.1.fourth)

pub returns : goal.returns
returns c =
    let a = c.args in
    let p = c.requires in
    let node = a.four.first in
    let value = c.within-value.result in
    let at = c.around-around in
    let counted = gathered_count (shifted a.bias) (take a.count a.samples.now) node p.1.first p.2 _ c.gather.ensures.0 p.3 in
    let under : node.before + at.result.under ≡ below (shifted a.bias) value (take a.count a.samples.now) = omega (arith, at.ensures.0, counted value c.within-value.ensures.0 (omega (arith, c.within-value.ensures.1))) in
    let reach : node.before + at.result.reach ≡ below (shifted a.bias) (value + 1) (take a.count a.samples.now) = omega (arith, at.ensures.1, counted (value + 1) (omega (arith, c.within-value.ensures.0)) (omega (arith, c.within-value.ensures.1))) in
    all_parted-stepped (shifted a.bias) (take a.count a.samples.now) value (node.before + at.result.under) (node.before + at.result.reach) under reach a.four p.1 p.2 c.all_parted.result
    c.within-value.ensures.0 c.within-value.ensures.1 c.all_parted.ensures
