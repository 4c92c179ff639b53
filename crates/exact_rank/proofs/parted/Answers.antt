use Rattle.std.proofs.Common.{take, arith}
use Rattle.sample_passes.specs.Keys.{shifted}
use Rattle.sample_passes.proofs.Counting.{below-whole, below-take-most}
use Rattle.exact_rank.proofs.Parting.{partable, all_parted-stepped}
use Rattle.exact_rank.proofs.parted.Goals as goal

pub all_parted-requires : goal.all_parted-requires
all_parted-requires c =
    let a = c.args in
    let p = c.requires in
    let e = c.around-around.ensures in
    let at = partable (shifted a.bias) (take a.count a.samples.now) a.value c.around-around.result.under c.around-around.result.reach e.0 e.1 c.ranges.value.fits
    (λ k. omega (arith, below-whole a.bias a.count a.samples.now p.0, below-take-most (shifted a.bias) k a.samples.now a.count)) in
    (at a.four.first p.1.first, at a.four.second p.1.second, at a.four.third p.1.third, at a.four.fourth p.1.fourth)

pub returns : goal.returns
returns c =
    let a = c.args in
    let p = c.requires in
    let e = c.around-around.ensures in
    all_parted-stepped (shifted a.bias) (take a.count a.samples.now) a.value c.around-around.result.under c.around-around.result.reach e.0 e.1 a.four p.1 p.2 c.all_parted.result p.3 p.4 c.all_parted.ensures
