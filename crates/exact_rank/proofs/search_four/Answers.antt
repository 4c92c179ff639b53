use Rattle.std.proofs.Common.{◌-◌, get_or, take, ap, arith, rules}
use Rattle.exact_rank.specs.Rank.{at_rank, at_ranks}
use Rattle.sample_passes.specs.Keys.{shifted}
use Rattle.sample_place.specs.declared.Search.{Search}
use Rattle.exact_rank.proofs.Samples.{counted_is_sample}
use Rattle.exact_rank.proofs.Steps.{whole_inside, end_key}
use Rattle.exact_rank.proofs.Results.{four_results}
use Rattle.exact_rank.proofs.search_four.Goals as goal

pub all_found-end-requires : goal.all_found-end-requires
all_found-end-requires c = (
  c.requires.0,
  record {
    first = rw c.search_all.ensures (whole_inside c.args.bias c.args.count (get_or c.args.ranks 0 0) c.args.samples.now c.requires.0 (c.requires.1 0 (omega arith)));
    second = rw c.search_all-2.ensures (whole_inside c.args.bias c.args.count (get_or c.args.ranks 1 0) c.args.samples.now c.requires.0 (c.requires.1 1 (omega arith)));
    third = rw c.search_all-3.ensures (whole_inside c.args.bias c.args.count (get_or c.args.ranks 2 0) c.args.samples.now c.requires.0 (c.requires.1 2 (omega arith)));
    fourth = rw c.search_all-4.ensures (whole_inside c.args.bias c.args.count (get_or c.args.ranks 3 0) c.args.samples.now c.requires.0 (c.requires.1 3 (omega arith)));
  },
)

pub returns : goal.returns
unfolding at_ranks
returns c =
    four_results (at_rank (shifted c.args.bias) c.args.samples.now c.args.count) c.args.ranks _ _ _ _ (search (rules, c.well_formed))
    (counted_is_sample c.args.samples.now c.args.count c.requires.0 (λ i. omega (arith, c.type_inv.samples i))
    c.args.bias (get_or c.args.ranks 0 0) _ (c.requires.1 0 (omega arith)) (search rules)
    (rw c.sample_of.ensures
    (end_key (shifted c.args.bias) (take c.args.count c.args.samples.now) c.search_all.result c.all_found-end.result.first (get_or c.args.ranks 0 0)
    c.all_found-end.ensures.0.first (ap (λ (s : Search). s.rank) c.search_all.ensures) c.all_found-end.ensures.1.first)))
    (counted_is_sample c.args.samples.now c.args.count c.requires.0 (λ i. omega (arith, c.type_inv.samples i))
    c.args.bias (get_or c.args.ranks 1 0) _ (c.requires.1 1 (omega arith)) (search rules)
    (rw c.sample_of-2.ensures
    (end_key (shifted c.args.bias) (take c.args.count c.args.samples.now) c.search_all-2.result c.all_found-end.result.second (get_or c.args.ranks 1 0)
    c.all_found-end.ensures.0.second (ap (λ (s : Search). s.rank) c.search_all-2.ensures) c.all_found-end.ensures.1.second)))
    (counted_is_sample c.args.samples.now c.args.count c.requires.0 (λ i. omega (arith, c.type_inv.samples i))
    c.args.bias (get_or c.args.ranks 2 0) _ (c.requires.1 2 (omega arith)) (search rules)
    (rw c.sample_of-3.ensures
    (end_key (shifted c.args.bias) (take c.args.count c.args.samples.now) c.search_all-3.result c.all_found-end.result.third (get_or c.args.ranks 2 0)
    c.all_found-end.ensures.0.third (ap (λ (s : Search). s.rank) c.search_all-3.ensures) c.all_found-end.ensures.1.third)))
    (counted_is_sample c.args.samples.now c.args.count c.requires.0 (λ i. omega (arith, c.type_inv.samples i))
    c.args.bias (get_or c.args.ranks 3 0) _ (c.requires.1 3 (omega arith)) (search rules)
    (rw c.sample_of-4.ensures
    (end_key (shifted c.args.bias) (take c.args.count c.args.samples.now) c.search_all-4.result c.all_found-end.result.fourth (get_or c.args.ranks 3 0)
    c.all_found-end.ensures.0.fourth (ap (λ (s : Search). s.rank) c.search_all-4.ensures) c.all_found-end.ensures.1.fourth)))
