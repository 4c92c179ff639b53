use Rattle.std.proofs.Common.{ℕ, ◌-◌, ◌<◌, length, get_or, refl, arith, rules}
use Rattle.exact_rank.specs.Rank.{standing_at}
use Rattle.exact_rank.proofs.Results.{four_results}
use Rattle.exact_rank.proofs.read_four.Goals as goal

pub offset_bounds-samples-first : goal.offset_bounds-samples-first
offset_bounds-samples-first c =
    let l : get_or c.args.ranks 0 0 < length c.args.samples.now = c.requires 0 (omega arith) in search rules

pub bounds-samples-first : goal.bounds-samples-first
bounds-samples-first c = c.requires 0 (omega arith)

pub offset_bounds-samples-second : goal.offset_bounds-samples-second
offset_bounds-samples-second c =
    let l : get_or c.args.ranks 1 0 < length c.args.samples.now = c.requires 1 (omega arith) in search rules

pub bounds-samples-second : goal.bounds-samples-second
bounds-samples-second c = c.requires 1 (omega arith)

pub offset_bounds-samples-third : goal.offset_bounds-samples-third
offset_bounds-samples-third c =
    let l : get_or c.args.ranks 2 0 < length c.args.samples.now = c.requires 2 (omega arith) in search rules

pub bounds-samples-third : goal.bounds-samples-third
bounds-samples-third c = c.requires 2 (omega arith)

pub offset_bounds-samples-fourth : goal.offset_bounds-samples-fourth
offset_bounds-samples-fourth c =
    let l : get_or c.args.ranks 3 0 < length c.args.samples.now = c.requires 3 (omega arith) in search rules

pub bounds-samples-fourth : goal.bounds-samples-fourth
bounds-samples-fourth c = c.requires 3 (omega arith)

pub returns : goal.returns
unfolding standing_at
returns c =
    four_results (λ (rank : ℕ). get_or c.args.samples.now rank 0) c.args.ranks _ _ _ _ (search rules) refl refl refl refl
