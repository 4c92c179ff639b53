use Rattle.std.proofs.Common.{◌≡◌, ◌-◌, pos, sym, refl, ap, ◌∙◌}
use lib.Ieee.{Float, binary64, mul, div, of_bits, of_int}
use Rattle.floats.specs.Half.{round_to}
use Rattle.rank.specs.Rank.{rank_of, rank_of-none}
use Rattle.rank.proofs.rank.Goals as goal

-- 100.0 as MIR has it
hundred : of_bits binary64 0x4059_0000_0000_0000 ≡ of_int binary64 (pos 100)
unfolding of_bits of_int
hundred = refl

pub returns-then-count-eq0 : goal.returns-then-count-eq0
returns-then-count-eq0 c = let a = c.args in sym (ap (rank_of a.p) c.if-count-eq0.true ∙ rank_of-none a.p)

pub returns : goal.returns
returns c =
    let n = c.nearest_u64_to_f64-most in
    let a = c.args in
    c.round_half_away.ensures
    ∙ ap (λ (y : Float). round_to (a.count - 1) (mul binary64 (div binary64 a.p y) n.result)) hundred
    ∙ ap (λ (y : Float). round_to (a.count - 1) (mul binary64 (div binary64 a.p (of_int binary64 (pos 100))) y)) n.ensures
