use mathlib.Core.Path.{◌∙◌, ap}
use native.Mathlib.Nat.{le_refl}
use Rattle.quantiles.specs.Record.{outcome, taken}
use Rattle.quantiles.proofs.Ways.{way_first}
use Rattle.quantiles.proofs.Tally.{filling_length, filling_small, filling_counted}
use Rattle.quantiles.proofs.add_first.Goals as goal

pub count_in-requires : goal.count_in-requires
count_in-requires c =
    let a = c.args in
    let f = c.fill in
    let k = c.bucket_of-place in
    let h = c.requires.0 in
    let n = filling_small a.q.signed a.room.now f.new.room 4096 h f.ensures k.result (le_refl 4096) in
    (filling_length a.q.signed a.room.now f.new.room 4096 h f.ensures, k.ensures.1, n)

pub returns : goal.returns
unfolding outcome
returns c =
    let a = c.args in
    let p = c.requires in
    let f = c.fill in
    let k = c.bucket_of-place in
    let n = c.count_in in
    ap (taken c.grow.result) (filling_counted a.q.signed a.room.now f.new.room 4096 p.0 f.ensures a.value k.result n.new.room k.ensures.0 n.ensures)
    ∙ way_first a.q a.room.now a.value c.grow.result p.0 p.1 p.2 c.grow.ensures
