use mathlib.Core.Path.{◌∙◌, ap}
use mathlib.Core.List.{List, ◌++◌}
use Prim.Native.Nat.{ℕ}
use lib.ListN.{length, take, replicate, length-drop}
use Rattle.quantile_room.proofs.Parts.{whole_part, part-back}
use Rattle.quantiles.proofs.clear_counts.Goals as goal

pub returns : goal.returns
returns c =
    let a = c.args in
    part-back 4096 a.room.now c.clear.new.buckets
    ∙ ap (λ (b : List ℕ). take 4096 a.room.now ++ b)
    (c.clear.ensures ∙ ap (λ (n : ℕ). replicate n 0) (ap length (whole_part 4096 a.room.now) ∙ length-drop 4096 a.room.now))
