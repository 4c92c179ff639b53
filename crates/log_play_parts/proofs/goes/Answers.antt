use mathlib.Core.Bool.{◌&&◌}
use lib.Dec.{eqb}
use Rattle.log_play_parts.proofs.goes.Goals as goal

pub returns : goal.returns
returns c = λ j. (c.watches.ensures j && eqb (c.kind_of.ensures j) c.args.kind) && c.args.part.go
