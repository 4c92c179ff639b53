use mathlib.Core.Path.{refl, ap, ◌∙◌}
use Prim.Native.Nat.{ℕ}
use lib.Dec.{eqb}
use Rattle.log_play_parts.specs.Parts.{watch_after}
use Rattle.log_play_turn.specs.Turn.{idled_if}
use Rattle.log_play.proofs.step_of.Goals as goal

pub returns : goal.returns
returns c = (c.watch_after-next.ensures ∙ ap (watch_after c.args.watch) (c.idled.ensures ∙ ap (λ (n : ℕ). idled_if (eqb n 5) c.args.monitor) c.kind_of.ensures), refl)
