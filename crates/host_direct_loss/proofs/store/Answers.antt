use mathlib.Core.Path.{ap}
use mathlib.Core.List.{List}
use Prim.Native.Nat.{ℕ, ◌+◌}
use lib.ListN.{get_or, set}
use lib.Seq.{sets}
use Rattle.host_direct_loss.proofs.store.Goals as goal

pub returns : goal.returns
returns c =
    let w = c.args.ledger.now in
    ap (λ (ws : List ℕ). sets (set w 33 (get_or w 33 0 + 1)) 39 ws) c.epoch_words-words.ensures.said
