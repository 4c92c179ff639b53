use mathlib.Core.Path.{ap, ◌∙◌}
use Prim.Native.Nat.{ℕ}
use lib.ListN.{set}
use lib.Seq.{sets}
use Rattle.host_ledger.specs.Parts.{direct_words, window_words}
use Rattle.host_ledger.proofs.Back.{direct-kept}
use Rattle.host_ledger_parts.proofs.store_direct.Goals as goal

pub returns : goal.returns
unfolding direct_words
returns c =
    let w = c.args.state.now in
    let d = c.args.direct in
    let n = d.counts in
    let window = c.store_window.ensures in (
      window.0
          ∙ ap (λ (x : ℕ). sets (set (set (set (set (set w 33 n.observations) 34 n.unavailable) 35 n.discontinuities) 36 n.reordered) 37 x) 38 (window_words d.window))
          c.flag.ensures.0,
      direct-kept d window.1,
    )
