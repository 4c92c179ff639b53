use mathlib.Core.Path.{ap, ◌∙◌}
use mathlib.Core.Bool.{not}
use Prim.Native.Nat.{ℕ, ◌+◌, max}
use lib.Dec.{eqb}
use Rattle.history.specs.Counting.{tally}
use Rattle.recount_window.specs.Reach.{received_next}
use Rattle.recount_window.proofs.reach_with.Goals as goal

pub returns : goal.returns
returns c =
    let r = c.args.r in
    let t = c.step-transmit.ensures in
    let above = c.one_if.ensures ∙ ap (λ (x : ℕ). tally (not (eqb x 0)) r.above) t in
    let highest = c.larger.ensures ∙ ap (λ (x : ℕ). max x r.highest) t in
    let sender = c.larger-2.ensures ∙ ap (λ (x : ℕ). max x r.sender) c.step-sender.ensures in
    let received = c.received_next.ensures ∙ (λ i. received_next r.highest (t i) (c.step-received.ensures i) r.received) in
    λ i. record { points = r.points + 1; above = above i; highest = highest i; sender = sender i; received = received i }
