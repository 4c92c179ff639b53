use mathlib.Core.Path.{refl, ap, subst, ◌∙◌}
use mathlib.Core.Bool.{false}
use Prim.Native.Nat.{ℕ}
use Rattle.log_play_parts.specs.Parts.{CallFits, part_with}
use Rattle.log_play_parts.proofs.Laws.{by-sent, by-accept, by-observe, by-none}
use Rattle.log_play_parts.proofs.call_part.Goals as goal

pub observe-refused-requires : goal.observe-refused-requires
observe-refused-requires c = subst CallFits c.in-Observe.is c.requires

pub returns-in-Sent : goal.returns-in-Sent
returns-in-Sent c =
    by-sent _ c.args.ledger.now c.counted.ensures _ _ _ _ _ _ c.requires _ _ _ _ _ _ c.in-Sent.is c.sent_unless-number.ensures c.sent_part.ensures

pub returns-in-Accept : goal.returns-in-Accept
returns-in-Accept c =
    by-accept _ c.args.ledger.now c.counted.ensures _ _ _ _ _ _ c.requires _ _ _ _ _ _ _ _ c.in-Accept.is c.accept_unless-given.ensures c.accept_part.ensures

pub returns-in-Observe : goal.returns-in-Observe
returns-in-Observe c =
    by-observe _ c.args.ledger.now c.counted.ensures _ _ _ _ _ _ c.requires _ _ _ _ _ _ _ c.in-Observe.is c.observe-refused.ensures
    (c.plain_part.ensures ∙ ap (λ (n : ℕ). part_with n false) c.number.ensures)

pub returns-in-Advance : goal.returns-in-Advance
returns-in-Advance c = by-none _ _ _ _ _ _ _ c.in-Advance.is c.plain_part-in-Advance.ensures refl

pub returns-in-Idle : goal.returns-in-Idle
returns-in-Idle c = by-none _ _ _ _ _ _ _ c.in-Idle.is c.plain_part-in-Idle.ensures refl
