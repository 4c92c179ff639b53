use mathlib.Core.Path.{sym, ◌∙◌}
use lib.ListN.{length}
use Rattle.limits.proofs.Numbers.{in_some, in_none}
use Rattle.ledger_steps.specs.Refusals.{refusal_of_answered}
use Rattle.ledger_checks.proofs.Sound.{answered_sound}
use Rattle.ledger_sent.proofs.Steps.{answered-refused, answered-served}
use Rattle.ledger_sent.proofs.answered.Goals as goal

pub returns-in-Some : goal.returns-in-Some
returns-in-Some c =
    let args = c.args in
    let told = in_some _ _ _ c.refusal_of_answered.ensures c.in-Some.is in
    answered-refused args.ledger args.probes.now args.links.now args.sequence _ told.0 (λ z. told.1 (sym told.0 ∙ z))

pub is_answered-requires : goal.is_answered-requires
is_answered-requires c =
    let args = c.args in
    let sound = answered_sound args.ledger (length args.probes.now) (length args.links.now) (in_none _ _ c.refusal_of_answered.ensures c.in-None.is) in
    (sound.probes_size, sound.links_size, sound.rings.probes_ring)

pub returns-in-None : goal.returns-in-None
returns-in-None c =
    let args = c.args in
    let none = in_none _ _ c.refusal_of_answered.ensures c.in-None.is in
    answered-served args.ledger args.probes.now args.links.now args.sequence (refusal_of_answered args.ledger (length args.probes.now) (length args.links.now)) c.words.result c.is_answered.result
    (λ i. refusal_of_answered args.ledger (length args.probes.now) (length args.links.now)) none c.words.ensures c.is_answered.ensures
