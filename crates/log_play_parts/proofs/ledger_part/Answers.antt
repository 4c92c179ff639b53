use mathlib.Core.Path.{refl, subst}
use Rattle.log_play_parts.specs.Parts.{ReadFits}
use Rattle.log_play_parts.proofs.Laws.{part_call, part_none}
use Rattle.log_play_parts.proofs.ledger_part.Goals as goal

pub call_part-requires : goal.call_part-requires
call_part-requires c = subst ReadFits c.in-Some.is c.requires

pub returns-in-None : goal.returns-in-None
returns-in-None c = part_none _ _ _ _ _ _ c.in-None.is c.plain_part.ensures refl

pub returns-in-Some : goal.returns-in-Some
returns-in-Some c = part_call _ _ _ _ _ _ c.in-Some.is c.call_part.ensures
