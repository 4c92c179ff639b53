use Rattle.host_follow_class.proofs.Laws.{held_slot, corrected_in}
use Rattle.host_follow_class.proofs.correct_at.Goals as goal

pub corrected_words-requires : goal.corrected_words-requires
corrected_words-requires c =
    held_slot c.args.held c.args.slot c.requires.2

pub returns-in-Ok : goal.returns-in-Ok
returns-in-Ok c =
    corrected_in _ c.args.class _ c.args.slots.now c.args.at c.args.held _ _ c.in-Ok.is c.requires.1 c.corrected_words.ensures c.store.ensures
