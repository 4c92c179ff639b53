use Rattle.log_play_parts.proofs.Laws.{observed-told}
use Rattle.log_play_parts.proofs.observe.Goals as goal

pub returns : goal.returns
returns c =
    let a = c in
    observed-told a.args.ledger.now a.args.keys.now a.args.slots.now a.args.offsets.now a.args.links.now a.args.told _ _ a.requires c.observation_words-words.ensures c.observe.ensures
