use Rattle.host_clock_quality_words.proofs.Answers.{store_said}
use Rattle.host_clock_quality_words.proofs.store.Goals as goal

pub returns : goal.returns
returns c =
    let sender = c.last_words-sender in
    let reflector = c.last_words-reflector in
    store_said c.args.words.now c.args.quality _ _ _ _ c.largest_word.ensures c.largest_bits.ensures.0 sender.ensures.0 sender.ensures.1 reflector.ensures.0 reflector.ensures.1
