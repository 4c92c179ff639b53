use mathlib.Core.Path.{refl}
use Rattle.host_quality.specs.Words.{quality_words}
use Rattle.host_quality.proofs.Back.{quality_again}
use Rattle.host_ledger_parts.proofs.store_quality.Goals as goal

pub returns : goal.returns
unfolding quality_words
returns c =
    let word = c.largest_word.ensures in
    let bits = c.largest_bits.ensures in
    let sender = c.last_words-first.ensures in
    let reflector = c.last_words-second.ensures in
    (rw (word, bits.0, sender.0, sender.1, reflector.0, reflector.1), quality_again _ bits.1 sender.2 reflector.2)
