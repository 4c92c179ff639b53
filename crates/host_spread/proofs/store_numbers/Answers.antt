use Rattle.host_spread.proofs.Answers.{store_said}
use Rattle.host_spread.proofs.store_numbers.Goals as goal

pub returns : goal.returns
returns c =
    let a = c.args in
    store_said a.words.now a.collector _ _ c.bits_of_number.ensures c.bits_of_number-2.ensures
