use Rattle.host_welford.proofs.Small.{number_test_lem}
use Rattle.host_welford.proofs.is_number.Goals as goal

pub returns : goal.returns
returns c = number_test_lem c.args.word
