use Rattle.floats.proofs.Values.{no_nan, power_exactly}
use Rattle.floats.proofs.power_of_two.Goals as goal

pub float_from_bits-result : goal.float_from_bits-result
float_from_bits-result c = no_nan c.args.field c.requires.0 c.requires.1

pub returns : goal.returns
returns c = power_exactly c.args.field c.requires.0 c.requires.1
