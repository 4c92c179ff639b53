use Rattle.host_welford.proofs.Small.{lifted-number, lifted_is}
use Rattle.host_welford.proofs.lifted.Goals as goal

pub float_from_bits-result : goal.float_from_bits-result
float_from_bits-result c = lifted-number c.args.n c.requires

pub returns : goal.returns
returns c = lifted_is c.args.n c.requires
