use Rattle.host_ledger.specs.Parts.{secret_at}
use Rattle.host_ledger.proofs.secret_of.Goals as goal

pub returns : goal.returns
unfolding secret_at
returns c =
    λ i. record {
      first = c.low.ensures i;
      second = c.high.ensures i;
      third = c.low-2.ensures i;
      fourth = c.high-2.ensures i;
      fifth = c.low-3.ensures i;
      sixth = c.high-3.ensures i;
      seventh = c.low-4.ensures i;
      eighth = c.high-4.ensures i;
    }
