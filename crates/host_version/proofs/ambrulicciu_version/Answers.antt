use Rattle.host_version.specs.Version.{version_leaves}
use borrow.Author.Rules.{rules}
use Rattle.host_version.proofs.ambrulicciu_version.Goals as goal

pub returns : goal.returns
unfolding version_leaves
returns c = search rules
