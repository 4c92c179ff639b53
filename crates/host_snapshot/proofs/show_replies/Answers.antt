use borrow.Author.Rules.{rules}
use Rattle.host_snapshot.proofs.show_replies.Goals as goal

pub returns : goal.returns
returns c = (rw (c.place_replies.ensures, c.replies_of-replies.ensures), search (rules, c.well_formed.1.0))
