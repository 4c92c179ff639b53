use mathlib.Core.Path.{sym, ap, ◌∙◌, subst}
use lib.Seq.{sets}
use Rattle.follow_ups.specs.declared.FollowCounts.{FollowCounts}
use Rattle.follow_ups.specs.Bounds.{CountsIn}
use Rattle.follow_ups.specs.Followed.{counted}
use Rattle.host_ledger.specs.Parts.{follow_counts_words}
use Rattle.host_observe_words.proofs.count_other.Goals as goal

pub count-requires : goal.count-requires
count-requires c = subst CountsIn (sym c.follow_counts_of-before.ensures) c.requires

pub returns : goal.returns
returns c =
    let s = c in
    c.store_follow_counts.ensures
    ∙ ap (λ (n : FollowCounts). sets s.args.ledger.now 44 (follow_counts_words n))
    (c.count.ensures ∙ ap (counted s.args.class) c.follow_counts_of-before.ensures)
