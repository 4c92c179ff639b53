use mathlib.Core.Path.{refl, sym, ◌∙◌, subst}
use mir.Syntax.{w32}
use mir.ValLaws.{to_z-of_z}
use Rattle.correlation.specs.Class.{MatchedInRange, OffsetInRange}
use Rattle.host_ledger.specs.Parts.{follow_at}
use Rattle.host_observe_words.proofs.Stored.{matched_stays, other_as, matched_as}
use Rattle.host_observe_words.proofs.count_class.Goals as goal

pub count_matched-requires : goal.count_matched-requires
count_matched-requires c =
    let s = c in
    (s.requires.0, subst MatchedInRange c.in-Ok.is s.requires.1, subst OffsetInRange (sym (to_z-of_z w32 s.args.offset s.ranges.offset)) s.requires.2)

pub returns-in-Err : goal.returns-in-Err
unfolding follow_at
returns-in-Err c =
    let s = c in
    c.count_other.ensures ∙ other_as s.args.ledger.now s.args.class _ _ c.in-Err.is (matched_stays _ _)

pub returns-in-Ok : goal.returns-in-Ok
returns-in-Ok c =
    let s = c in
    c.count_matched.ensures
    ∙ matched_as s.args.ledger.now s.args.class _ s.args.offset _ (to_z-of_z w32 s.args.offset s.ranges.offset) c.in-Ok.is
