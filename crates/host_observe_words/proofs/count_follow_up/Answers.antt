use mathlib.Core.Path.{sym, subst}
use borrow.Author.Rules.{rules}
use mir.Syntax.{w32}
use mir.ValLaws.{to_z-of_z}
use Rattle.chains.specs.Hash.{number_hash}
use Rattle.correlation.specs.Class.{OffsetInRange}
use Rattle.key_ring.specs.Table.{hash_of}
use Rattle.host_follow_class.proofs.Steps.{found-ranged}
use Rattle.host_observe_words.proofs.Stored.{follow_untold, follow-told}
use Rattle.host_observe_words.proofs.count_follow_up.Goals as goal

pub count_class-requires : goal.count_class-requires
count_class-requires c =
    let s = c in (
      s.requires.4,
      found-ranged _ (hash_of s.args.secret) (number_hash s.args.secret) s.args.ring s.args.keys.now s.args.slots.now _ s.args.links.now _ _ _ _
          c.class_of_follow_up-class.ensures,
      subst OffsetInRange (sym (to_z-of_z w32 s.args.told.offset (search rules))) s.requires.5,
    )

pub returns-in-None : goal.returns-in-None
returns-in-None c =
    let s = c in
    follow_untold _ (hash_of s.args.secret) (number_hash s.args.secret) s.args.ledger.now s.args.ring s.args.keys.now s.args.slots.now s.args.links.now s.args.told c.in-None.is

pub returns-in-Some : goal.returns-in-Some
returns-in-Some c =
    let s = c in
    follow-told _ (hash_of s.args.secret) (number_hash s.args.secret) s.args.ledger.now s.args.ring s.args.keys.now s.args.slots.now s.args.links.now s.args.told _ _ _ _ _
    c.in-Some.is c.class_of_follow_up-class.ensures
    (to_z-of_z w32 s.args.told.offset (search rules)) c.count_class.ensures
