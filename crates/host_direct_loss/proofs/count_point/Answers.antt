use mathlib.Core.Path.{sym, ◌∙◌}
use mathlib.Core.Bool.{and-eq-true_iff}
use native.Mathlib.Nat.{le_of_lt}
use borrow.Author.Tests.{not-true}
use Rattle.chains.specs.Hash.{number_hash}
use Rattle.host_direct_loss.proofs.Laws.{room_for, observations_fit, went_on}
use Rattle.host_direct_loss.proofs.count_point.Goals as goal

pub contains-requires : goal.contains-requires
contains-requires c =
    let s = c in
    let tests = (and-eq-true_iff c.is_open.result c.goes_on.result).0 c.if-is_open-goes_on.true in
    let goes = sym c.goes_on.ensures ∙ tests.1 in
    let room = le_of_lt (room_for c.epoch_in-epoch.result c.args.point c.args.told.ordinal goes) in
    (s.requires.0, s.requires.1, room)

pub moved-requires : goal.moved-requires
moved-requires c =
    let tests = (and-eq-true_iff c.is_open.result c.goes_on.result).0 c.if-is_open-goes_on.true in
    let goes = sym c.goes_on.ensures ∙ tests.1 in
    let room = le_of_lt (room_for c.epoch_in-epoch.result c.args.point c.args.told.ordinal goes) in
    room

pub store-requires : goal.store-requires
store-requires c =
    let s = c in
    observations_fit s.args.ledger.now s.requires.2

pub add-requires : goal.add-requires
add-requires c =
    let s = c in
    let tests = (and-eq-true_iff c.is_open.result c.goes_on.result).0 c.if-is_open-goes_on.true in
    let goes = sym c.goes_on.ensures ∙ tests.1 in
    let room = le_of_lt (room_for c.epoch_in-epoch.result c.args.point c.args.told.ordinal goes) in
    (s.requires.0, s.requires.1, room)

pub returns-then-not-contains : goal.returns-then-not-contains
returns-then-not-contains c =
    let s = c in
    let tests = (and-eq-true_iff c.is_open.result c.goes_on.result).0 c.if-is_open-goes_on.true in
    went_on (number_hash s.args.secret) s.args.ledger.now s.args.offsets.now s.args.links.now s.args.told s.args.point _ _ _ _ _ _ _ _
    s.requires.4 c.epoch_in-epoch.ensures (sym c.is_open.ensures ∙ tests.0) (sym c.goes_on.ensures ∙ tests.1)
    c.transmit_offset-offset.ensures c.contains.ensures c.if-not-contains.true
    c.moved.ensures c.store.ensures c.add.ensures
