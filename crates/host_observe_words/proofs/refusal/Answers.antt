use mathlib.Core.Path.{sym, ap, subst, ◌∙◌}
use mathlib.Core.Bool.{true, not, ◌&&◌}
use Rattle.limits.specs.Limits.{capacity}
use Rattle.chains.specs.Rings.{RingFits}
use Rattle.key_ring.specs.Table.{newest_is}
use Rattle.ranges.specs.Ranges.{in_range}
use Rattle.ledger_state.specs.Refusal.{first_refusal}
use Rattle.ledger_checks.proofs.Sound.{observe-placed}
use Rattle.ledger_checks.proofs.Observed.{placed_is, misplaced_is, tested_is}
use Rattle.host_ledger.specs.Words.{tables_at, ledger_at}
use Rattle.host_observe_words.proofs.refusal.Goals as goal

pub returns-then-not-placed : goal.returns-then-not-placed
returns-then-not-placed c = misplaced_is (ledger_at c.args.ledger.now) c.args.keys.now c.args.slots c.args.offsets c.args.links c.args.told c.rings_fit.result c.rings_fit.ensures (ap not c.if-not-placed.true)

pub is_newest-requires : goal.is_newest-requires
is_newest-requires c =
    let placed = observe-placed (ledger_at c.args.ledger.now) c.args.keys.now c.args.slots c.args.offsets c.args.links (placed_is (ledger_at c.args.ledger.now) c.args.keys.now c.args.slots c.args.offsets c.args.links c.rings_fit.result c.rings_fit.ensures (ap not c.if-not-placed.false)) in
    (placed.keys_size, subst (RingFits capacity) (sym c.keys_ring-ring.ensures) placed.rings.keys_ring)

pub returns : goal.returns
unfolding ledger_at tables_at
returns c =
    let keys = c.args.keys.now in
    let key = c.args.told.key in
    c.first_refusal.ensures
    ∙ (λ i. first_refusal true ((c.in_range-ranged.ensures ∙ sym (ap in_range c.requires)) i) true (c.room_for_call-counted.ensures i) (c.is_set.ensures i && (c.is_newest.ensures ∙ (λ j. newest_is capacity keys (c.keys_ring-ring.ensures j) key)) i) true)
    ∙ tested_is (ledger_at c.args.ledger.now) c.args.keys.now c.args.slots c.args.offsets c.args.links c.args.told (placed_is (ledger_at c.args.ledger.now) c.args.keys.now c.args.slots c.args.offsets c.args.links c.rings_fit.result c.rings_fit.ensures (ap not c.if-not-placed.false))
