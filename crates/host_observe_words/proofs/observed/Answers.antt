use mathlib.Core.Path.{refl, sym, ap, subst, ◌∙◌}
use Rattle.limits.specs.Limits.{capacity}
use Rattle.chains.specs.Hash.{number_hash}
use Rattle.chains.specs.Rings.{RingFits}
use Rattle.key_ring.specs.Table.{hash_of}
use Rattle.ledger_steps.specs.Observe.{own_in}
use Rattle.host_ledger.specs.Words.{ledger_at}
use Rattle.host_observe_words.proofs.Steps.{calls_fit, rtt_bounded, direct_bounded, follow-bounded, follow_ranged, observed-as}
use Rattle.host_observe_words.proofs.observed.Goals as goal

pub overflow_add-ledger : goal.overflow_add-ledger
overflow_add-ledger c = calls_fit c.args.ledger.now c.args.keys.now _ _ _ c.args.told c.requires.0

pub count-requires : goal.count-requires
count-requires c = rtt_bounded c.args.ledger.now c.args.keys.now _ _ _ c.args.told c.requires.0

pub count-requires-2 : goal.count-requires-2
count-requires-2 c =
    let s = c in
    let bounded = direct_bounded c.args.ledger.now c.args.keys.now _ _ _ c.args.told c.requires.0 _ c.count.ensures in
    (s.requires.0.offsets_size, s.requires.0.links_size, bounded.0, bounded.1)

pub count_follow_up-requires : goal.count_follow_up-requires
count_follow_up-requires c =
    let s = c in (
      s.requires.0.keys_size,
      s.requires.0.slots_size,
      c.count-2.auto.links ∙ s.requires.0.links_size,
      subst (RingFits capacity) (sym c.keys_ring-ring.ensures) s.requires.0.rings.keys_ring,
      follow-bounded c.args.ledger.now c.args.keys.now _ _ _ c.args.told c.requires.0 (number_hash c.secret_words-secret.result) _ _ _ _ _ _ c.count.ensures c.count-2.ensures,
      follow_ranged s.args.told s.requires.0.ranged,
    )

pub raise_own-requires : goal.raise_own-requires
raise_own-requires c =
    let s = c in (
      s.requires.0.keys_size,
      c.count_follow_up.auto.slots ∙ s.requires.0.slots_size,
      c.count-2.auto.links ∙ s.requires.0.links_size,
      subst (RingFits capacity) (sym c.keys_ring-ring.ensures) s.requires.0.rings.keys_ring,
    )

pub returns : goal.returns
unfolding ledger_at
returns c =
    let s = c in
    observed-as s.args.ledger.now s.args.keys.now s.args.slots.now s.args.offsets.now s.args.links.now s.args.told
    _ _ _ _ _ _ _ _ _ _
    c.secret_words-secret.ensures c.keys_ring-ring.ensures refl
    c.count.ensures c.count-2.ensures c.count_follow_up.ensures (c.raise_own.ensures ∙ ap (own_in capacity (hash_of _) (number_hash _) _ _ _ _ _) (sym s.requires.1))
