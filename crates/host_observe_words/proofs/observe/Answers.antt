use mathlib.Core.Path.{sym, ap, ◌∙◌}
use Prim.Native.Nat.{ℕ}
use Rattle.limits.proofs.Numbers.{none_number, some_number}
use Rattle.ledger_checks.proofs.Sound.{observe-sound}
use Rattle.host_ledger.specs.Words.{ledger_at}
use Rattle.host_observe_words.specs.Observe.{left}
use Rattle.host_observe_words.proofs.Steps.{refused_as, served-as}
use Rattle.host_observe_words.proofs.observe.Goals as goal

pub observed-requires : goal.observed-requires
observed-requires c =
    (observe-sound (ledger_at c.args.ledger.now) c.args.keys.now _ _ _ _ (sym c.refusal-refused.ensures ∙ none_number _ _ c.is_none.ensures c.if-is_none.true), c.observation_of-told.ensures)

pub returns-then-is_none : goal.returns-then-is_none
returns-then-is_none c =
    let served = none_number _ _ c.is_none.ensures c.if-is_none.true in
    ap (λ (n : ℕ). left n c.observed.new.ledger c.observed.new.slots c.observed.new.offsets c.observed.new.links) served
    ∙ served-as c.args.ledger.now c.args.keys.now c.args.slots.now c.args.offsets.now c.args.links.now c.args.observation.now _ c.observation_of-told.ensures _ (sym c.refusal-refused.ensures ∙ served) c.observed.ensures

pub returns-else-is_none : goal.returns-else-is_none
returns-else-is_none c =
    refused_as c.args.ledger.now c.args.keys.now c.args.slots.now c.args.offsets.now c.args.links.now c.args.observation.now _ c.observation_of-told.ensures _ c.refusal-refused.ensures (some_number _ _ c.is_none.ensures c.if-is_none.false)
