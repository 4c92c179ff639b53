use Rattle.bit_observation.proofs.Laws.{step_hmac, step_ends, step_unsupported, step_other, step_unusable, step-noted}
use Rattle.bit_observation.proofs.step.Goals as goal

pub returns-then-kind-eq8 : goal.returns-then-kind-eq8
returns-then-kind-eq8 c =
    let a = c.args in
    step_hmac a.bytes.now a.pattern.now a.seen a.word _ c.kind_of-kind.ensures c.if-kind-eq8.true

pub returns-then-flag : goal.returns-then-flag
returns-then-flag c =
    let a = c.args in
    step_ends a.bytes.now a.pattern.now a.seen a.word _ c.kind_of-kind.ensures c.if-kind-eq8.false _ c.flag.ensures c.if-flag.true

pub returns-then-ber-unrecognized : goal.returns-then-ber-unrecognized
returns-then-ber-unrecognized c =
    let a = c.args in
    step_unsupported a.bytes.now a.pattern.now a.seen a.word _ c.kind_of-kind.ensures c.if-kind-eq8.false _ c.flag.ensures c.if-flag.false _ _ c.flag-unrecognized.ensures c.is_ber-ber.ensures c.if-ber-unrecognized.true

pub returns-then-unrecognized-conformant : goal.returns-then-unrecognized-conformant
returns-then-unrecognized-conformant c =
    let a = c.args in
    step_unusable a.bytes.now a.pattern.now a.seen a.word _ c.kind_of-kind.ensures c.if-kind-eq8.false _ c.flag.ensures c.if-flag.false _ _ c.flag-unrecognized.ensures c.is_ber-ber.ensures c.if-ber-unrecognized.false c.if-ber-kind.true _ c.flag-conformant.ensures c.if-unrecognized-conformant.true

pub returns-then-ber-kind : goal.returns-then-ber-kind
returns-then-ber-kind c =
    let a = c.args in
    step-noted a.bytes.now a.pattern.now a.seen a.word _ c.kind_of-kind.ensures c.if-kind-eq8.false _ c.flag.ensures c.if-flag.false _ _ c.flag-unrecognized.ensures c.is_ber-ber.ensures c.if-ber-unrecognized.false c.if-ber-kind.true _ c.flag-conformant.ensures c.if-unrecognized-conformant.false c.note.ensures

pub returns : goal.returns
returns c =
    let a = c.args in
    step_other a.bytes.now a.pattern.now a.seen a.word _ c.kind_of-kind.ensures c.if-kind-eq8.false _ c.flag.ensures c.if-flag.false _ _ c.flag-unrecognized.ensures c.is_ber-ber.ensures c.if-ber-unrecognized.false c.if-ber-kind.false
