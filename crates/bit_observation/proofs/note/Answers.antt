use native.Mathlib.Omega.{arith}
use Rattle.bit_observation.proofs.Laws.{note_pattern, note-count, note-burst, note_padding}
use Rattle.bit_observation.proofs.note.Goals as goal

pub returns-in-240 : goal.returns-in-240
returns-in-240 c =
    let a = c.args in
    note_pattern a.bytes.now a.pattern.now a.seen a.word _ c.kind_of-kind.ensures c.in-240.is c.place-part.ensures.value c.with_pattern.ensures

pub returns-in-241 : goal.returns-in-241
returns-in-241 c =
    let a = c.args in
    note-count a.bytes.now a.pattern.now a.seen a.word _ c.kind_of-kind.ensures (λ e. omega arith) c.in-241.is c.place-part.ensures.value c.with_count.ensures

pub returns-in-242 : goal.returns-in-242
returns-in-242 c =
    let a = c.args in
    note-burst a.bytes.now a.pattern.now a.seen a.word _ c.kind_of-kind.ensures (λ e. omega arith) (λ e. omega arith) c.in-242.is c.place-part.ensures.value c.with_burst.ensures

pub returns-in_default : goal.returns-in_default
returns-in_default c =
    let a = c.args in
    note_padding a.bytes.now a.pattern.now a.seen a.word _ c.kind_of-kind.ensures (λ e. omega arith) (λ e. omega arith) (λ e. omega arith) c.with_padding.ensures
