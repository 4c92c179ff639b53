use mathlib.Core.Path.{sym, ap, ◌∙◌}
use mathlib.Core.Bool.{Bool}
use Prim.Native.Nat.{ℕ}
use Rattle.big_endian.specs.Numbers.{number_at}
use Rattle.record_parts.specs.Parts.{time_by}
use Rattle.record_parts.specs.declared.Entry.TheVariants as entry
use Rattle.log_record.specs.Records.{accept_at, observe_at, converted_at}
use Rattle.log_record.proofs.Laws.{kind_0, kind_1, kind_2, kind_3, kind_other}
use Rattle.log_record.proofs.reading.said.Goals as goal

pub returns-then-kind-eq0 : goal.returns-then-kind-eq0
returns-then-kind-eq0 c = ap entry.Sent c.sent.ensures ∙ kind_0 c.args.bytes.now (sym c.u8_at-kind.ensures ∙ c.if-kind-eq0.true)

pub returns-then-kind-eq1 : goal.returns-then-kind-eq1
returns-then-kind-eq1 c =
    ap entry.Accept (c.accept.ensures ∙ ap (λ (f : ℕ). accept_at f c.args.bytes.now) c.u8_at-flags.ensures)
    ∙ kind_1 c.args.bytes.now (sym c.u8_at-kind.ensures ∙ c.if-kind-eq1.true)

pub returns-then-kind-eq2 : goal.returns-then-kind-eq2
returns-then-kind-eq2 c =
    let bytes = c.args.bytes.now in
    let flags = c.u8_at-flags.ensures in
    (λ i. entry.Observe
    ((c.observe.ensures ∙ ap (λ (f : ℕ). observe_at f bytes) flags) i)
    ((c.time-converted.ensures ∙ ap (λ (b : Bool). time_by b (number_at 3 bytes 76)) c.flag_set.ensures ∙ ap (λ (f : ℕ). converted_at f bytes) flags) i))
    ∙ kind_2 bytes (sym c.u8_at-kind.ensures ∙ c.if-kind-eq2.true)

pub returns-then-kind-eq3 : goal.returns-then-kind-eq3
returns-then-kind-eq3 c = ap entry.Advance c.u64_at.ensures ∙ kind_3 c.args.bytes.now (sym c.u8_at-kind.ensures ∙ c.if-kind-eq3.true)

pub returns : goal.returns
returns c = kind_other c.args.bytes.now c.u8_at-kind.result c.u8_at-kind.ensures c.if-kind-eq0.false c.if-kind-eq1.false c.if-kind-eq2.false c.if-kind-eq3.false
