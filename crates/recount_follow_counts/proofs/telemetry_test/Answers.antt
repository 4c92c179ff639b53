use Rattle.std.proofs.Common.{rules, ap, ◌∙◌, eqb}
use mir.Syntax.{w32}
use mir.ValLaws.{to_z-of_z}
use Rattle.recount_follow.specs.Brief.{number_of, class_of}
use Rattle.recount_follow_counts.proofs.Laws.{same_class, of_one}
use Rattle.recount_follow_counts.proofs.telemetry_test.Goals as goal

pub returns-in-Some : goal.returns-in-Some
returns-in-Some c =
    rw (c.in-Some.is, of_one c.in-Some.class)
    (c.eq.ensures
    ∙ same_class c.in-Some.class c.class_of.result
    ∙ ap (eqb (number_of c.in-Some.class)) (c.class_of.ensures ∙ (λ i. class_of c.args.f c.args.o.key.reflector (to_z-of_z w32 c.args.o.offset (search rules) i) (c.slot_before-b.ensures i))))
