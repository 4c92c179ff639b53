use mathlib.Core.Path.{sym, ◌∙◌, ap}
use mathlib.Core.List.{List}
use Prim.Native.Nat.{ℕ}
use borrow.Author.Tests.{eqb-true}
use Rattle.std.specs.Prelude.{true, Ok}
use Rattle.percentiles.specs.Percentiles.{outcome}
use Rattle.percentiles.proofs.Lies.{spoilt_sum, spoilt-block}
use Rattle.percentiles.proofs.Ways.{way_spoilt, way_histogram}
use Rattle.percentiles.proofs.show_histogram.Goals as goal

pub returns-then-not-totals_are : goal.returns-then-not-totals_are
returns-then-not-totals_are c =
    let a = c.args in
    let p = c.requires in
    let t = c.totals_are in
    way_spoilt a.q a.room.now a.ps.now a.shown.now p.0 p.1 p.2 p.3 (spoilt_sum a.q a.room.now a.ps.now (sym t.ensures ∙ c.if-not-totals_are.true))

pub any_lies-requires : goal.any_lies-requires
any_lies-requires c =
    let t = c.totals_are in
    (c.requires.0, eqb-true _ _ (sym t.ensures ∙ c.if-not-totals_are.false), c.requires.3)

pub returns-then-any_lies : goal.returns-then-any_lies
returns-then-any_lies c =
    let a = c.args in
    let p = c.requires in
    let t = c.totals_are in
    way_spoilt a.q a.room.now a.ps.now a.shown.now p.0 p.1 p.2 p.3
    (spoilt-block a.q a.room.now a.ps.now (sym t.ensures ∙ c.if-not-totals_are.false) ∙ sym c.any_lies.ensures ∙ c.if-any_lies.true)

pub show_buckets-requires : goal.show_buckets-requires
show_buckets-requires c =
    let a = c.args in
    let p = c.requires in
    let t = c.totals_are in
    (p.0, p.3, spoilt-block a.q a.room.now a.ps.now (sym t.ensures ∙ c.if-not-totals_are.false) ∙ sym c.any_lies.ensures ∙ c.if-any_lies.false, p.1)

pub returns : goal.returns
returns c =
    let a = c.args in
    let p = c.requires in
    let t = c.totals_are in
    ap (λ (l : List ℕ). outcome (Ok true) l) c.show_buckets.ensures
    ∙ way_histogram a.q a.room.now a.ps.now a.shown.now p.0 p.1 p.2 p.3
    (spoilt-block a.q a.room.now a.ps.now (sym t.ensures ∙ c.if-not-totals_are.false) ∙ sym c.any_lies.ensures ∙ c.if-any_lies.false)
