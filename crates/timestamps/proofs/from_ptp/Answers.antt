use Rattle.std.specs.Prelude.{Some, None}
use Rattle.std.proofs.Common.{◌≡◌, ℕ, ◌<◌, ◌≤◌, Bool, cond, pos, sym, ap, ◌∙◌, subst, le-ltb, lt-ltb}
use Rattle.estimate.specs.declared.ClockFormat.TheVariants as format
use Rattle.timestamps.specs.Conversion.{billion, fraction_field, wire_nanoseconds, IsSecond}
use Rattle.timestamps.proofs.Outcome.{converts_none}
use Rattle.timestamps.proofs.Steps.{again, converts_read}
use Rattle.timestamps.proofs.from_ptp.Goals as goal

-- the ns field below 10^9, and not
said : (w n : ℕ) → n ≡ fraction_field w → n < billion → wire_nanoseconds format.PTP w ≡ Some n
said w n e h =
    ap (λ (b : Bool). cond b (Some (fraction_field w)) None) (lt-ltb _ _ (subst (λ (m : ℕ). m < billion) e h)) ∙ ap Some (sym e)

unsaid : (w n : ℕ) → n ≡ fraction_field w → billion ≤ n → wire_nanoseconds format.PTP w ≡ None
unsaid w n e h = ap (λ (b : Bool). cond b (Some (fraction_field w)) None) (le-ltb _ _ (subst (λ (m : ℕ). billion ≤ m) e h))

pub returns-then-ns-lt1000000000 : goal.returns-then-ns-lt1000000000
returns-then-ns-lt1000000000 c =
    converts_read format.PTP c.args.timestamp c.args.r c.second_near.result c.fraction_field-ns.result c.time_at.result c.ranges.r (record { sfits = c.second_near.type_inv })
    (subst (λ (x : ℕ). IsSecond (pos x) (again c.args.r) c.second_near.result) c.seconds_field.ensures c.second_near.ensures)
    (said c.args.timestamp _ c.fraction_field-ns.ensures c.if-ns-lt1000000000.true)
    c.time_at.ensures

pub returns : goal.returns
returns c =
    converts_none format.PTP c.args.timestamp c.args.r (unsaid c.args.timestamp _ c.fraction_field-ns.ensures c.if-ns-lt1000000000.false)
