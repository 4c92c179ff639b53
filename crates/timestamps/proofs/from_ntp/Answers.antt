use Rattle.std.specs.Prelude.{Some}
use Rattle.std.proofs.Common.{ℕ, ◌*◌, ◌/◌, sym, ap, ◌∙◌}
use Rattle.estimate.specs.declared.ClockFormat.TheVariants as format
use Rattle.timestamps.specs.Conversion.{era, billion}
use Rattle.timestamps.proofs.Steps.{since_1970, converts_read}
use Rattle.timestamps.proofs.from_ntp.Goals as goal

pub returns : goal.returns
returns c =
    converts_read format.NTP c.args.timestamp c.args.r c.second_near.result _ c.time_at.result c.ranges.r (record { sfits = c.second_near.type_inv })
    (since_1970 c.wrapping_sub_u32-x.result _ _ _ (c.wrapping_sub_u32-x.ensures.value ∙ c.seconds_field.ensures) c.second_near.ensures)
    (sym (ap (λ (n : ℕ). Some (n * billion / era)) c.fraction_field-fraction.ensures))
    c.time_at.ensures
