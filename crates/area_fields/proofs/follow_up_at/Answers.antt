use Rattle.area_fields.proofs.follow_up_at.Goals as goal

pub returns : goal.returns
returns c = λ i. record { sequence = c.u32_at.ensures i; timestamp = c.u64_at.ensures i; mode = c.u8_at.ensures i }
