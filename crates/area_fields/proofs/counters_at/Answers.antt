use Rattle.area_fields.proofs.counters_at.Goals as goal

pub returns : goal.returns
returns c = λ i. record { sender = record { 0 = c.u32_at.ensures i }; received = record { 0 = c.u32_at-2.ensures i }; transmitted = record { 0 = c.u32_at-3.ensures i } }
