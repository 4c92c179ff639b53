-- Which state of quantiles no call leaves. Document 01, "Estimates and percentiles" and refusal 5. Assumes nothing.
use Rattle.std.specs.Prelude.{Bool, ◌&&◌, ltb}
use Rattle.buckets.specs.Signed.{order}
use Rattle.quantiles.specs.declared.Quantiles.{Quantiles}

-- minimum above maximum at a count above 0; at count 0 there is neither
abbrev pub crossed : Quantiles → Bool
crossed q = ltb 0 q.count && ltb (order q.signed q.max) (order q.signed q.min)
