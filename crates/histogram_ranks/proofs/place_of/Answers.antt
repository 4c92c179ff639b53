use mathlib.Core.Path.{◌∙◌, ap}
use mathlib.Core.Bool.{Bool, true, false}
use mathlib.Core.List.{List}
use Prim.Native.Nat.{ℕ, ◌+◌, ◌*◌, ◌^◌, ◌<◌}
use native.Mathlib.Omega.{arith}
use Rattle.buckets.specs.Signed.{bucket_count}
use Rattle.histogram.specs.Histogram.{bucket_at}
use Rattle.histogram_ranks.proofs.Blocks.{block_from, block-below, few_below, lent-block, bucket_in, bucket_is, bucket_below}
use Rattle.histogram_ranks.proofs.place_of.Goals as goal

small : (s : Bool) (n : ℕ) → n < bucket_count s → n < 2 ^ 64
small true n h = omega arith
small false n h = omega arith

pub overflow_mul-from : goal.overflow_mul-from
overflow_mul-from c =
    let a = c.args in
    let p = c.requires in
    record { fits = omega (arith, few_below a.q.signed c.held-found.result.place (block-below a.q a.room.now a.rank c.held-found.result.place p.0 p.1 p.2 c.held-found.ensures.0)) }

pub overflow_add-from : goal.overflow_add-from
overflow_add-from c =
    let a = c.args in
    let p = c.requires in
    record { fits = omega (arith, few_below a.q.signed c.held-found.result.place (block-below a.q a.room.now a.rank c.held-found.result.place p.0 p.1 p.2 c.held-found.ensures.0)) }

pub block_end-end-requires : goal.block_end-end-requires
block_end-end-requires c =
    let a = c.args in
    let p = c.requires in
    block_from a.q.signed c.held-found.result.place (block-below a.q a.room.now a.rank c.held-found.result.place p.0 p.1 p.2 c.held-found.ensures.0)

pub overflow_add-result : goal.overflow_add-result
overflow_add-result c =
    let a = c.args in
    let p = c.requires in
    let h = c.held-found in
    let e = c.block_end-end in
    let k = block-below a.q a.room.now a.rank h.result.place p.0 p.1 p.2 h.ensures.0 in
    let f = c.find-inner.ensures.0 ∙ ap (λ (l : List ℕ). bucket_at l h.result.left) (lent-block a.q.signed a.room.now h.result.place e.result p.0 k e.ensures.0) in
    record { fits = small a.q.signed (128 * h.result.place + c.find-inner.result.place) (bucket_below a.q.signed a.room.now h.result.place c.find-inner.result.place k (bucket_in a.q a.room.now a.rank h.result.place h.result.left c.find-inner.result.place p.1 p.2 p.3 h.ensures.0 h.ensures.1 f)) }

pub returns : goal.returns
returns c =
    let a = c.args in
    let p = c.requires in
    let h = c.held-found in
    let e = c.block_end-end in
    let k = block-below a.q a.room.now a.rank h.result.place p.0 p.1 p.2 h.ensures.0 in
    let f = c.find-inner.ensures.0 ∙ ap (λ (l : List ℕ). bucket_at l h.result.left) (lent-block a.q.signed a.room.now h.result.place e.result p.0 k e.ensures.0) in (
      bucket_is a.q a.room.now a.rank h.result.place h.result.left c.find-inner.result.place h.ensures.0 h.ensures.1 f,
      bucket_below a.q.signed a.room.now h.result.place c.find-inner.result.place k (bucket_in a.q a.room.now a.rank h.result.place h.result.left c.find-inner.result.place p.1 p.2 p.3 h.ensures.0 h.ensures.1 f),
    )
