use mathlib.Core.Path.{ap, ◌∙◌}
use mathlib.Core.List.{List}
use Prim.Native.Nat.{ℕ}
use native.Mathlib.Omega.{arith}
use Rattle.big_endian.specs.Numbers.{put}
use Rattle.area_fields.specs.Fields.{counters_table}
use Rattle.area_fields.proofs.Laws.{too_few, enough_bytes}
use Rattle.area_fields.proofs.write_counters.Goals as goal

pub returns-then-bytes-lt12 : goal.returns-then-bytes-lt12
returns-then-bytes-lt12 c = too_few 12 (counters_table c.args.point) c.args.bytes.now (omega arith)

pub returns : goal.returns
returns c =
    let a = c.args in
    let p = a.point in
    enough_bytes 12 (counters_table p) a.bytes.now _ (omega arith)
    (c.put_u32-3.ensures
    ∙ ap (λ (l : List ℕ). put 2 l 8 p.transmitted.0) (c.put_u32-2.ensures ∙ ap (λ (l : List ℕ). put 2 l 4 p.received.0) c.put_u32.ensures))
