use mathlib.Core.Path.{ap, ◌∙◌}
use mathlib.Core.List.{List}
use Prim.Native.Nat.{ℕ}
use native.Mathlib.Omega.{arith}
use Rattle.big_endian.specs.Numbers.{put}
use Rattle.area_fields.specs.Fields.{follow_up_table}
use Rattle.area_fields.proofs.Laws.{too_few, enough_bytes}
use Rattle.area_fields.proofs.write_follow_up.Goals as goal

pub returns-then-bytes-lt16 : goal.returns-then-bytes-lt16
returns-then-bytes-lt16 c = too_few 16 (follow_up_table c.args.item) c.args.bytes.now (omega arith)

pub returns : goal.returns
returns c =
    let a = c.args in
    let f = a.item in
    enough_bytes 16 (follow_up_table f) a.bytes.now _ (omega arith)
    (c.put_u8-4.ensures
    ∙ ap (λ (l : List ℕ). put 0 l 15 0) (c.put_u8-3.ensures
    ∙ ap (λ (l : List ℕ). put 0 l 14 0) (c.put_u8-2.ensures
    ∙ ap (λ (l : List ℕ). put 0 l 13 0) (c.put_u8.ensures
    ∙ ap (λ (l : List ℕ). put 0 l 12 f.mode) (c.put_u64.ensures
    ∙ ap (λ (l : List ℕ). put 3 l 4 f.timestamp) c.put_u32.ensures)))))
