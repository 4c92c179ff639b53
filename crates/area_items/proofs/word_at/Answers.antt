use mathlib.Core.Path.{ap, ◌∙◌}
use Prim.Native.Nat.{ℕ, ◌+◌, ◌*◌, ◌%◌, ◌^◌}
use Rattle.area_items.proofs.Laws.{word_is}
use Rattle.area_items.proofs.word_at.Goals as goal

pub returns : goal.returns
returns c =
    ap (λ (n : ℕ). n * 2 ^ 32 + (c.args.at + 4) % 2 ^ 32) c.u32_at-header.ensures ∙ word_is c.args.bytes.now c.args.at c.requires.1
