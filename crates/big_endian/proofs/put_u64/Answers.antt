use mathlib.Core.Path.{ap, ◌∙◌}
use mathlib.Core.List.{List}
use Prim.Native.Nat.{ℕ, ◌+◌, ◌%◌}
use Rattle.big_endian.specs.Numbers.{put}
use Rattle.big_endian.proofs.put_u64.Goals as goal

pub returns : goal.returns
returns c = c.put_u32-2.ensures ∙ ap (λ (l : List ℕ). put 2 l (c.args.at + 4) (c.args.v % 4294967296)) c.put_u32.ensures
