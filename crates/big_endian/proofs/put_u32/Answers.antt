use mathlib.Core.Path.{ap, ◌∙◌}
use mathlib.Core.List.{List}
use Prim.Native.Nat.{ℕ, ◌+◌, ◌%◌}
use Rattle.big_endian.specs.Numbers.{put}
use Rattle.big_endian.proofs.put_u32.Goals as goal

pub returns : goal.returns
returns c = c.put_u16-2.ensures ∙ ap (λ (l : List ℕ). put 1 l (c.args.at + 2) (c.args.v % 65536)) c.put_u16.ensures
