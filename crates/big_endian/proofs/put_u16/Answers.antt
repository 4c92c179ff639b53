use mathlib.Core.Path.{ap, ◌∙◌}
use mathlib.Core.List.{List}
use Prim.Native.Nat.{ℕ, ◌+◌, ◌%◌}
use Rattle.big_endian.specs.Numbers.{put}
use Rattle.big_endian.proofs.put_u16.Goals as goal

pub returns : goal.returns
returns c = c.put_u8-2.ensures ∙ ap (λ (l : List ℕ). put 0 l (c.args.at + 1) (c.args.v % 256)) c.put_u8.ensures
