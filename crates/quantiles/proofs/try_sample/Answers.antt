use mathlib.Core.Path.{◌≡◌, ◌∙◌, ap}
use mathlib.Core.Bool.{Bool}
use Prim.Native.Nat.{ℕ, ◌+◌, ◌^◌, ◌<◌}
use native.Mathlib.Omega.{arith}
use lib.ListN.{length}
use Rattle.quantile_room.specs.Room.{room_size}
use Rattle.quantiles.specs.Record.{taken}
use Rattle.quantiles.specs.Between.{one_more}
use Rattle.quantiles.proofs.Between.{between_exact}
use Rattle.quantiles.proofs.try_sample.Goals as goal

room_left : (n : ℕ) → n < 4096 → n + 1 < 2 ^ 64
room_left n h = omega arith

inside : (n k : ℕ) (s : Bool) → n ≡ room_size s → k < 4096 → k < n
inside n k s e h = omega arith

pub put_sample-requires : goal.put_sample-requires
put_sample-requires c = inside (length c.args.room.now) _ c.args.q.signed (c.if-room-room_size.false ∙ c.room_size.ensures) c.requires.2

pub returns : goal.returns
returns c =
    let a = c.args in
    let p = c.requires in (
      room_left a.q.count p.2,
      ap (taken (one_more a.q)) c.put_sample.ensures ∙ between_exact a.q a.value p.0 p.1 a.room.now (c.if-room-room_size.false ∙ c.room_size.ensures) p.2,
    )
