-- Unmarking leaves the room as long as it was.
-- Assumes nothing.
use mathlib.Core.Path.{◌≡◌, refl, ◌∙◌}
use mathlib.Core.List.{List}
use Prim.Native.Nat.{ℕ, zero, suc}
use lib.ListN.{length, length-set}
use Rattle.probe_queue.specs.declared.QueuedProbe.{QueuedProbe}
use Rattle.probe_queue.specs.declared.QueueRing.{QueueRing}
use Rattle.probe_queue.specs.Queue.{place, unmarked, popped}

pub unmarked-length : (room : List QueuedProbe) (ring : QueueRing) (s n : ℕ) → length (unmarked room ring s n) ≡ length room
unmarked-length room ring s zero = refl
unmarked-length room ring s (suc n) = length-set (unmarked room ring s n) (place ring n) _ ∙ unmarked-length room ring s n

pub popped-length : (room : List QueuedProbe) (ring rest : QueueRing) (n : ℕ) → length (popped room ring rest n) ≡ length room
popped-length room ring rest zero = refl
popped-length room ring rest (suc n) = unmarked-length (popped room ring rest n) rest _ rest.len ∙ popped-length room ring rest n
