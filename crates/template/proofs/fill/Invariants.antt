-- `template::fill` The loop's invariant: what stands is the filling of the template's bytes that were read, and the next value is
-- that behind their places. Assumes nothing.
use mathlib.Core.Path.{◌≡◌}
use mathlib.Core.List.{List}
use Prim.Native.Nat.{ℕ, ◌+◌, ◌*◌, ◌≤◌}
use lib.ListN.{length, take}
use Rattle.decimal.specs.Decimal.{most_digits}
use Rattle.decimal.specs.Writing.{over}
use Rattle.template.specs.declared.Shown.{Shown}
use Rattle.template.specs.Filled.{filled, places}
use Rattle.template.proofs.fill.Given as goal

-- the filling of the first i bytes stands at the start, and takes at most the room of those bytes and of the values that were written
abbrev pub Standing : (before template : List ℕ) → List Shown → (bytes : List ℕ) → (i at next : ℕ) → Type 0
Standing before template values bytes i at next =
    (bytes ≡ over before 0 (filled (take i template) values))
    × (at ≡ length (filled (take i template) values))
    × (next ≡ places (take i template))
    × (i ≤ length template)
    × (at ≤ i + most_digits * next)
    × (length bytes ≡ length before)

abbrev pub invariant-loop-byte : goal.invariant-loop-byte
invariant-loop-byte l = Standing l.initial.bytes l.template l.values l.bytes l.byte-index l.at l.next
