use mathlib.Core.Path.{sym, ◌∙◌}
use native.Mathlib.Omega.{arith}
use Rattle.bit_pattern.proofs.Laws.{empty, odd, another_character, short, fits}
use Rattle.bit_pattern.proofs.decode.Goals as goal

pub returns-then-digits-eq0 : goal.returns-then-digits-eq0
returns-then-digits-eq0 c = let a = c.args in empty a.digits.now a.room.now c.if-digits-eq0.true

pub returns-then-digits-eq1 : goal.returns-then-digits-eq1
returns-then-digits-eq1 c = let a = c.args in odd a.digits.now a.room.now c.if-digits-eq0.false c.if-digits-eq1.true

pub returns-then-room-count : goal.returns-then-room-count
returns-then-room-count c =
    let a = c.args in
    short a.digits.now a.room.now c.if-digits-eq0.false c.if-digits-eq1.false (sym c.all_digits.ensures ∙ c.if-all_digits.true) c.if-room-count.true

pub put_bytes-requires : goal.put_bytes-requires
put_bytes-requires c =
    let left = c.if-digits-eq1.false in
    (sym c.all_digits.ensures ∙ c.if-all_digits.true, omega (arith, left), omega arith)

pub returns-then-all_digits : goal.returns-then-all_digits
returns-then-all_digits c =
    let a = c.args in
    fits a.digits.now a.room.now c.if-digits-eq0.false c.if-digits-eq1.false _ (sym c.all_digits.ensures ∙ c.if-all_digits.true) c.if-room-count.false c.put_bytes.ensures

pub returns : goal.returns
returns c =
    let a = c.args in
    another_character a.digits.now a.room.now c.if-digits-eq0.false c.if-digits-eq1.false (sym c.all_digits.ensures ∙ c.if-all_digits.false)
