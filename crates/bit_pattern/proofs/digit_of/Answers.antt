use native.Mathlib.Omega.{arith}
use Rattle.bit_pattern.proofs.Digits.{before_numerals, numeral, before_capitals, capital, before_small, small, behind-small}
use Rattle.bit_pattern.proofs.digit_of.Goals as goal

pub returns-then-byte-lt48 : goal.returns-then-byte-lt48
returns-then-byte-lt48 c = before_numerals c.args.byte (omega arith)

pub returns-then-byte-lt58 : goal.returns-then-byte-lt58
returns-then-byte-lt58 c = numeral c.args.byte (omega arith) (omega arith)

pub returns-then-byte-lt65 : goal.returns-then-byte-lt65
returns-then-byte-lt65 c = before_capitals c.args.byte (omega arith) (omega arith)

pub returns-then-byte-lt71 : goal.returns-then-byte-lt71
returns-then-byte-lt71 c = capital c.args.byte (omega arith) (omega arith)

pub returns-then-byte-lt97 : goal.returns-then-byte-lt97
returns-then-byte-lt97 c = before_small c.args.byte (omega arith) (omega arith)

pub returns-then-byte-lt103 : goal.returns-then-byte-lt103
returns-then-byte-lt103 c = small c.args.byte (omega arith) (omega arith)

pub returns : goal.returns
returns c = behind-small c.args.byte (omega arith)
