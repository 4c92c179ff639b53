use mathlib.Core.Path.{subst}
use Prim.Native.Nat.{◌+◌, ◌-◌}
use native.Mathlib.Nat.{add-zero}
use native.Mathlib.Omega.{arith}
use Rattle.word_runs.proofs.Windows.{OnesAt, left_by, then_by, none_left}
use Rattle.word_runs.proofs.longer_runs.Goals as goal

pub returns-then-known-lt1 : goal.returns-then-known-lt1
returns-then-known-lt1 c = none_left 64 c.args.word c.args.word 0 c.args.known (λ i n h. subst (OnesAt c.args.word i) (add-zero n) h) (omega arith)

pub returns-then-known-lt3 : goal.returns-then-known-lt3
returns-then-known-lt3 c = none_left 64 c.args.word c.shared.result (c.args.known - 1 + 1) c.args.known (then_by c.args.word c.shared-two.result c.shared.result 1 (c.args.known - 1) (left_by c.args.word c.shared-two.result 1 c.shared-two.ensures) c.shared.ensures) (omega arith)

pub returns-then-known-lt7 : goal.returns-then-known-lt7
returns-then-known-lt7 c = none_left 64 c.args.word c.shared-then-known-lt7.result (c.args.known - 3 + 3) c.args.known (then_by c.args.word c.shared-four.result c.shared-then-known-lt7.result 3 (c.args.known - 3) (then_by c.args.word c.shared-two.result c.shared-four.result 1 2 (left_by c.args.word c.shared-two.result 1 c.shared-two.ensures) c.shared-four.ensures) c.shared-then-known-lt7.ensures) (omega arith)

pub returns-then-known-lt15 : goal.returns-then-known-lt15
returns-then-known-lt15 c = none_left 64 c.args.word c.shared-then-known-lt15.result (c.args.known - 7 + 7) c.args.known (then_by c.args.word c.shared-eight.result c.shared-then-known-lt15.result 7 (c.args.known - 7) (then_by c.args.word c.shared-four.result c.shared-eight.result 3 4 (then_by c.args.word c.shared-two.result c.shared-four.result 1 2 (left_by c.args.word c.shared-two.result 1 c.shared-two.ensures) c.shared-four.ensures) c.shared-eight.ensures) c.shared-then-known-lt15.ensures) (omega arith)

pub returns-then-known-lt31 : goal.returns-then-known-lt31
returns-then-known-lt31 c = none_left 64 c.args.word c.shared-then-known-lt31.result (c.args.known - 15 + 15) c.args.known (then_by c.args.word c.shared-sixteen.result c.shared-then-known-lt31.result 15 (c.args.known - 15) (then_by c.args.word c.shared-eight.result c.shared-sixteen.result 7 8 (then_by c.args.word c.shared-four.result c.shared-eight.result 3 4 (then_by c.args.word c.shared-two.result c.shared-four.result 1 2 (left_by c.args.word c.shared-two.result 1 c.shared-two.ensures) c.shared-four.ensures) c.shared-eight.ensures) c.shared-sixteen.ensures) c.shared-then-known-lt31.ensures) (omega arith)

pub returns : goal.returns
returns c = none_left 64 c.args.word c.shared-2.result (16 + 15) c.args.known (then_by c.args.word c.shared-sixteen.result c.shared-2.result 15 (16) (then_by c.args.word c.shared-eight.result c.shared-sixteen.result 7 8 (then_by c.args.word c.shared-four.result c.shared-eight.result 3 4 (then_by c.args.word c.shared-two.result c.shared-four.result 1 2 (left_by c.args.word c.shared-two.result 1 c.shared-two.ensures) c.shared-four.ensures) c.shared-eight.ensures) c.shared-sixteen.ensures) c.shared-2.ensures) (omega arith)
