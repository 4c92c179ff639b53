use native.Mathlib.Omega.{arith}
use Rattle.bit_errors.proofs.Words.{joined}
use Rattle.bit_errors.proofs.word_at.Goals as goal

pub returns : goal.returns
returns c =
    let a = c.args in
    joined a.bytes.now a.at (λ i. omega (arith, c.shared_slice_known-9-1.given i))
    c.shifted.ensures
    c.shifted-2.ensures
    c.shifted-3.ensures
    c.shifted-4.ensures
    c.shifted-5.ensures
    c.shifted-6.ensures
    c.shifted-7.ensures
    c.shifted-8.ensures
