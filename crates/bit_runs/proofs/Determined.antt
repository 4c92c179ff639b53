-- The contract of `after_byte` determines its answer. Assumes nothing.
use mathlib.Core.Path.{◌≡◌, sym, ◌∙◌}
use contract.Lifetimes.{Lfts}
use denote.Triple.Clauses.{AtExit}
use borrow.Fn.Kinds.{Dens, res_t, ended_of}
use Rattle.bit_runs.proofs.after_byte.Kinds as after-byte
use Rattle.bit_runs.proofs.after_byte.Reads as after-byte'

pub after-byte-unique :
    (κs : Lfts 0) (a : Dens κs after-byte.ps) (x y : (res_t after-byte.r κs).Denot) (s t : AtExit (ended_of 0 after-byte.ps after-byte.r) κs)
    → after-byte'.Post κs a x s → after-byte'.Post κs a y t → x ≡ y
after-byte-unique κs a x y s t p q = p ∙ sym q
