-- A log that the reader accepts has at most 682 records: a trailer of 24 bytes and 96 bytes for each, in 65,536. Assumes nothing.
use Rattle.std.specs.Prelude.{Ok}
use mathlib.Core.Path.{◌≡◌, subst}
use mathlib.Core.List.{List}
use Prim.Native.Nat.{ℕ, ◌≤◌}
use native.Mathlib.Omega.{arith}
use Rattle.log_whole.specs.declared.Settings.{Settings}
use Rattle.log_whole.specs.Logs.{log_of}
use Rattle.log_whole.specs.Meaning.{Means}
use Rattle.log_whole.proofs.Accepted.{answer_means}
use Rattle.log_whole.proofs.Laws.{settings_within}

pub few_records : (log : List ℕ) (s : Settings) → log_of log ≡ Ok s → s.count ≤ 682
few_records log s g =
    let m : Means log (Ok s) = subst (Means log) g (answer_means log) in
    omega (arith, m.0, settings_within log s m.1 m.2)
