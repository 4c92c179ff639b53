-- The lines that `linktrim` says. Assumes nothing.
use Rattle.std.specs.Prelude.{List, ◌++◌, ℕ}
use Rattle.decimal.specs.Decimal.{decimal}
use Rattle.template.specs.Text.{bytes}

-- `kept N stop N dropped N`
abbrev pub cut_line : ℕ → ℕ → ℕ → List ℕ
cut_line kept stop dropped = (((bytes "kept " ++ decimal kept) ++ (bytes " stop " ++ decimal stop)) ++ (bytes " dropped " ++ decimal dropped)) ++ bytes "\n"

-- `refused N`
abbrev pub refused_line : ℕ → List ℕ
refused_line number = (bytes "refused " ++ decimal number) ++ bytes "\n"
