-- What a store leaves of the words of a ledger. Assumes nothing.
use mathlib.Core.Path.{◌≡◌, sym, ap, ◌∙◌}
use mathlib.Core.List.{List}
use Prim.Native.Nat.{ℕ}
use lib.ListN.{get_or, set}
use lib.Seq.{set-get_or}

-- a word that is stored as it stands changes nothing
pub kept : (v w : List ℕ) (i : ℕ) → get_or v i 0 ≡ get_or w i 0 → set v i (get_or w i 0) ≡ v
kept v w i e = ap (set v i) (sym e) ∙ set-get_or v i 0
