-- A quoted text as bytes. Assumes nothing.
use Rattle.std.specs.Prelude.{List, [], ◌∷◌, ℕ}
use Prim.Native.Char.{code}
use Prim.Native.String.{String}
use Prim.Native.String.{[] as none, ◌∷◌ as ◌then◌}

-- each character of a text as its code; those of the report are all below 128, one byte each
abbrev pub bytes : String → List ℕ
bytes none = []
bytes (c then rest) = code c ∷ bytes rest
