-- The limits that document 02 adds. Those of document 01, and all refusals, are in crate `limits`.
use Rattle.std.specs.Prelude.{ℕ}

-- the longest padding in bytes
abbrev pub most_padding : ℕ
most_padding = 65535

-- and in bits
abbrev pub most_bits : ℕ
most_bits = 524280
