-- What the type of a log's bytes says. Assumes nothing.
use Rattle.std.specs.Prelude.{List, ℕ, ◌<◌, get_or}

-- each is below 256
abbrev pub BytesIn : List ℕ → Type 0
BytesIn bs = (i : ℕ) → get_or bs i 0 < 256
