-- When the chains of a ring are whole: each starts at the newest entry of its hash, and each entry leads to the next older one.
-- `hash` is the hash of the entry of a slot, `newest` and `older` are the links.
-- Assumes nothing.
use Rattle.std.specs.Prelude.{◌≡◌, ℕ, ◌+◌, ◌≤◌, ◌<◌}
use Rattle.chains.specs.Rings.{wrap}

-- The link leads to an entry of hash h at place p or above it, below b.
pub record Led (N : ℕ) (hash : ℕ → ℕ) (head link b h p : ℕ) : Type 0 where
  pub to : ℕ
  pub leads : link ≡ wrap N (head + to)
  pub above : p ≤ to
  pub below : to < b
  pub alike : hash (wrap N (head + to)) ≡ h

-- The link leads to the newest entry of hash h below b, where there is one. Where there is none, it is anything.
abbrev pub Leads : ℕ → (ℕ → ℕ) → ℕ → ℕ → ℕ → ℕ → Type 0
Leads N hash head link b h = (p : ℕ) → p < b → hash (wrap N (head + p)) ≡ h → Led N hash head link b h p

-- Each chain is whole.
pub record Indexed (N : ℕ) (hash newest older : ℕ → ℕ) (head len : ℕ) : Type 0 where
  pub first : (h : ℕ) → Leads N hash head (newest h) len h
  pub next : (q : ℕ) → q < len → Leads N hash head (older (wrap N (head + q))) q (hash (wrap N (head + q)))
