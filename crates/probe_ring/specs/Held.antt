-- Document 01: "Held probes are the 4,096 most recently remembered distinct sequences. Remembering a held one makes it the newest,
-- unanswered, with no replies and the new ordinal; nothing is evicted." Here over plain lists, newest first, and any number N of them.
-- Assumes nothing.
use Rattle.std.specs.Prelude.{◌≡◌, Bool, false, not, ◌||◌, ◌&&◌, cond, List, [], ◌∷◌, ℕ, eqb, leb, length, take}
use Rattle.probe_ring.specs.declared.HeldProbe.{HeldProbe}

-- whether a sequence is held
unfoldable pub holds : List HeldProbe → ℕ → Bool
holds [] s = false
holds (p ∷ ps) s = eqb s p.sequence || holds ps s

-- the probes of other sequences
unfoldable pub others : ℕ → List HeldProbe → List HeldProbe
others s [] = []
others s (p ∷ ps) = cond (eqb s p.sequence) (others s ps) (p ∷ others s ps)

-- each sequence once, as it was remembered last
unfoldable pub once : List HeldProbe → List HeldProbe
once [] = []
once (p ∷ ps) = p ∷ others p.sequence (once ps)

-- a probe that is remembered is the newest, what was held of its sequence goes, and N are held
unfoldable pub remembering : ℕ → HeldProbe → List HeldProbe → List HeldProbe
remembering N p ps = take N (p ∷ others p.sequence ps)

-- whether the oldest goes for it
unfoldable pub evicts : ℕ → HeldProbe → List HeldProbe → Bool
evicts N p ps = not (holds ps p.sequence) && leb N (length ps)

-- the oldest of them, p where there is none
unfoldable pub oldest : HeldProbe → List HeldProbe → HeldProbe
oldest p [] = p
oldest p (q ∷ qs) = oldest q qs

-- whether the one that goes for it has no reply
unfoldable pub loses : ℕ → HeldProbe → List HeldProbe → Bool
loses N p ps = evicts N p ps && eqb (oldest p ps).replies 0

-- another row for the probe of the same sequence
unfoldable pub replacing : HeldProbe → List HeldProbe → List HeldProbe
replacing p [] = []
replacing p (q ∷ qs) = cond (eqb p.sequence q.sequence) p q ∷ replacing p qs

-- all of these remembered, the last of the list first
unfoldable pub remembering_all : ℕ → List HeldProbe → List HeldProbe
remembering_all N [] = []
remembering_all N (p ∷ ps) = remembering N p (remembering_all N ps)

-- no sequence stands twice
unfoldable pub Distinct : List HeldProbe → Type 0
Distinct [] = Unit
Distinct (p ∷ ps) = (holds ps p.sequence ≡ false) × Distinct ps
