-- What the proof of `show` cites. Assumes nothing.
use mathlib.Core.Path.{◌≡◌, refl}
use mathlib.Core.List.{List}
use Prim.Native.Nat.{ℕ}
use lib.ListN.{set}
use lib.Seq.{sets}
use Rattle.delays.specs.declared.DelaySummary.{DelaySummary}
use Rattle.host_summary.specs.Words.{ms_known, ms_bits, summary_words}

pub show-said : (ws : List ℕ) (d : DelaySummary) (a b c e f g : ℕ) → a ≡ ms_known d.min → b ≡ ms_bits d.min → c ≡ ms_known d.average → e ≡ ms_bits d.average
    → f ≡ ms_known d.max → g ≡ ms_bits d.max
    → set (set (set (set (set (set (set ws 0 d.samples) 1 a) 2 b) 3 c) 4 e) 5 f) 6 g ≡ sets ws 0 (summary_words d)
show-said ws d a b c e f g ea eb ec ee ef eg = cc
