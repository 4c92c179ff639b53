-- Delays that change neither extreme nor the sum's sign, as the words of a ledger tell it. They decide nothing but which words are stored.
-- Assumes nothing.
use Rattle.std.specs.Prelude.{Bool, ◌&&◌, ◌||◌, cond, List, ℕ, eqb, leb, get_or}
use Rattle.delays.specs.declared.Nanoseconds.{Nanoseconds}
use Rattle.host_ledger.specs.Places as place

-- a delay of this kind (1 not negative, 2 negative, as of extremes) and magnitude is beyond neither extreme: the far one, which is the largest or
-- for a negative delay the smallest, is of its kind and no nearer to zero; the near one is of the other kind, or of its kind and no farther
abbrev pub within : (kind other magnitude far_kind far near_kind near : ℕ) → Bool
within kind other magnitude far_kind far near_kind near =
    eqb far_kind kind && leb magnitude far && (eqb near_kind other || eqb near_kind kind && leb near magnitude)

-- the sum has the sign of the delay, which is beyond neither extreme
abbrev pub usual : List ℕ → Nanoseconds → Bool
usual w ns =
    cond ns.negative
    (eqb (get_or w place.delay_sign 0) 1 && within 2 1 ns.magnitude (get_or w place.delay_min_kind 0) (get_or w place.delay_min 0) (get_or w place.delay_max_kind 0) (get_or w place.delay_max 0))
    (eqb (get_or w place.delay_sign 0) 0 && within 1 2 ns.magnitude (get_or w place.delay_max_kind 0) (get_or w place.delay_max 0) (get_or w place.delay_min_kind 0) (get_or w place.delay_min 0))
