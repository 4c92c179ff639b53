-- What became of the probes that were remembered (document 02, Q-3), from the events newest first: one is held, or was evicted, answered or
-- unanswered, or renewed, which document 01 calls remembering a held one. `evicted_unanswered` is in Ledger. Assumes nothing.
use Rattle.std.specs.Prelude.{not, ◌&&◌, List, [], ◌∷◌, ℕ, eqb, length}
use Rattle.history.specs.Counting.{tally, has}
use Rattle.history.specs.Ledger.{Event, remembered, replied, observed, replies, oldest, held}

-- N: how many probes are held
module _ (N : ℕ) where
  -- a remembering evicts a probe that has had a reply since it was remembered
  unfoldable pub evicted_answered : List Event → ℕ
  evicted_answered [] = 0
  evicted_answered (remembered s o t p ∷ es) =
      tally (eqb (length (held N es)) N && not (has (held N es) s) && not (eqb (replies (oldest s (held N es)) es) 0)) (evicted_answered es)
  evicted_answered (replied k p ∷ es) = evicted_answered es
  evicted_answered (observed o ∷ es) = evicted_answered es

  -- a remembering finds its sequence held: the probe that was held is renewed
  unfoldable pub renewed : List Event → ℕ
  renewed [] = 0
  renewed (remembered s o t p ∷ es) = tally (has (held N es) s) (renewed es)
  renewed (replied k p ∷ es) = renewed es
  renewed (observed o ∷ es) = renewed es
