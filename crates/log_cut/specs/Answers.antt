-- What is known of a cut log, in the words of document 02, Q-11; proofs/ shows each of every bytes. Assumes nothing.
use Rattle.std.specs.Prelude.{◌≡◌, true, false, List, ℕ, ◌+◌, ◌*◌, ◌≤◌, ◌<◌, length}
use Rattle.log_record.specs.Records.{good}
use Rattle.log_whole.specs.Logs.{record_at}

-- n records are kept of the bytes: they are there, each is good, and the next one is incomplete or bad
pub record Keeps (bs : List ℕ) (n : ℕ) : Type 0 where
  pub there : 96 * n ≤ length bs
  pub goods : (j : ℕ) → j < n → good (record_at bs 0 j) ≡ true
  pub next : 96 * n + 96 ≤ length bs → good (record_at bs 0 n) ≡ false
