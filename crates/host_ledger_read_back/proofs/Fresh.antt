-- The words of a fresh ledger are read back as the library's fresh ledger.
-- Assumes nothing.
use mathlib.Core.Path.{◌≡◌}
use Prim.Native.Nat.{ℕ, ◌<◌, ◌^◌}
use native.Mathlib.Nat.{mod-eq_of_lt}
use Rattle.ledger_state.specs.declared.Secret.{Secret}
use Rattle.ledger_state.specs.declared.Ledger.{Ledger}
use Rattle.ledger_state.specs.State.{fresh_tables, fresh_counts}
use Rattle.host_quality.specs.Words.{quality_at}
use Rattle.host_numbers.proofs.Back.{lower-joined, upper-joined}
use Rattle.host_ledger.specs.Parts.{secret_at, secret_words, replies_at, delays_of, window_at, direct_at, follow_at}
use Rattle.host_ledger.specs.Words.{tables_at, ledger_at}
use Rattle.host_ledger.specs.Left.{fresh_words}

-- the words of the hash fit their type
pub record SecretFits (s : Secret) : Type 0 where
  pub first : s.first < 2 ^ 32
  pub second : s.second < 2 ^ 32
  pub third : s.third < 2 ^ 32
  pub fourth : s.fourth < 2 ^ 32
  pub fifth : s.fifth < 2 ^ 32
  pub sixth : s.sixth < 2 ^ 32
  pub seventh : s.seventh < 2 ^ 32
  pub eighth : s.eighth < 2 ^ 32

abbrev made : ℕ → Secret → Ledger
made copies secret = record { copies = copies; secret = secret; calls = 0; tables = fresh_tables; counts = fresh_counts }

pub fresh-back : (copies : ℕ) (s : Secret) → copies < 2 ^ 16 → SecretFits s → ledger_at (fresh_words copies s) ≡ made copies s
unfolding ledger_at fresh_words secret_at secret_words tables_at replies_at delays_of window_at direct_at follow_at quality_at
fresh-back copies s h f = λ i. made (mod-eq_of_lt h i) (record {
  first = lower-joined s.first s.second f.first i;
  second = upper-joined s.first s.second f.first f.second i;
  third = lower-joined s.third s.fourth f.third i;
  fourth = upper-joined s.third s.fourth f.third f.fourth i;
  fifth = lower-joined s.fifth s.sixth f.fifth i;
  sixth = upper-joined s.fifth s.sixth f.fifth f.sixth i;
  seventh = lower-joined s.seventh s.eighth f.seventh i;
  eighth = upper-joined s.seventh s.eighth f.seventh f.eighth i;
})
