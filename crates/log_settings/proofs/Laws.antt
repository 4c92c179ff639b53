-- A link by its threshold, and the check by the rooms. Assumes nothing.
use Rattle.std.specs.Prelude.{Some}
use mathlib.Core.Path.{◌≡◌, refl, sym, ap, ◌∙◌}
use Prim.Native.Nat.{ℕ, zero, suc, ◌<◌, ◌^◌}
use native.Mathlib.Nat.{mod-eq_of_lt}
use Rattle.ledger_state.specs.declared.Secret.{Secret}
use Rattle.ledger_state.specs.declared.Ledger.{Ledger}
use Rattle.ledger_state.specs.State.{fresh_tables, fresh_counts}
use Rattle.host_quality.specs.Words.{quality_at}
use Rattle.host_ledger.specs.Parts.{SecretKept, secret_at, secret_words, replies_at, delays_of, window_at, direct_at, follow_at}
use Rattle.host_ledger.specs.Words.{tables_at, ledger_at}
use Rattle.host_ledger.specs.Left.{fresh_words}
use Rattle.monitor.specs.Operations.{fresh}
use Rattle.log_settings.specs.Fresh.{watch_by}

-- a threshold that is not 0
pub present : (n t : ℕ) → (n ≡ 0 → ⊥) → Some (fresh n t) ≡ watch_by n t
present zero t h = absurd (h refl)
present (suc n) t h = refl

-- the words of a fresh ledger say it: its copies fit, and the words of the hash are kept
pub fresh-said : (copies : ℕ) (secret : Secret) → copies < 2 ^ 16 → SecretKept secret → (l : Ledger) → l ≡ record { copies = copies; secret = secret; calls = 0; tables = fresh_tables; counts = fresh_counts }
    → ledger_at (fresh_words copies secret) ≡ l
unfolding ledger_at fresh_words secret_at secret_words tables_at replies_at delays_of window_at direct_at follow_at quality_at
fresh-said copies secret fits kept l e =
    (λ i. record { copies = mod-eq_of_lt fits i; secret = kept i; calls = 0; tables = fresh_tables; counts = fresh_counts }) ∙ sym e
