-- What is stored of the monitor, by the call's number. Assumes nothing.
use mathlib.Core.Path.{◌≡◌, refl, ap, sym, ◌∙◌}
use mathlib.Core.List.{List}
use Prim.Native.Nat.{ℕ, zero, suc}
use Rattle.monitor.specs.declared.Monitor.{Monitor}
use Rattle.host_monitor_words.specs.Words.{words_of}
use Rattle.host_watched_parts.specs.Unless.{stored_unless}

pub stored_is : (n : ℕ) (words words' : List ℕ) (next : Monitor) → n ≡ 0 → words' ≡ words_of next → words' ≡ stored_unless n words next
stored_is n words words' next z e = e ∙ ap (λ (k : ℕ). stored_unless k words next) (sym z)

pub kept_is : (n : ℕ) (words : List ℕ) (next : Monitor) → (n ≡ 0 → ⊥) → words ≡ stored_unless n words next
kept_is zero words next h = absurd (h refl)
kept_is (suc n) words next h = refl
