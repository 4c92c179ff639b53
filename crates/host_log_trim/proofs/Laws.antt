-- From what trimming answers to what a host is told, by the case. Assumes nothing.
use mathlib.Core.Path.{◌≡◌, sym, ap, ◌∙◌}
use mathlib.Core.List.{List}
use Prim.Native.Nat.{ℕ}
use Rattle.std.specs.Prelude.{Result}
use Rattle.limits.specs.declared.Refusal.{Refusal}
use Rattle.log_trim.specs.declared.Cut.{Cut}
use Rattle.log_trim.specs.Trimmed.{Left, left, trim_to}
use Rattle.host_log_trim.specs.Told as told
use Rattle.host_log_trim.specs.Told.{told_by, trim_told}

pub told_is : (log : List ℕ) (copies threshold timeout : ℕ) (bs ws after : List ℕ) (t k : Result Cut Refusal) (x : told.Left)
    → left t after ≡ trim_to log copies threshold timeout bs → t ≡ k → x ≡ told_by k after ws → x ≡ trim_told log copies threshold timeout bs ws
unfolding trim_told
told_is log copies threshold timeout bs ws after t k x e n p =
    p ∙ ap (λ (z : Result Cut Refusal). told_by z after ws) (sym n) ∙ ap (λ (l : Left). told_by l.answer l.room ws) e
