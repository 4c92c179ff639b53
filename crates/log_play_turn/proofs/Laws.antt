-- What an `idle` leaves of a monitor, and one record more that is turned away. Assumes nothing.
use Rattle.std.specs.Prelude.{Result, Ok, Err}
use mathlib.Core.Path.{◌≡◌, refl, sym, ap, ◌∙◌}
use mathlib.Core.Bool.{Bool, true, false}
use Prim.Native.Nat.{ℕ, zero, suc, ◌+◌}
use lib.Dec.{T, eqb, eqb→eq}
use Rattle.limits.specs.Limits.{capacity}
use Rattle.probe_queue.specs.Queue.{choose}
use Rattle.monitor.specs.declared.Monitor.{Monitor}
use Rattle.monitor.specs.Refusals.{refusal_of}
use Rattle.monitor.specs.Operations.{idle_on}
use Rattle.monitor.specs.Answers.{idle_to}
use Rattle.link_steps.specs.Steps.{idle_by, one_if}
use Rattle.log_play_turn.specs.Turn.{idled_if}

-- the monitor that an answer leaves: a refusal leaves the one before
abbrev pub monitor_by : Monitor → Result Monitor ℕ → Monitor
monitor_by m (Ok next) = next
monitor_by m (Err n) = m

idle-by : (m : Monitor) (n : ℕ) (b : Bool) → monitor_by m (choose b (Ok (idle_on m)) (Err n)) ≡ idle_by b m
idle-by m n true = refl
idle-by m n false = refl

idle-left : (m : Monitor) → monitor_by m (idle_to m) ≡ idle_by (eqb (refusal_of m capacity) 0) m
unfolding idle_to
idle-left m = idle-by m (refusal_of m capacity) (eqb (refusal_of m capacity) 0)

-- `idle`, and any other call
pub idles : (kind : ℕ) (m : Monitor) (a : Result Monitor ℕ) → kind ≡ 5 → a ≡ idle_to m → monitor_by m a ≡ idled_if (eqb kind 5) m
idles kind m a ek ea = ap (monitor_by m) ea ∙ idle-left m ∙ sym (ap (λ (n : ℕ). idled_if (eqb n 5) m) ek)

stays_by : (b : Bool) (m : Monitor) → (T b → ⊥) → m ≡ idled_if b m
stays_by true m h = absurd (h tt)
stays_by false m h = refl

pub stays : (kind : ℕ) (m : Monitor) → (kind ≡ 5 → ⊥) → m ≡ idled_if (eqb kind 5) m
stays kind m h = stays_by (eqb kind 5) m (λ t. h (eqb→eq kind 5 t))

-- a refusal's number is not 0
pub one_more : (k n : ℕ) → (k ≡ 0 → ⊥) → n + 1 ≡ one_if k n
one_more zero n h = absurd (h refl)
one_more (suc k) n h = refl
