-- A record of another sequence need not be stored: unmarking leaves it as it is.
-- Assumes nothing.
use mathlib.Core.Path.{◌≡◌, refl, sym, ap, ◌∙◌}
use mathlib.Core.Bool.{Bool, true, false}
use mathlib.Core.List.{List}
use Prim.Native.Nat.{ℕ, ◌<◌, ◌^◌}
use native.Mathlib.Omega.{arith}
use lib.ListN.{length, get_or, set}
use lib.Seq.{set-get_or, set_out}
use lib.Dec.{eqb}
use Rattle.probe_queue.specs.declared.QueuedProbe.{QueuedProbe}
use Rattle.probe_queue.specs.Queue.{choose, nil, past, unmark, place_if}

abbrev plainly : QueuedProbe → QueuedProbe
plainly p = record { sequence = p.sequence; deadline = p.deadline; mark = 0 }

stored-by : (room : List QueuedProbe) (n : ℕ) (p : QueuedProbe) (t : Bool) → length room < 2 ^ 64 → p ≡ get_or room n nil → set room (choose t n past) (choose t (plainly p) p) ≡ set room n (choose t (plainly p) p)
stored-by room n p true l e = refl
stored-by room n p false l e = set_out room past p (omega (arith, l)) ∙ sym (ap (λ (d : QueuedProbe). set room n d) e ∙ set-get_or room n nil)

pub stored : (room : List QueuedProbe) (s n : ℕ) (p c : QueuedProbe) (to : ℕ) → length room < 2 ^ 64 → p ≡ get_or room n nil → c ≡ unmark s p → to ≡ place_if s p n → set room to c ≡ set room n (unmark s p)
unfolding unmark place_if
stored room s n p c to l ep ec et = ap (λ (k : ℕ). set room k c) et ∙ ap (λ (d : QueuedProbe). set room (place_if s p n) d) ec ∙ stored-by room n p (eqb p.sequence s) l ep
