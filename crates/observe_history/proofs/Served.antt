-- An observe whose refusal's number is 0 was served: it is in range, and its key is the awaiting one. Assumes nothing.
use mathlib.Core.Path.{◌≡◌, refl}
use mathlib.Core.Bool.{Bool, true, false, ◌&&◌}
use native.Mathlib.Omega.{arith}
use lib.ListN.{length}
use Rattle.limits.specs.Limits.{capacity}
use Rattle.call_types.specs.declared.ReplyObservation.{ReplyObservation}
use Rattle.ranges.specs.Ranges.{in_range}
use Rattle.ledger_state.specs.Refusal.{first_refusal, sized, rings_fit, room_for_call}
use Rattle.ledger_steps.specs.Rooms.{LedgerStand}
use Rattle.ledger_steps.specs.Refusals.{awaits_key, refusal_of_observe}
use Rattle.observe_history.specs.FollowUps.{QualityFits}
use Rattle.observe_history.specs.Follows.{ObserveServed}

passed : (sizes ranged counted awaiting : Bool) → first_refusal sizes ranged true counted awaiting true ≡ 0 → (ranged ≡ true) × (awaiting ≡ true)
passed false ranged counted awaiting e = absurd (omega (arith, e))
passed true false counted awaiting e = absurd (omega (arith, e))
passed true true false awaiting e = absurd (omega (arith, e))
passed true true true false e = absurd (omega (arith, e))
passed true true true true e = (refl, refl)

pub observe-served : (s : LedgerStand) (o : ReplyObservation)
    → refusal_of_observe s.ledger s.rooms.keys (length s.rooms.slots) (length s.rooms.offsets) (length s.rooms.links) o ≡ 0
    → QualityFits o.quality → ObserveServed capacity s o
unfolding refusal_of_observe
observe-served s o e fits =
    let p = passed
    (sized (length s.rooms.keys) && sized (length s.rooms.slots) && sized (length s.rooms.offsets) && sized (length s.rooms.links) && rings_fit s.ledger)
    (in_range o) (room_for_call s.ledger) (awaits_key s.ledger s.rooms.keys o.key) e in
    record { ranged = p.0; awaiting = p.1; quality-fits = fits }
