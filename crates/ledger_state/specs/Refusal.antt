-- The refusals of sent, accept and observe (document 01, 'Refusal numbers'): of several, the first in table order.
use Rattle.std.specs.Prelude.{Bool, true, false, ◌&&◌, ℕ, leb, ltb, eqb}
use Rattle.limits.specs.Refusals.{wrong_room, out_of_range, deadline_passes, counts_full, not_awaiting, queue_full}
use Rattle.limits.specs.Limits.{capacity, most_calls}
use Rattle.chains.specs.declared.Ring.{Ring}
use Rattle.replies.specs.Bounds.{replies_fit}
use Rattle.direct.specs.Outcomes.{counts_in_bounds, seen_in}
use Rattle.follow_ups.specs.Bounds.{follow_ups_fit}
use Rattle.delays.specs.Bounds as delays
use Rattle.ledger_state.specs.declared.Counts.{Counts}
use Rattle.ledger_state.specs.declared.Ledger.{Ledger}

-- the number of the first test that fails, in table order, and 0 where none does
abbrev pub first_refusal : Bool → Bool → Bool → Bool → Bool → Bool → ℕ
first_refusal false ranged timely counted awaiting room = wrong_room
first_refusal true false timely counted awaiting room = out_of_range
first_refusal true true false counted awaiting room = deadline_passes
first_refusal true true true false awaiting room = counts_full
first_refusal true true true true false room = not_awaiting
first_refusal true true true true true false = queue_full
first_refusal true true true true true true = 0

-- a room has the right size
abbrev pub sized : ℕ → Bool
sized length = eqb length capacity

-- "ring head above 4,095 or length above 4,096"
abbrev pub ring_fits : Ring → Bool
ring_fits r = ltb r.head capacity && leb r.len capacity

-- every ring of the state, and the list of the seen offsets, which starts at entry 0
abbrev pub rings_fit : Ledger → Bool
rings_fit l = ring_fits l.tables.keys && ring_fits l.tables.probes && leb (seen_in l.counts.direct.window) capacity

-- "any u64 count in the state or its slots at 2^63, any sum's magnitude at 2^126, or beyond"; the count of a slot has 16 bits (crate correlation), so none is there
abbrev pub counts_fit : Counts → Bool
counts_fit c = replies_fit c.replies && delays.counts_fit c.rtt && counts_in_bounds c.direct.counts && follow_ups_fit c.follow

-- "4,294,967,295 sent, accept and observe calls already served"
abbrev pub room_for_call : Ledger → Bool
room_for_call l = ltb l.calls most_calls && counts_fit l.counts
