-- The test that is made once a list: no reply of it will be refused. proofs/Lasting.antt has what it shows. Assumes nothing.
use Rattle.std.specs.Prelude.{Bool, true, ◌&&◌, List, ℕ, ◌^◌, leb, ltb, eqb, get_or}
use Rattle.ledger_state.specs.Refusal.{first_refusal, rings_fit, room_for_call}
use Rattle.host_ledger.specs.Words.{ledger_at}
use Rattle.host_ledger.specs.Places as place

-- a count that no list takes to its bound, 2^63
abbrev pub far : ℕ → Bool
far n = ltb n (2 ^ 62)

-- requested, unique, duplicate and unknown replies are such counts
abbrev pub low_totals : List ℕ → Bool
low_totals w = far (get_or w place.requested 0) && far (get_or w place.unique 0) && far (get_or w place.duplicate 0) && far (get_or w place.unknown 0)

-- so are answered, additional, late and satisfied
abbrev pub low_answers : List ℕ → Bool
low_answers w = far (get_or w place.answered 0) && far (get_or w place.additional 0) && far (get_or w place.late 0) && far (get_or w place.satisfied 0)

-- so are reordered, independent and those of what was evicted
abbrev pub low_others : List ℕ → Bool
low_others w = far (get_or w place.reordered 0) && far (get_or w place.independent 0) && far (get_or w place.probes_evicted 0) && far (get_or w place.replies_evicted 0) && far (get_or w place.evicted_unanswered 0)

-- of 4,294,967,295 calls those before the last list that can be served whole
abbrev pub last_calls : ℕ
last_calls = 4294967039

-- no count is near its bound, and the calls are not near theirs
abbrev pub low : List ℕ → Bool
low w = low_totals w && low_answers w && low_others w && leb (get_or w place.calls 0) last_calls

-- a call is not refused for its ledger and its rooms, the list is one of at most 256, and no count is near its bound
unfoldable pub lasts : Bool → ℕ → List ℕ → Bool
lasts sized count w = eqb (first_refusal (sized && rings_fit (ledger_at w)) true true (room_for_call (ledger_at w)) true true) 0 && leb count 256 && low w
