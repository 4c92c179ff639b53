-- Areas worked out from the definitions: each computes. Assumes nothing.
use Rattle.std.specs.Prelude.{Some, Ok}
use Rattle.limits.specs.declared.Refusal.TheVariants as refusal
use mathlib.Core.Path.{◌≡◌, refl}
use mathlib.Core.Bool.{true}
use mathlib.Core.List.{List, [], ◌∷◌, ◌++◌}
use Prim.Native.Nat.{ℕ}
use Rattle.area_items.specs.Items.{refused, items, fits, verdict_at, read_from, rest_of, area}
use Rattle.area_observation.specs.Told.{failed, usable, first_of, counters_from, sighted_from, nothing, told_by, told}

-- S_TxC 12, R_RxC 11, R_TxC 10
abbrev pub direct : (flags : ℕ) → List ℕ
direct flags = flags ∷ 5 ∷ 0 ∷ 12 ∷ 0 ∷ 0 ∷ 0 ∷ 12 ∷ 0 ∷ 0 ∷ 0 ∷ 11 ∷ 0 ∷ 0 ∷ 0 ∷ 10 ∷ []

-- of reply 9, timestamp 2 ^ 32 + 1, a mode, reserved bytes that are not 0
abbrev pub follow : (flags mode : ℕ) → List ℕ
follow flags mode = flags ∷ 7 ∷ 0 ∷ 16 ∷ 0 ∷ 0 ∷ 0 ∷ 9 ∷ 0 ∷ 0 ∷ 0 ∷ 1 ∷ 0 ∷ 0 ∷ 0 ∷ 1 ∷ mode ∷ 170 ∷ 187 ∷ 204 ∷ []

-- an area of no bytes has no items
pub no_bytes : area [] ≡ items []
unfolding area rest_of read_from
no_bytes = refl

-- an item of another type is stepped over, and each says where it starts
pub two_items : area (0 ∷ 4 ∷ 0 ∷ 1 ∷ 99 ∷ 128 ∷ 240 ∷ 0 ∷ 0 ∷ [])
    ≡ items (record { start = 0; flags = 0; kind = 4; value = 99 ∷ [] } ∷ record { start = 5; flags = 128; kind = 240; value = [] } ∷ [])
unfolding area rest_of read_from verdict_at fits
two_items = refl

-- a header, or a value, that passes the end
pub cut_header : area (0 ∷ 5 ∷ 0 ∷ []) ≡ refused refusal.PassesEnd
unfolding area rest_of read_from verdict_at fits
cut_header = refl

pub cut_value : area (0 ∷ 1 ∷ 0 ∷ 2 ∷ 7 ∷ []) ≡ refused refusal.PassesEnd
unfolding area rest_of read_from verdict_at fits
cut_value = refl

-- a wrong length in an earlier item comes before a value that passes the end behind it; in one item the end comes first
pub first_bad_decides : area (0 ∷ 5 ∷ 0 ∷ 1 ∷ 9 ∷ 0 ∷ 1 ∷ []) ≡ refused refusal.WrongLength
unfolding area rest_of read_from verdict_at fits
first_bad_decides = refl

pub ten_before_eleven : area (0 ∷ 5 ∷ 0 ∷ 2 ∷ 9 ∷ []) ≡ refused refusal.PassesEnd
unfolding area rest_of read_from verdict_at fits
ten_before_eleven = refl

-- both are told; a mode of 4 is unknown; of two items of one type the first counts
pub both_told : told (direct 0 ++ follow 0 4 ++ direct 0)
    ≡ Ok (record {
      counters = Some (record { sender = record { 0 = 12 }; received = record { 0 = 11 }; transmitted = record { 0 = 10 } });
      follow = Some (record { sequence = 9; timestamp = 4294967297; unknown = true });
    })
unfolding told told_by failed usable first_of counters_from sighted_from area rest_of read_from verdict_at fits
both_told = refl

-- U skips an item, M ends the reading, I voids all
pub skipped : told (direct 128 ++ follow 64 1) ≡ Ok nothing
unfolding told told_by failed usable first_of counters_from sighted_from area rest_of read_from verdict_at fits
skipped = refl

pub voided : told (direct 0 ++ follow 32 1) ≡ Ok nothing
unfolding told told_by failed usable first_of counters_from sighted_from area rest_of read_from verdict_at fits
voided = refl
