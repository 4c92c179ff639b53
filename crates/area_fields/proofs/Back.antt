-- What is written reads back equal. Assumes nothing.
use Rattle.std.specs.Prelude.{Ok}
use mathlib.Core.Path.{◌≡◌, refl, sym, ◌∙◌}
use mathlib.Core.List.{List}
use Prim.Native.Nat.{ℕ, ◌<◌}
use lib.ListN.{length}
use Rattle.big_endian.specs.Numbers.{base}
use Rattle.big_endian.specs.Fields.{byte, bytes4, bytes8, written}
use Rattle.big_endian.proofs.Laws.{first, later, field_back, written-length}
use Rattle.call_types.specs.declared.CounterPoint.{CounterPoint}
use Rattle.area_fields.specs.declared.FollowUpItem.{FollowUpItem}
use Rattle.area_fields.specs.Fields.{counters_of, follow_up_of, counters_table, follow_up_table}
use Rattle.area_fields.proofs.Laws.{counters_there, follow_up_there}

-- three counters of 32 bits, written over 12 bytes, are what those bytes then say
pub counters-back : (bytes : List ℕ) (p : CounterPoint) → length bytes ≡ 12 → p.sender.0 < base 2 → p.received.0 < base 2 → p.transmitted.0 < base 2
    → counters_of (written (counters_table p) bytes) ≡ Ok p
counters-back bytes p h a b d =
    let t = counters_table p in
    let s = field_back 12 t bytes (bytes4 0 p.sender.0) h tt (first refl) a in
    let r = field_back 12 t bytes (bytes4 4 p.received.0) h tt (later (first refl)) b in
    let x = field_back 12 t bytes (bytes4 8 p.transmitted.0) h tt (later (later (first refl))) d in
    sym (counters_there (written t bytes) p (written-length t bytes ∙ h) (sym (λ i. record { sender = record { 0 = s i }; received = record { 0 = r i }; transmitted = record { 0 = x i } })))

-- a follow-up, written over 16 bytes, is what those bytes then say
pub follow_up_back : (bytes : List ℕ) (f : FollowUpItem) → length bytes ≡ 16 → f.sequence < base 2 → f.timestamp < base 3 → f.mode < base 0
    → follow_up_of (written (follow_up_table f) bytes) ≡ Ok f
follow_up_back bytes f h a b d =
    let t = follow_up_table f in
    let s = field_back 16 t bytes (bytes4 0 f.sequence) h tt (first refl) a in
    let r = field_back 16 t bytes (bytes8 4 f.timestamp) h tt (later (first refl)) b in
    let x = field_back 16 t bytes (byte 12 f.mode) h tt (later (later (first refl))) d in
    sym (follow_up_there (written t bytes) f (written-length t bytes ∙ h) (sym (λ i. record { sequence = s i; timestamp = r i; mode = x i })))
