-- Document 01's rules for the 96 bytes of a record, one by one ('Log and program'): "Byte 0 kind, 1 flags, 95 is 255-kind, unused and absent fields
-- and flags 0; a breach or other kind is bad (8)." Assumes nothing.
use Rattle.std.specs.Prelude.{◌≡◌, Bool, true, false, ◌&&◌, ◌||◌, cond, List, ℕ, ◌-◌, ◌≤◌, ◌<◌, T, eqb, leb, ltb, length, get_or}
use Rattle.big_endian.specs.Numbers.{number_at}
use Rattle.record_parts.specs.Parts.{flag}

-- every element is a byte
abbrev pub Bytes : List ℕ → Type 0
Bytes r = (i : ℕ) → get_or r i 0 < 256

-- the fields of a kind stand from byte 4 up to this one: sent (with the train of document 02, Q-3, at 28), accept, observe, advance, idle
abbrev pub end_of : ℕ → ℕ
end_of kind = cond (eqb kind 0) 32 (cond (eqb kind 1) 36 (cond (eqb kind 2) 88 (cond (eqb kind 3) 12 4)))

-- the bytes of no field
abbrev pub unused : ℕ → ℕ → Bool
unused kind i = (leb 2 i && ltb i 4) || (leb (end_of kind) i && ltb i 95)

-- "1 accept (.. flag 1 pending: 20 time, 28 tag)": no other flag, and the two are 0 without it
pub record AcceptRules (flags : ℕ) (r : List ℕ) : Type 0 where
  pub Only : flags ≤ 1
  pub time : flag 1 flags ≡ false → number_at 3 r 20 ≡ 0
  pub tag : flag 1 flags ≡ false → number_at 3 r 28 ≡ 0

-- "2 observe (.. 28 T4 flag 1, .. 48 ordinal flag 2, 52 three counters .. flag 4, 64 follow-up sequence and 68 timestamp flag 8, 76 converted T3 flag 16,
-- 84 and 86 .. estimate flag 32; .. 16 and 128 need 8)": each is 0 without its flag
pub record ObserveRules (flags : ℕ) (r : List ℕ) : Type 0 where
  pub t4 : flag 1 flags ≡ false → number_at 3 r 28 ≡ 0
  pub ordinal : flag 2 flags ≡ false → number_at 2 r 48 ≡ 0
  pub sender : flag 4 flags ≡ false → number_at 2 r 52 ≡ 0
  pub received : flag 4 flags ≡ false → number_at 2 r 56 ≡ 0
  pub transmitted : flag 4 flags ≡ false → number_at 2 r 60 ≡ 0
  pub sequence : flag 8 flags ≡ false → number_at 2 r 64 ≡ 0
  pub timestamp : flag 8 flags ≡ false → number_at 3 r 68 ≡ 0
  pub converted : flag 16 flags ≡ false → number_at 3 r 76 ≡ 0
  pub sender_estimate : flag 32 flags ≡ false → number_at 1 r 84 ≡ 0
  pub reflector_estimate : flag 32 flags ≡ false → number_at 1 r 86 ≡ 0
  pub converted_needs : flag 16 flags ≡ true → flag 8 flags ≡ true
  pub unknown_needs : flag 128 flags ≡ true → flag 8 flags ≡ true

-- the rules, of a kind, flags and the bytes
pub record RulesAt (kind flags : ℕ) (r : List ℕ) : Type 0 where
  pub size : length r ≡ 96
  pub known : kind ≤ 4
  pub last : get_or r 95 0 ≡ 255 - kind
  pub none : (kind ≡ 1 → ⊥) → (kind ≡ 2 → ⊥) → flags ≡ 0
  pub accept : kind ≡ 1 → AcceptRules flags r
  pub observe : kind ≡ 2 → ObserveRules flags r
  pub empty : (i : ℕ) → i < 96 → T (unused kind i) → get_or r i 0 ≡ 0

-- "Byte 0 kind, 1 flags"
abbrev pub Rules : List ℕ → Type 0
Rules r = RulesAt (get_or r 0 0) (get_or r 1 0) r
