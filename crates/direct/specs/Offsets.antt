-- Offsets of counters from an anchor's (document 01, 'Direct loss': "Offsets are modulo 2^32"). Each counter is measured from its like.
use Rattle.std.specs.Prelude.{ℕ, ◌+◌, ◌-◌, ◌%◌, ◌^◌, Bool, ◌||◌, nat_le}
use Rattle.call_types.specs.declared.CounterPoint.{CounterPoint}

-- how far b is from a, modulo 2^32
unfoldable pub offset : ℕ → ℕ → ℕ
offset a b = (b + 2 ^ 32 - a) % 2 ^ 32

-- of S_TxC: the second counters' offset from the first, the anchor's
abbrev pub sender_offset : CounterPoint → CounterPoint → ℕ
sender_offset a c = offset a.sender.0 c.sender.0

-- of R_RxC, likewise
abbrev pub received_offset : CounterPoint → CounterPoint → ℕ
received_offset a c = offset a.received.0 c.received.0

-- of R_TxC, likewise: of the three the one that is remembered as seen
abbrev pub transmit_offset : CounterPoint → CounterPoint → ℕ
transmit_offset a c = offset a.transmitted.0 c.transmitted.0

-- an offset of 2^31 or more is a step back
abbrev pub back : ℕ → Bool
back o = nat_le (2 ^ 31) o

-- "Any at 2^31 or more"
abbrev pub jumps : CounterPoint → CounterPoint → Bool
jumps a c = back (transmit_offset a c) || back (sender_offset a c) || back (received_offset a c)
