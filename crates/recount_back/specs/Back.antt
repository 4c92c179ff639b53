-- What one record more changes in an answer that was got by looking back. Assumes nothing.
use Rattle.std.specs.Prelude.{◌≡◌, ℕ, zero, suc, ◌^◌, Bool, false, cond, ◌==◌, nat_le, nat_lt, Some, None, Option}
use Rattle.call_types.specs.declared.ReplyKey.{ReplyKey}
use Rattle.history.specs.Counting.{tally, offset}
use Rattle.history.specs.Ledger.{same_key}
use Rattle.recount_seen.specs.declared.Seen.{Seen}
use Rattle.recount_seen.specs.declared.Seen.TheVariants.{Nothing, Probe, Duplicate, Unknown, Known, First, Observed}

-- it is a unique reply with this key
abbrev pub accepts : Seen → ReplyKey → Bool
accepts Nothing k = false
accepts (Probe s) k = false
accepts Duplicate k = false
accepts Unknown k = false
accepts (Known a) k = same_key k a.key
accepts (First a) k = same_key k a.key
accepts (Observed o) k = false

-- it remembers this probe
abbrev pub remembers : Seen → ℕ → Bool
remembers Nothing q = false
remembers (Probe s) q = q == s.sequence
remembers Duplicate q = false
remembers Unknown q = false
remembers (Known a) q = false
remembers (First a) q = q == a.key.sender
remembers (Observed o) q = false

-- this key awaits its observe
abbrev pub awaits : Option ReplyKey → ReplyKey → Bool
awaits None k = false
awaits (Some a) k = same_key k a

-- the same after one record more
abbrev pub awaits_next : Seen → ReplyKey → Bool → Bool
awaits_next Nothing k b = b
awaits_next (Probe s) k b = b
awaits_next Duplicate k b = b
awaits_next Unknown k b = b
awaits_next (Known a) k b = same_key k a.key
awaits_next (First a) k b = same_key k a.key
awaits_next (Observed o) k b = false

-- 0 where the test holds
abbrev pub zero_if : Bool → ℕ → ℕ
zero_if b n = cond b 0 n

-- the replies of the probe q after one record more
abbrev pub replies_next : Seen → ℕ → ℕ → ℕ
replies_next Nothing q n = n
replies_next (Probe s) q n = zero_if (q == s.sequence) n
replies_next Duplicate q n = n
replies_next Unknown q n = n
replies_next (Known a) q n = tally (q == a.key.sender) n
replies_next (First a) q n = tally (q == a.key.sender) (zero_if (q == a.key.sender) n)
replies_next (Observed o) q n = n

-- the highest reflector number, or none
abbrev pub highest_of : Option ℕ → Option ℕ
highest_of None = None
highest_of (Some h) = Some h

-- a step below 2^31 from the highest is a new highest; the first sets it
abbrev pub raised : ℕ → Option ℕ → Option ℕ
raised r None = Some r
raised r (Some h) = cond (nat_lt (offset h r) (2 ^ 31)) (Some r) (Some h)

-- the highest after one record more
abbrev pub highest_next : Seen → Option ℕ → Option ℕ
highest_next Nothing h = h
highest_next (Probe s) h = h
highest_next Duplicate h = h
highest_next Unknown h = h
highest_next (Known a) h = raised a.key.reflector h
highest_next (First a) h = raised a.key.reflector h
highest_next (Observed o) h = h

-- a step of 2^31 or more from the highest
abbrev pub is_behind : ℕ → Option ℕ → Bool
is_behind r None = false
is_behind r (Some h) = nat_le (2 ^ 31) (offset h r)

-- how many of the numbers below n pass a test
abbrev pub counts_to : (ℕ → Bool → Type 0) → ℕ → ℕ → Type 0
counts_to test zero r = r ≡ 0
counts_to test (suc n) r = (b : Bool) × (m : ℕ) × counts_to test n m × test n b × (r ≡ tally b m)

pub record Counted (test : ℕ → Bool → Type 0) (n r : ℕ) : Type 0 where
  pub ran : counts_to test n r
