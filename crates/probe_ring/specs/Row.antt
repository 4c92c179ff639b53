-- A held probe, and the four words of its row: sequence, replies and whether it has an ordinal; ordinal and train; the packet's two words.
-- Assumes nothing.
use Rattle.std.specs.Prelude.{Bool, cond, List, [], ◌∷◌, ℕ, ◌+◌, ◌*◌, ◌/◌, ◌%◌, ◌^◌, ◌<◌, eqb, ltb, get_or, Option, Some, None}
use Rattle.call_types.specs.declared.PendingPacket.{PendingPacket}
use Rattle.probe_ring.specs.declared.HeldProbe.{HeldProbe}

-- the most replies that a probe counts: beyond it the count stays
abbrev pub most_replies : ℕ
most_replies = 65535

-- a probe just remembered: unanswered, with no replies; "0 means no train" (document 02, Q-3)
abbrev pub unanswered : ℕ → PendingPacket → Option ℕ → ℕ → HeldProbe
unanswered s p o t = record { sequence = s; replies = 0; ordinal = o; train = t; packet = p }

-- a pending packet replaces the stored one
abbrev pub packet_after : Option PendingPacket → PendingPacket → PendingPacket
packet_after None p = p
packet_after (Some q) p = q

-- one reply more, up to the most
unfoldable pub one_more : ℕ → ℕ
one_more replies = cond (ltb replies most_replies) (replies + 1) replies

-- a probe after one more reply; its train stays
unfoldable pub after_reply : Option PendingPacket → HeldProbe → HeldProbe
after_reply pending p = record {
  sequence = p.sequence;
  replies = one_more p.replies;
  ordinal = p.ordinal;
  train = p.train;
  packet = packet_after pending p.packet;
}

-- a probe is answered once it has a reply
abbrev pub is_answered : HeldProbe → Bool
is_answered p = ltb 0 p.replies

-- ---- the words of a row

-- whether there is an ordinal, as a number
abbrev pub known_of : Option ℕ → ℕ
known_of None = 0
known_of (Some n) = 1

-- the ordinal, 0 for none
abbrev pub number_of : Option ℕ → ℕ
number_of None = 0
number_of (Some n) = n

-- both numbers as an ordinal
unfoldable pub ordinal_of : ℕ → ℕ → Option ℕ
ordinal_of known number = cond (eqb known 0) None (Some number)

-- the row of a probe
unfoldable pub words_of : HeldProbe → List ℕ
words_of p =
    (p.sequence + (p.replies + known_of p.ordinal * 2 ^ 16) * 2 ^ 32) ∷ (number_of p.ordinal + p.train * 2 ^ 32) ∷ p.packet.time
    ∷ p.packet.tag ∷ []

-- the sequence of a row
abbrev pub sequence_of : List ℕ → ℕ
sequence_of row = get_or row 0 0 % 2 ^ 32

-- the replies of a row
abbrev pub replies_of : List ℕ → ℕ
replies_of row = get_or row 0 0 / 2 ^ 32 % 2 ^ 16

-- a row as a probe, whatever its words
unfoldable pub held_probe_of : List ℕ → HeldProbe
held_probe_of row = record {
  sequence = sequence_of row;
  replies = replies_of row;
  ordinal = ordinal_of (get_or row 0 0 / 2 ^ 32 / 2 ^ 16) (get_or row 1 0 % 2 ^ 32);
  train = get_or row 1 0 / 2 ^ 32 % 2 ^ 32;
  packet = record { time = get_or row 2 0; tag = get_or row 3 0 };
}

-- ---- what the types of a probe's fields say

-- a u32, where there is one
abbrev pub OrdinalFits : Option ℕ → Type 0
OrdinalFits None = Unit
OrdinalFits (Some n) = n < 2 ^ 32

-- sequence u32, replies u16, ordinal u32, train u32; the words of the packet may be any
pub record ProbeFits (p : HeldProbe) : Type 0 where
  pub sequence_in : p.sequence < 2 ^ 32
  pub replies_in : p.replies < 2 ^ 16
  pub ordinal_in : OrdinalFits p.ordinal
  pub train_in : p.train < 2 ^ 32
