-- What a host hands over as numbers, and the words that tell it what an accepted reply is. Assumes nothing.
use Rattle.std.specs.Prelude.{cond, List, [], ◌∷◌, ℕ, eqb, Option, Some, None}
use Rattle.call_types.specs.declared.PendingPacket.{PendingPacket}
use Rattle.call_types.specs.declared.Reply.{Reply}
use Rattle.call_types.specs.declared.SentProbe.{SentProbe}
use Rattle.ledger_steps.specs.declared.Accepted.{Accepted}
use Rattle.ledger_steps.specs.declared.Accepted.TheVariants as accepted

-- what `sent` is told: the sequence, its ordinal and train, and the packet's send time and tag
abbrev pub sent_probe_of : (sequence ordinal train time tag : ℕ) → SentProbe
sent_probe_of sequence ordinal train time tag = record { sequence = sequence; ordinal = ordinal; train = train; packet = record { time = time; tag = tag } }

-- there is a pending packet where `held` is not 0
abbrev pub reply_of : (sender reflector t3 held time tag : ℕ) → Reply
reply_of sender reflector t3 held time tag = record {
  key = record { sender = sender; reflector = reflector; t3 = t3 };
  pending = cond (eqb held 0) None (Some (record { time = time; tag = tag }));
}

-- the words of a unique reply: its class, the packet's time and tag, whether there is an ordinal, the ordinal, the train
abbrev pub ordinal_words : PendingPacket → Option ℕ → ℕ → List ℕ
ordinal_words packet None train = 2 ∷ packet.time ∷ packet.tag ∷ 0 ∷ 0 ∷ train ∷ []
ordinal_words packet (Some n) train = 2 ∷ packet.time ∷ packet.tag ∷ 1 ∷ n ∷ train ∷ []

-- class 0 unknown, 1 duplicate, 2 unique; of the first two all else is 0, the train too
abbrev pub accepted_words : Accepted → List ℕ
accepted_words accepted.Duplicate = 1 ∷ 0 ∷ 0 ∷ 0 ∷ 0 ∷ 0 ∷ []
accepted_words accepted.Unknown = 0 ∷ 0 ∷ 0 ∷ 0 ∷ 0 ∷ 0 ∷ []
accepted_words (accepted.Unique packet o train) = ordinal_words packet o train
