use Rattle.host_call_words.proofs.Laws.{observation-listed}
use Rattle.host_call_words.proofs.observation_words.Goals as goal

pub returns : goal.returns
returns c =
    observation-listed c.args.o _ _ _ _ _ _ _ _ _ _ _ _ _ _ _ _ _ _ _ _ _ c.time_word-received.ensures c.reference_word-reference.ensures c.follow_timestamp-timestamp.ensures c.low.ensures c.high.ensures c.low-2.ensures c.high-2.ensures c.low-3.ensures c.high-3.ensures c.low-4.ensures c.high-4.ensures c.low-5.ensures c.high-5.ensures c.ordinal_number.ensures c.sender_count.ensures c.received_count.ensures c.transmitted_count.ensures c.follow_sequence.ensures c.offset_word.ensures c.both_wires.ensures c.observe_flags.ensures
