use mathlib.Core.Path.{refl, ◌∙◌}
use Rattle.correlation.proofs.Joins.{words_bare, words-kept, bits_again}
use borrow.Author.Rules.{rules}
use Rattle.correlation.proofs.Slot.words.Goals as goal

pub returns-in-None : goal.returns-in-None
returns-in-None c = words_bare _ _ _ c.in-None.is c.slot_flags-own.ensures.0 c.joined_word.ensures

pub returns-in-Some : goal.returns-in-Some
returns-in-Some c =
    words-kept c.args.self _ _ _ _ _ _ _ _
    c.in-Some.is
    c.slot_flags-own.ensures.0
    c.record_flags.ensures.0
    c.sender_wire-sender.ensures
    c.reflector_wire-reflector.ensures
    c.joined_word-word.ensures
    c.time_word.ensures
    (c.cast_unsigned.ensures ∙ bits_again c.in-Some.reply.reference (search rules))
