use mathlib.Core.Path.{sym, ap, ◌∙◌, subst}
use Rattle.host_quality.specs.Words.{error_bits, estimate_word, last_word, last_bits, LastKept}
use Rattle.host_quality.proofs.Back.{last_again}
use Rattle.host_quality.proofs.last_words.Goals as goal

pub returns-in-Some : goal.returns-in-Some
returns-in-Some c =
    let e = c.in-Some.is in
    let word = c.estimate_word.ensures in (
      word.0 ∙ sym (ap last_word e),
      c.error_bits.ensures.0 ∙ sym (ap last_bits e),
      subst LastKept (sym e) (last_again _ word.1 word.2 c.error_bits.ensures.1),
    )
