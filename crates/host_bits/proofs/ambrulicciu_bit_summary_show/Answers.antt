use Rattle.host_bits.proofs.Answers.{show-said}
use Rattle.host_bits.proofs.ambrulicciu_bit_summary_show.Goals as goal

pub returns : goal.returns
returns c =
    let a = c.args in
    show-said a.summary.now a.shown.now _ _ _ _ _ _ _ _ _ _ _ _ c.load-state.ensures c.ratios-ratios.ensures c.known.ensures c.unwrap_or.ensures c.known-2.ensures c.ratio_word.ensures c.known-3.ensures c.ratio_word-2.ensures c.known-4.ensures c.ratio_word-3.ensures c.known-5.ensures c.ratio_word-4.ensures
