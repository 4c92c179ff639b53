use Rattle.direct.proofs.summary.summary_of.Goals as goal

pub returns : goal.returns
returns c = λ i. record {
  counts = c.args.direct.counts;
  anchor = c.anchor_shown.ensures i;
  latest = c.latest_shown.ensures i;
  spans = c.spans_shown.ensures i;
}
