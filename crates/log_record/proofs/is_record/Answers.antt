use mathlib.Core.Path.{ap, ◌∙◌}
use Rattle.log_record.specs.Records.{same_bytes}
use Rattle.log_record.proofs.Answers.{over_zeros}
use Rattle.log_record.proofs.is_record.Goals as goal

pub returns : goal.returns
returns c = c.eq.ensures ∙ ap (same_bytes c.args.bytes.now) (c.put_entry.ensures ∙ over_zeros c.args.said)
