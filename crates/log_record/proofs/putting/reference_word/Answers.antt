use mathlib.Core.Path.{◌∙◌}
use Rattle.record_parts.proofs.Signed.{bits_again}
use mir.Syntax.{w64}
use Rattle.log_record.proofs.putting.reference_word.Goals as goal

pub returns : goal.returns
returns c = c.cast_unsigned.ensures ∙ bits_again w64 c.args.o.reference (record { sfits = c.struct_told-1.given.1.1.1.1.0.1 })
