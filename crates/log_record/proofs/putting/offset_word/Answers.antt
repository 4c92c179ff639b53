use mathlib.Core.Path.{◌∙◌}
use mir.Syntax.{w32}
use Rattle.record_parts.proofs.Signed.{bits_again}
use Rattle.log_record.proofs.putting.offset_word.Goals as goal

pub returns : goal.returns
returns c = c.cast_unsigned.ensures ∙ bits_again w32 c.args.o.offset (record { sfits = c.struct_told-1.given.1.1.1.1.1.0.1 })
