use mathlib.Core.Path.{ap, ◌∙◌}
use Prim.Native.Nat.{◌+◌, ◌*◌}
use Rattle.record_parts.specs.Parts.{observe_flags, flag_of}
use Rattle.record_parts.proofs.observe_flags.Goals as goal

pub returns : goal.returns
unfolding observe_flags
returns c = λ i.
    c.flag_of.ensures.value i + 2 * c.flag_of-2.ensures.value i + 4 * c.flag_of-3.ensures.value i + 8 * c.flag_of-4.ensures.value i
    + 16 * (c.flag_of-5.ensures.value ∙ ap flag_of c.follow_time-t3.ensures) i + 32 * c.flag_of-6.ensures.value i
    + 64 * c.format_flag.ensures.0 i + 128 * c.unknown_flag.ensures.0 i
