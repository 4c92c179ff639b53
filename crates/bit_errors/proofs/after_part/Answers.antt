use mathlib.Core.Path.{sym, ap, ◌∙◌, subst}
use Prim.Native.Nat.{◌-◌, ◌*◌, ◌%◌}
use native.Mathlib.Omega.{arith}
use lib.ListN.{length, take, drop}
use Rattle.bit_runs.specs.Bits.{all_bits}
use Rattle.bit_runs.specs.Tally.{after, Room}
use Rattle.bit_errors.specs.Parts.{differing}
use Rattle.bit_errors.proofs.Parts.{room_less, rest_fits, rest_room, rest_after}
use Rattle.bit_errors.proofs.after_part.Goals as goal

pub after_words-u-requires : goal.after_words-u-requires
after_words-u-requires c =
    let end = length c.args.padding.now - length c.args.padding.now % 8 in
    (omega arith, omega arith, c.requires.0, room_less (8 * end) (8 * length c.args.padding.now) c.args.t (omega arith) c.requires.1)

pub after_bytes-requires : goal.after_bytes-requires
after_bytes-requires c =
    let end = length c.args.padding.now - length c.args.padding.now % 8 in (
      rest_fits c.args.padding.now c.args.pattern.now c.args.t end c.requires.0 (omega arith),
      subst (Room (8 * length (take (length c.args.padding.now - end) (drop end c.args.padding.now)))) (sym c.after_words-u.ensures)
          (rest_room c.args.padding.now c.args.pattern.now c.args.t end c.requires.0 (omega arith) c.requires.1),
    )

pub returns : goal.returns
returns c =
    let p = c.args.padding.now in
    let q = c.args.pattern.now in
    let end = length p - length p % 8 in
    c.after_bytes.ensures
    ∙ ap (after (all_bits (differing (take (length p - end) (drop end p)) (take (length q - end) (drop end q))))) c.after_words-u.ensures
    ∙ rest_after p q c.args.t end c.requires.0 (omega arith)
