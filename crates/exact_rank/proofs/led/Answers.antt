use Rattle.std.proofs.Common.{◌-◌, refl, arith}
use Rattle.exact_rank.proofs.Leading.{led-start, led-fits, led_to}
use Rattle.exact_rank.proofs.led.Goals as goal

pub start_of-start-requires : goal.start_of-start-requires
start_of-start-requires c = (
  c.requires.0,
  omega (
    arith,
    led-start c.args.counts.now c.args.low c.args.high c.args.shift c.args.search c.requires.1
        c.place_of-place.result.digit c.place_of-place.result.left c.place_of-place.ensures,
    c.ranges.high.fits,
  ),
)

pub end_of-requires : goal.end_of-requires
end_of-requires c = (
  c.requires.0,
  omega (
    arith,
    c.start_of-start.ensures,
    led-start c.args.counts.now c.args.low c.args.high c.args.shift c.args.search c.requires.1
        c.place_of-place.result.digit c.place_of-place.result.left c.place_of-place.ensures,
  ),
)

pub overflow_add-result : goal.overflow_add-result
overflow_add-result c =
    omega (
      arith,
      led-fits c.args.counts.now c.args.low c.args.high c.args.shift c.args.search c.requires.1
          c.place_of-place.result.digit c.place_of-place.result.left c.place_of-place.ensures,
    )

pub returns : goal.returns
returns c =
    led_to c.args.counts.now c.args.low c.args.high c.args.shift c.args.search c.requires.1
    c.place_of-place.result.digit c.place_of-place.result.left c.place_of-place.ensures
    _ c.start_of-start.ensures c.end_of.ensures refl refl refl
