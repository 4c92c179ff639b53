use Rattle.std.proofs.Common.{length}
use Rattle.monitor.proofs.Popping.{held, below, rests, advances}
use Rattle.monitor.proofs.Monitor.advance_if.Goals as goal

pub look-count-requires : goal.look-count-requires
look-count-requires c = held c.args.go c.args.self (length c.args.queue.now) c.serves-serves.result c.ring_if-ring.result c.serves-serves.ensures c.ring_if-ring.ensures

pub ring_after-rest-requires : goal.ring_after-rest-requires
ring_after-rest-requires c = (
  held c.args.go c.args.self (length c.args.queue.now) c.serves-serves.result c.ring_if-ring.result c.serves-serves.ensures c.ring_if-ring.ensures,
  below _ c.args.queue.now c.ring_if-ring.result c.look-count.result c.look-count.ensures,
)

pub pop-requires : goal.pop-requires
pop-requires c =
    rests c.args.go c.args.self (length c.args.queue.now) c.serves-serves.result c.ring_if-ring.result c.look-count.result c.ring_after-rest.result c.repeats-again.result c.serves-serves.ensures c.ring_if-ring.ensures
    (below _ c.args.queue.now c.ring_if-ring.result c.look-count.result c.look-count.ensures) c.ring_after-rest.ensures c.repeats-again.ensures

pub returns : goal.returns
returns c =
    advances c.args.go c.args.self c.args.queue.now c.args.time c.serves-serves.result c.ring_if-ring.result c.look-count.result c.ring_after-rest.result c.repeats-again.result c.pop.new.queue c.advanced.result
    c.serves-serves.ensures c.ring_if-ring.ensures c.look-count.ensures c.ring_after-rest.ensures c.repeats-again.ensures c.pop.ensures c.advanced.ensures
