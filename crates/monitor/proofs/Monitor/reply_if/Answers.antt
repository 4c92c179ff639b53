use Rattle.std.proofs.Common.{length}
use Rattle.monitor.proofs.Replying.{held, nears, searches, within, takes, rests, replies}
use Rattle.monitor.proofs.Monitor.reply_if.Goals as goal

pub look-below-requires : goal.look-below-requires
look-below-requires c = nears c.args.go c.args.self (length c.args.queue.now) c.hears-heard.result c.ring_if-ring.result c.near-near.result c.hears-heard.ensures c.ring_if-ring.ensures c.near-near.ensures

pub search-search-requires : goal.search-search-requires
search-search-requires c =
    within c.args.queue.now c.near-near.result _ c.look-below.result
    (nears c.args.go c.args.self (length c.args.queue.now) c.hears-heard.result c.ring_if-ring.result c.near-near.result c.hears-heard.ensures c.ring_if-ring.ensures c.near-near.ensures) c.look-below.ensures

pub look-first-requires : goal.look-first-requires
look-first-requires c =
    searches c.args.go c.args.self (length c.args.queue.now) c.hears-heard.result c.ring_if-ring.result c.look-below.result c.search-search.result c.hears-heard.ensures c.ring_if-ring.ensures c.search-search.ensures

pub look-marked-requires : goal.look-marked-requires
look-marked-requires c =
    searches c.args.go c.args.self (length c.args.queue.now) c.hears-heard.result c.ring_if-ring.result c.look-below.result c.search-search.result c.hears-heard.ensures c.ring_if-ring.ensures c.search-search.ensures

pub taken-count-requires : goal.taken-count-requires
taken-count-requires c =
    within c.args.queue.now c.search-search.result _ c.look-first.result
    (searches c.args.go c.args.self (length c.args.queue.now) c.hears-heard.result c.ring_if-ring.result c.look-below.result c.search-search.result c.hears-heard.ensures c.ring_if-ring.ensures c.search-search.ensures)
    c.look-first.ensures

pub ring_after-rest-requires : goal.ring_after-rest-requires
ring_after-rest-requires c = (
  held c.args.go c.args.self (length c.args.queue.now) c.hears-heard.result c.ring_if-ring.result c.hears-heard.ensures c.ring_if-ring.ensures,
  takes c.args.self c.args.queue.now c.args.sequence c.ring_if-ring.result c.look-below.result c.search-search.result c.look-first.result c.look-marked.result c.taken-count.result
      c.search-search.ensures c.look-first.ensures c.look-marked.ensures c.taken-count.ensures,
)

pub pop-requires : goal.pop-requires
pop-requires c =
    rests c.args.go c.args.self (length c.args.queue.now) c.hears-heard.result c.ring_if-ring.result c.taken-count.result c.ring_after-rest.result c.repeats-again.result c.hears-heard.ensures c.ring_if-ring.ensures
    (takes c.args.self c.args.queue.now c.args.sequence c.ring_if-ring.result c.look-below.result c.search-search.result c.look-first.result c.look-marked.result c.taken-count.result
    c.search-search.ensures c.look-first.ensures c.look-marked.ensures c.taken-count.ensures)
    c.ring_after-rest.ensures c.repeats-again.ensures

pub returns : goal.returns
returns c =
    replies c.args.go c.args.self c.args.queue.now c.args.sequence c.hears-heard.result c.ring_if-ring.result c.near-near.result c.look-below.result c.search-search.result c.look-first.result c.look-marked.result
    c.taken-count.result c.ring_after-rest.result c.repeats-again.result c.pop.new.queue c.replied.result
    c.hears-heard.ensures c.ring_if-ring.ensures c.near-near.ensures c.look-below.ensures c.search-search.ensures c.look-first.ensures c.look-marked.ensures
    c.taken-count.ensures c.ring_after-rest.ensures c.repeats-again.ensures c.pop.ensures c.replied.ensures
