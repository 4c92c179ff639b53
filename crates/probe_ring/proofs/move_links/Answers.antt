use mathlib.Core.Path.{◌∙◌}
use lib.ListN.{length-set}
use Rattle.probe_ring.specs.Rooms.{move_link, mended_link}
use Rattle.probe_ring.proofs.Moved.{moved_straight, moved-around}
use borrow.Author.Rules.{rules}
use Rattle.probe_ring.proofs.move_links.Goals as goal

pub returns-then-end-lt-CAPACITY : goal.returns-then-end-lt-CAPACITY
returns-then-end-lt-CAPACITY c = moved_straight 4096 (move_link (mended_link 4096 c.args.lift c.args.gone c.args.own)) _ _ _ _ c.slide_links.ensures

pub slide_links-requires-3 : goal.slide_links-requires-3
slide_links-requires-3 c = (length-set c.slide_links-2.new.links 4095 _ ∙ c.slide_links-2.auto.links ∙ search rules, search rules, search rules, search rules)

pub shape_of-links : goal.shape_of-links
shape_of-links c = c.slide_links-3.auto.links ∙ length-set c.slide_links-2.new.links 4095 _ ∙ c.slide_links-2.auto.links

pub returns : goal.returns
returns c = moved-around 4096 (move_link (mended_link 4096 c.args.lift c.args.gone c.args.own)) _ _ _ c.slide_links-2.new.links _ (search rules) c.if-end-lt-CAPACITY.false c.slide_links-2.ensures (rw c.mended.ensures at c.slide_links-3.ensures)
