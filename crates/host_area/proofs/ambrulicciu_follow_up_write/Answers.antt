use Rattle.area_fields.specs.Fields.{follow_up_table}
use Rattle.host_area.specs.Calls.{item_from}
use Rattle.host_area.proofs.Answers.{fields_done}
use Rattle.host_area.proofs.ambrulicciu_follow_up_write.Goals as goal

pub returns : goal.returns
returns c = let a = c.args in fields_done 16 (follow_up_table (item_from a.sequence a.timestamp a.mode)) a.bytes.now _ _ _ c.write_follow_up.ensures c.number_of.ensures
