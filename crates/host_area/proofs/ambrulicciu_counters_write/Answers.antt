use Rattle.area_fields.specs.Fields.{counters_table}
use Rattle.host_area.specs.Calls.{point_from}
use Rattle.host_area.proofs.Answers.{fields_done}
use Rattle.host_area.proofs.ambrulicciu_counters_write.Goals as goal

pub returns : goal.returns
returns c = let a = c.args in fields_done 12 (counters_table (point_from a.sender a.received a.transmitted)) a.bytes.now _ _ _ c.write_counters.ensures c.number_of.ensures
