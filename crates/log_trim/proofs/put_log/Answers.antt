use mathlib.Core.Path.{refl}
use Rattle.log_trim.proofs.Laws.{put_is}
use Rattle.log_trim.proofs.put_log.Goals as goal

pub returns : goal.returns
returns c =
    put_is c.args.log.now c.args.room.now c.copy.new.room c.write.new.bytes c.args.count c.args.copies
    c.args.threshold c.args.timeout _ _ c.write.result c.requires.0 c.requires.1 c.requires.2 refl refl c.copy.ensures
    c.write.ensures
