use Rattle.olc_scan.proofs.Bounds.{last_is}
use Rattle.olc_scan.proofs.course.last_key.Goals as goal

pub returns : goal.returns
returns c = last_is c.from_be_bytes.result c.args.prefix.now c.copy_from_slice.new.self c.args.byte c.requires c.copy_from_slice.ensures.after c.from_be_bytes.ensures
