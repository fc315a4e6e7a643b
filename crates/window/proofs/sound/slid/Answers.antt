use Rattle.window.proofs.SlideLaws.{slid_front}
use Rattle.window.proofs.sound.slid.Goals as goal

pub returns : goal.returns
returns c = slid_front c.args.readings.now c.copy_from_slice.new.self c.args.from c.requires.0 c.requires.1 c.copy_from_slice.ensures.after
