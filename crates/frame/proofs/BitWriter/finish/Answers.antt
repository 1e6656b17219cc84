-- `frame::BitWriter::finish` meets its contract: the last byte holds the bits that wait, and zeros.
use Rattle.frame.proofs.Stores.{finish_law}
use Rattle.frame.proofs.BitWriter.finish.Goals as goal

pub returns : goal.returns
returns c = finish_law c.args.self c.args.bytes.now c.requires.0 c.requires.1
