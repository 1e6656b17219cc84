-- `frame::BitWriter::put` meets its contract: the sum does not wrap, and the stored word is the bits that wait and the new ones.
use Rattle.frame.proofs.Stores.{put_law}
use Rattle.frame.proofs.BitWriter.put.Goals as goal

pub returns : goal.returns
returns c = let a = c.args in
    let q = c.requires in
    rw c.from.ensures (put_law a.self a.n a.value q.0 q.1 q.3 a.bytes.now c.store64.new.bytes q.2 (rw c.from.ensures at c.store64.ensures))
