-- `passes::read::read_frame` meets its contract: labels that are joined where tones share an entry are the entries' labels.
use Rattle.passes.proofs.ReadPlaces.{join_needs, joined_labels, joined_reads}
use Rattle.passes.proofs.read.read_frame.Goals as goal

pub join_shared-requires : goal.join_shared-requires
join_shared-requires c = join_needs c.requires.4

pub frame_of_labels-requires : goal.frame_of_labels-requires
frame_of_labels-requires c = rw c.join_shared.ensures (joined_labels c.requires.4)

pub returns : goal.returns
returns c =
    let e = rw c.join_shared.ensures at c.frame_of_labels.ensures in
    λ cs d ds layouts w. joined_reads w e
