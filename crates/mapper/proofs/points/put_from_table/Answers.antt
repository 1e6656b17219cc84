-- `mapper::points::put_from_table` meets its contract: the entries are found, looked up and put.
use mathlib.Core.Path.{◌∙◌, sym}
use Rattle.mapper.proofs.BlockLoops.{find_needs, from_table}
use Rattle.mapper.proofs.points.put_from_table.Goals as goal

pub find_entries-requires : goal.find_entries-requires
find_entries-requires c = find_needs c.requires

pub returns : goal.returns
returns c =
    let m = c.find_entries.auto.entries in
    let n = c.look_up.auto.entries in
    let k = c.put_stored.auto.xs in
    from_table c.requires.stored (m ∙ c.requires.entries_length ∙ sym k) (n ∙ m ∙ c.requires.entries_length ∙ sym k) c.find_entries.ensures c.look_up.ensures c.put_stored.ensures
