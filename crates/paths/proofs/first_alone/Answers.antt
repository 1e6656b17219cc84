-- `paths::first_alone` meets its contract, by its test.
use Rattle.paths.proofs.Alone.{alone_true, alone_false}
use Rattle.paths.proofs.first_alone.Goals as goal

pub returns-then-b-a : goal.returns-then-b-a
returns-then-b-a c = alone_true _ _ _ c.from.result c.from-2.result c.requires.0 c.from.ensures c.from-2.ensures c.if-b-a.true

pub returns : goal.returns
returns c = alone_false _ _ _ c.from.result c.from-2.result c.requires.0 c.from.ensures c.from-2.ensures c.if-b-a.false
