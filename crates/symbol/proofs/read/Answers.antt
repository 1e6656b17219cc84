-- `symbol::read` meets its contract: refused by the tables or the other inputs, or the symbol read by the plan.
use mathlib.Core.Path.{refl}
use lib.ListN.{replicate}
use Rattle.symbol.proofs.Answers.{read_unchanged}
use Rattle.symbol.proofs.PlannedInputs.{labels_fit}
use Rattle.symbol.proofs.WholeSymbol.{read_needs, read_done}
use Rattle.symbol.proofs.read.Goals as goal

pub read_symbol-requires : goal.read_symbol-requires
read_symbol-requires c =
    read_needs (replicate 4096 0) (labels_fit c.in-Ok.ensures) c.args.register c.args.start refl c.in-Ok.ensures

pub returns-in-Err : goal.returns-in-Err
returns-in-Err c = read_unchanged _ _ _ _ _ _ _ c.in-Err.ensures.answer

pub returns-in-Ok : goal.returns-in-Ok
returns-in-Ok c =
    read_done (replicate 4096 0) (labels_fit c.in-Ok.ensures) c.args.register c.args.start refl c.in-Ok.ensures c.read_symbol.ensures
