-- `symbol::encode` meets its contract: refused by the tables or the other inputs, or the symbol written by the plan.
use lib.ListN.{replicate}
use Rattle.symbol.proofs.Answers.{encode_unchanged}
use Rattle.symbol.proofs.PlannedInputs.{labels_fit}
use Rattle.symbol.proofs.WholeSymbol.{symbol_needs, encode_written}
use Rattle.g9932.specs.Answers.{encode_verdict}
use Rattle.symbol.proofs.encode.Goals as goal

pub write_symbol-register-requires : goal.write_symbol-register-requires
write_symbol-register-requires c =
    symbol_needs (replicate 4096 0) (labels_fit c.in-Ok.ensures) c.args.start c.args.register c.in-Ok.ensures

pub returns-in-Err : goal.returns-in-Err
unfolding encode_verdict
returns-in-Err c = encode_unchanged _ _ _ _ _ _ _ c.in-Err.ensures.answer

pub returns-in-Ok : goal.returns-in-Ok
returns-in-Ok c =
    encode_written (replicate 4096 0) (labels_fit c.in-Ok.ensures) c.args.start c.args.register c.in-Ok.ensures c.write_symbol-register.ensures
