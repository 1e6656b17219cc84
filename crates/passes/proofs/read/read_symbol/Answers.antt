-- `passes::read::read_symbol` meets its contract: 13 and 14 by the places, 15 by the pairs, or the frame copied.
use native.Mathlib.Omega.{arith}
use mathlib.Core.Path.{ap}
use Rattle.std.specs.Prelude.{Result, ⊤}
use Prim.Native.Nat.{ℕ}
use Rattle.passes.proofs.SymbolPasses.{place_refused, frame_of, pair_refused, frame_read}
use Rattle.passes.specs.ReadSymbol.{broken_at}
use Rattle.passes.proofs.read.read_symbol.Goals as goal

pub returns-in-Err : goal.returns-in-Err
returns-in-Err c =
    λ T g. place_refused g c.read_places.ensures c.in-Err.is

pub read_frame-requires : goal.read_frame-requires
read_frame-requires c =
    (_, _, _, _, frame_of c.requires.planned c.read_places.ensures c.in-Ok.is)

pub returns-in-Err-read_frame : goal.returns-in-Err-read_frame
returns-in-Err-read_frame c =
    λ T g. pair_refused g c.read_places.ensures c.in-Ok.is c.read_frame.ensures c.in-Err-read_frame.is

pub returns-in-Ok-read_frame : goal.returns-in-Ok-read_frame
returns-in-Ok-read_frame c =
    let bytes = c.slice_known-in-Ok-2-1.given in
    λ T g. frame_read g c.read_places.ensures c.in-Ok.is c.read_frame.ensures c.read_frame.auto.held (ap (λ (r : Result ⊤ ℕ). broken_at r) c.in-Ok-read_frame.is) (λ k i. omega (arith, bytes k)) c.copy.ensures
