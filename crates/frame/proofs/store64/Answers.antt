-- `frame::store64` meets its contract: the eight bytes of the word.
use native.Mathlib.Omega.{arith}
use native.Mathlib.Nat.{div-one}
use mathlib.Core.Path.{◌≡◌, refl, ◌∙◌}
use Prim.Native.Nat.{◌+◌}
use lib.ListN.{length}
use Rattle.std.proofs.lemmas.Slice.{take-put_mid}
use Rattle.g9932.specs.Bits.{bits}
use Rattle.g9932.specs.Sizes.{unpack}
use Rattle.g9932.proofs.Packed.{unpack_append}
use Rattle.frame.proofs.Stores.{bytes_bits}
use Rattle.frame.proofs.store64.Goals as goal

pub returns : goal.returns
returns c =
    let a = c.args in
    let eight = c.copy_from_slice.new.self in
    let is = c.copy_from_slice.ensures.after ∙ c.to_le_bytes.ensures in
    let n : length eight ≡ 8 = rw is refl in
    let b : unpack eight ≡ bits 64 a.w = rw is (rw div-one at (bytes_bits 0 8 a.w)) in
    rw (take-put_mid a.i _ a.bytes.now eight (a.i + 8) (omega arith) (omega arith), unpack_append, b) refl
