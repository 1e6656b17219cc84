-- What a bit writer over a buffer stands for.
use Rattle.std.specs.Prelude.{◌≡◌, Bool, List, ◌++◌, ℕ, ◌+◌, ◌*◌, ◌^◌, ◌<◌, length, take}
use Rattle.g9932.specs.Bits.{bits}
use Rattle.g9932.specs.Sizes.{unpack, bytes_for, pack}
use Rattle.frame.specs.declared.BitWriter.{BitWriter}

-- only the zeros before the start are put yet, and they wait
abbrev pub empty_writer : ℕ → BitWriter
empty_writer start = record { acc = 0; fill = start; next = 0 }

-- the bits put so far: the whole bytes before next, and the bits that wait
unfoldable pub written : BitWriter → List ℕ → List Bool
written w buffer = unpack (take w.next buffer) ++ bits w.fill w.acc

-- less than a byte waits
pub record Waits (w : BitWriter) : Type 0 where
  pub few : w.fill < 8
  pub small : w.acc < 2 ^ w.fill

-- how many bits are put
abbrev pub bits_put : BitWriter → ℕ
bits_put w = 8 * w.next + w.fill

-- the writer v has put the bits x more than w
pub record Put (w : BitWriter) (before : List ℕ) (x : List Bool) (v : BitWriter) (after : List ℕ) : Type 0 where
  pub holds : written v after ≡ written w before ++ x
  pub waits : Waits v
  pub counted : bits_put v ≡ bits_put w + length x

-- a buffer that begins with the bits of a frame's bytes: of x from a start, zeros around
abbrev pub Framed : ℕ → List Bool → List ℕ → Type 0
Framed start x buffer = unpack (take (bytes_for start (length x)) buffer) ≡ unpack (pack start x)
