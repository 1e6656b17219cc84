-- The words that the theorems are stated with, besides those of the report itself.
use Rattle.std.specs.Prelude.{ℕ, List, [], ◌∷◌, ◌≡◌, ℤ, get_or}
use Rattle.g9932.specs.Answers.{encode_at, Read, read_at}
use Rattle.g9932.specs.Sizes.{Tables}
use Rattle.guarantees.specs.Words.{turned}
use Rattle.tally.specs.PairReport.{Entry, read_as, refused_with}

-- an entry was read as it was sent
abbrev pub ReadAsSent : Entry → Type 0
ReadAsSent (read_as s r) = r ≡ s
ReadAsSent (refused_with s n) = ⊥

-- every entry of a list is so
abbrev pub Every : (Entry → Type 0) → List Entry → Type 0
Every P [] = Unit {0}
Every P (e ∷ es) = P e × Every P es

-- what reading makes of a written frame f whose points were all turned by half a turn
abbrev pub turned_read : Tables → ℕ → ℕ → List ℤ → List ℤ → List ℕ → List ℕ → Read
turned_read T r start xs ys f₀ f = read_at T (turned (encode_at T start f r xs ys).xs) (turned (encode_at T start f r xs ys).ys) r start f₀

-- entry k, from 0; past the last, one that was read
abbrev pub entry_at : List Entry → ℕ → Entry
entry_at es k = get_or es k (read_as [] [])
