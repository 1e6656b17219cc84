-- Request R-12: any calls, one after the other, from a new tally on.
use Rattle.std.specs.Prelude.{cond, List, [], ◌∷◌, ◌++◌, eqb}
use Rattle.guarantees.specs.Words.{Bytes}
use Rattle.tally.specs.PairReport.{Entry, read_as, refused_with, tallied, new_tally}
use Rattle.tally.specs.declared.Tally.{Tally}

-- an entry is given, or the tally is reset
pub data Call : Type 0 where
  give : Entry → Call
  reset : Call

-- the tally after a list of calls
unfoldable pub tally_after : Tally → List Call → Tally
tally_after t [] = t
tally_after t (give e ∷ cs) = tally_after (tallied t e).tally cs
tally_after t (reset ∷ cs) = tally_after new_tally cs

-- the entries accepted since the last reset, those that were answered with 0, oldest first; es were accepted before these calls
unfoldable pub accepted_after : Tally → List Entry → List Call → List Entry
accepted_after t es [] = es
accepted_after t es (give e ∷ cs) = accepted_after (tallied t e).tally (cond (eqb (tallied t e).number 0) (es ++ (e ∷ [])) es) cs
accepted_after t es (reset ∷ cs) = accepted_after new_tally [] cs

-- the frames in a list of calls are bytes, which lent frames are by their type
abbrev pub ByteEntry : Entry → Type 0
ByteEntry (read_as s r) = Bytes s × Bytes r
ByteEntry (refused_with s n) = Bytes s

abbrev pub ByteCalls : List Call → Type 0
ByteCalls [] = Unit {0}
ByteCalls (give e ∷ cs) = ByteEntry e × ByteCalls cs
ByteCalls (reset ∷ cs) = ByteCalls cs

-- of any calls from a new tally on
abbrev pub figures_after : List Call → Tally
figures_after cs = tally_after new_tally cs

abbrev pub accepted_in : List Call → List Entry
accepted_in cs = accepted_after new_tally [] cs
