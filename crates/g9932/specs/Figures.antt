-- Document 01, "Bench figures": the marked ones, of the definitions, as one claim. The register of `silent0` is
-- request R-2's, and that of `minus_one15` follows from its rule.
use Rattle.std.specs.Prelude.{ℕ, List, [], ◌∷◌, map, ◌≡◌, ℤ, pos}
use Rattle.g9932.specs.Sizes.{Tables, tables, minus, point}
use Rattle.g9932.specs.Refusals.{accepted, table_verdict}
use Rattle.g9932.specs.Filler.{reset_register}
use Rattle.g9932.specs.Symbol.{reordered_tones_of, reordered_bits_of}
use Rattle.g9932.specs.Answers.{Report, Encoded, encode_at, read_at, tone_done, map_label}
use Rattle.g9932.specs.declared.Mode.TheVariants.{Coded}

-- Bench table A, with a gain for sub-carrier 4
abbrev pub table_a : ℕ → Tables
table_a gain4 =
    tables Coded
    (0 ∷ 0 ∷ 3 ∷ 1 ∷ 0 ∷ 2 ∷ 1 ∷ 4 ∷ [])
    (0 ∷ 0 ∷ 512 ∷ 512 ∷ gain4 ∷ 512 ∷ 512 ∷ 512 ∷ [])
    (7 ∷ 3 ∷ 5 ∷ 2 ∷ 6 ∷ 4 ∷ [])

-- five 2-bit tones
abbrev pub five_tones : Tables
five_tones =
    tables Coded (2 ∷ 2 ∷ 2 ∷ 2 ∷ 2 ∷ []) (512 ∷ 512 ∷ 512 ∷ 512 ∷ 512 ∷ []) (0 ∷ 1 ∷ 2 ∷ 3 ∷ 4 ∷ [])

abbrev pub blank : Tables → List ℤ
blank T = map (λ k. pos 0) T.tones

-- encoding a frame of one byte that starts at its bit 0, from the register at reset, into two lists of as many entries as there are tones
abbrev pub encoding : Tables → ℕ → Encoded
encoding T byte = encode_at T 0 (byte ∷ []) reset_register (blank T) (blank T)

abbrev pub done : ℕ → ℕ → Report
done l r = record { verdict = accepted l; register = r }

-- a coordinate of all loaded points (−1, −1) and the silent one (0, 0), in t' order
abbrev pub all_minus_one : List ℤ
all_minus_one = minus 1 ∷ minus 1 ∷ minus 1 ∷ pos 0 ∷ minus 1 ∷ minus 1 ∷ []

abbrev pub points0 : List ℤ
points0 = pos 1 ∷ pos 1 ∷ pos 1 ∷ minus 1 ∷ pos 1 ∷ pos 1 ∷ []

pub record MarkedFigures : Type 0 where
  pub tones : reordered_tones_of (table_a 512) ≡ 7 ∷ 5 ∷ 2 ∷ 4 ∷ 3 ∷ 6 ∷ []
  pub reordered_bits : reordered_bits_of (table_a 512) ≡ 0 ∷ 0 ∷ 4 ∷ 2 ∷ 3 ∷ 2 ∷ []
  pub size : table_verdict (table_a 512) ≡ accepted 5
  pub byte0 : encoding (table_a 512) 0 ≡ record { report = done 5 2_097_151; xs = points0; ys = points0 }
  pub byte1 :
      ((encoding (table_a 512) 1).xs ≡ pos 3 ∷ minus 1 ∷ pos 1 ∷ minus 1 ∷ pos 1 ∷ pos 1 ∷ []) ×
      ((encoding (table_a 512) 1).ys ≡ pos 3 ∷ minus 1 ∷ pos 1 ∷ minus 1 ∷ pos 1 ∷ pos 1 ∷ [])
  pub minus_one15 : read_at (table_a 0) all_minus_one all_minus_one reset_register 0 (0 ∷ []) ≡ record { report = done 5 2_097_151; frame = 15 ∷ [] }
  pub silent0 : (encoding (table_a 0) 0).report ≡ done 5 2_097_151
  pub five : table_verdict five_tones ≡ accepted 3
  pub five1 :
      ((encoding five_tones 1).xs ≡ minus 1 ∷ minus 1 ∷ minus 1 ∷ minus 1 ∷ minus 1 ∷ []) ×
      ((encoding five_tones 1).ys ≡ minus 1 ∷ pos 1 ∷ pos 1 ∷ pos 1 ∷ pos 1 ∷ [])
  pub label4_9 : map_label 4 9 ≡ tone_done (point (minus 3) (pos 3))
  pub label5_16 : map_label 5 16 ≡ tone_done (point (pos 5) (pos 1))
  pub label5_24 : map_label 5 24 ≡ tone_done (point (minus 3) (pos 5))
  pub label5_31 : map_label 5 31 ≡ tone_done (point (minus 5) (minus 1))
  pub label7_64 : map_label 7 64 ≡ tone_done (point (pos 9) (pos 1))
  pub label7_67 : map_label 7 67 ≡ tone_done (point (pos 11) (pos 3))
  pub label15 : map_label 15 17_407 ≡ tone_done (point (pos 191) (pos 63))
