-- A turned symbol that is read is read wrong: the two frames are accepted, so they have the same length, and they differ.
use Rattle.std.specs.Prelude.{None}
use Prim.Native.Nat.{ℕ, ◌%◌}
use mathlib.Core.Bool.{true}
use mathlib.Core.List.{List}
use mathlib.Core.Path.{◌≡◌, sym, ◌∙◌}
use lib.IntN.{ℤ}
use Rattle.g9932.specs.Sizes.{Tables}
use Rattle.g9932.specs.Symbol.{size_of, first_monitored}
use Rattle.g9932.specs.declared.Mode.TheVariants.{Coded}
use Rattle.g9932.proofs.Packed.{frame_length_lem}
use Rattle.guarantees.specs.Words.{AcceptedFrame, Ready, non_zero}
use Rattle.guarantees.proofs.Guarantees.{half-turn}
use Rattle.tally.specs.PairReport.{read_as, is_wrong}
use Rattle.tally.specs.Words.{turned_read}
use Rattle.tally.proofs.WrongBits.{wrong_frame}

pub turned_wrong : (T : Tables) (r start : ℕ) (xs ys : List ℤ) (f₀ : List ℕ) → Ready T r start xs ys f₀ → T.mode ≡ Coded
    → first_monitored T ≡ None → non_zero T % 2 ≡ 0 → (f : List ℕ) → AcceptedFrame T start f
    → ((turned_read T r start xs ys f₀ f).report.verdict.number ≡ 0) × (is_wrong (read_as f (turned_read T r start xs ys f₀ f).frame) ≡ true)
turned_wrong T r start xs ys f₀ ready coded none even f ok =
    let h = (half-turn T r start xs ys f₀ ready coded f ok).1 (none, even) in
    let g = (turned_read T r start xs ys f₀ f).frame in
    let l = frame_length_lem start (size_of T) f ok.passes ∙ sym (frame_length_lem start (size_of T) g h.1.passes) in
    (h.0, (wrong_frame f g l).1 h.2)
