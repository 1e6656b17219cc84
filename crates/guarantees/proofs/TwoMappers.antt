-- Two operations that map one label, or read one point, by the same contract: number, place and value tell the answer, so they answer the same.
use Rattle.std.specs.Prelude.{Option, None, Some, Result, Ok, Err}
use Prim.Native.Nat.{ℕ}
use mathlib.Core.List.{List, [], ◌∷◌}
use mathlib.Core.Path.{◌≡◌, refl, sym, ap, ◌∙◌}
use lib.ListN.{get_or}
use Rattle.g9932.specs.Answers.{OneTone, map_label, mapped_of, read_point, labelled_of}
use Rattle.g9932.specs.Refusals.{number_of, place_of}
use Rattle.g9932.specs.Sizes.{Point}
use Rattle.g9932.specs.declared.Point.{Point as Coordinates}
use Rattle.g9932.specs.declared.Refusal.{Refusal}
use Rattle.g9932.specs.declared.Refusal.TheVariants as R

-- ---- a refusal by its number and place; where no refusal has the number, SIZE stands in, and is never asked for

abbrev refusals_at : ℕ → List Refusal
refusals_at k =
    R.Size ∷ R.Size ∷ R.Tone (record { 0 = k }) ∷ R.Twice (record { 0 = k }) ∷ R.Bits (record { 0 = k }) ∷ R.Stray (record { 0 = k }) ∷
    R.Gain (record { 0 = k }) ∷ R.Odd ∷ R.Few ∷ R.Size ∷ R.Room ∷ R.Frame ∷ R.Seed ∷ R.Offgrid (record { 0 = k }) ∷ R.Monitor (record { 0 = k }) ∷
    R.Trellis k ∷ R.Label ∷ R.Size ∷ R.Size ∷ R.Size ∷ R.Size ∷ R.Size ∷ R.Full ∷ R.Range (record { 0 = k }) ∷ []

abbrev refusal_by : ℕ → ℕ → Refusal
refusal_by n k = get_or (refusals_at k) n R.Size

refusal_told : (x : Refusal) → refusal_by (number_of x) (place_of x) ≡ x
refusal_told R.Size = refl
refusal_told (R.Tone p) = refl
refusal_told (R.Twice p) = refl
refusal_told (R.Bits k) = refl
refusal_told (R.Stray k) = refl
refusal_told (R.Gain k) = refl
refusal_told R.Odd = refl
refusal_told R.Few = refl
refusal_told R.Room = refl
refusal_told R.Frame = refl
refusal_told R.Seed = refl
refusal_told (R.Offgrid p) = refl
refusal_told (R.Monitor p) = refl
refusal_told (R.Trellis n) = refl
refusal_told R.Label = refl
refusal_told R.Full = refl
refusal_told (R.Range p) = refl

-- ---- the answer by what it tells

abbrev mapped_by : Option Point → ℕ → ℕ → Result Coordinates Refusal
mapped_by (Some p) n k = Ok (record { x = p.px; y = p.py })
mapped_by None n k = Err (refusal_by n k)

mapped_told : (a : Result Coordinates Refusal) → mapped_by (mapped_of a).value (mapped_of a).number (mapped_of a).place ≡ a
mapped_told (Ok p) = refl
mapped_told (Err x) = ap Err (refusal_told x)

abbrev labelled_by : Option ℕ → ℕ → ℕ → Result ℕ Refusal
labelled_by (Some l) n k = Ok l
labelled_by None n k = Err (refusal_by n k)

labelled_told : (a : Result ℕ Refusal) → labelled_by (labelled_of a).value (labelled_of a).number (labelled_of a).place ≡ a
labelled_told (Ok l) = refl
labelled_told (Err x) = ap Err (refusal_told x)

-- ---- so two that tell the same are the same

pub same_mapped : (b l : ℕ) (one other : Result Coordinates Refusal) → mapped_of one ≡ map_label b l → mapped_of other ≡ map_label b l → one ≡ other
same_mapped b l one other e f =
    sym (mapped_told one) ∙ ap (λ (o : OneTone Point). mapped_by o.value o.number o.place) (e ∙ sym f) ∙ mapped_told other

pub same_labelled : (b : ℕ) (p : Point) (one other : Result ℕ Refusal) → labelled_of one ≡ read_point b p → labelled_of other ≡ read_point b p → one ≡ other
same_labelled b p one other e f =
    sym (labelled_told one) ∙ ap (λ (o : OneTone ℕ). labelled_by o.value o.number o.place) (e ∙ sym f) ∙ labelled_told other
