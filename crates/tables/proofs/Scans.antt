-- Laws of `any_below`: how a scan begins, goes on and ends, and that where it finds none a search finds nothing.
use Rattle.std.specs.Prelude.{None}
use Prim.Native.Nat.{ℕ, zero, suc, ◌+◌, ◌≤◌}
use mathlib.Core.Bool.{Bool, false, ◌||◌}
use mathlib.Core.Path.{◌≡◌, refl, ap, ap₂, sym, ◌∙◌}
use native.Mathlib.Numerals.{add-one}
use native.Mathlib.Omega.{arith}
use Rattle.g9932.specs.Bits.{first}
use Rattle.g9932.proofs.Identities.{or-false}
use Rattle.tables.specs.Checks.{any_below}

module _ (p : ℕ → Bool) where
  pub any_none : false ≡ any_below p 0
  unfolding any_below
  any_none = refl

  pub any_more : (i : ℕ) {a r : Bool} → a ≡ any_below p i → p i ≡ r → a || r ≡ any_below p (i + 1)
  unfolding any_below
  any_more i e q = rw add-one (ap₂ ◌||◌ e (sym q))

  pub any_end : (i n : ℕ) {a : Bool} → a ≡ any_below p i → i ≤ n → n ≤ i → a ≡ any_below p n
  any_end i n e h k = let s : i ≡ n = omega arith in e ∙ ap (any_below p) s

  pub any_nothing : (n : ℕ) → any_below p n ≡ false → first p n ≡ None
  unfolding any_below first
  any_nothing zero e = refl
  any_nothing (suc n) e = let w = or-false (any_below p n) (p n) e in rw (any_nothing n w.0, w.1)
