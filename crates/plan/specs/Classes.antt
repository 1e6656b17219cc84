-- Lists that are a plan of the classes of a symbol's tones, in t' order.
use Rattle.std.specs.Prelude.{ℕ, ◌*◌, ◌≤◌, ◌<◌, List, ◌++◌, map, ◌≡◌, leb, length, get_or, replicate}
use Rattle.constellation.specs.Layouts.{class_layout}
use Rattle.g9932.specs.Order.{filter}
use Rattle.g9932.specs.Sizes.{entry}
use Rattle.g9932.specs.Symbol.{load}
use Rattle.g9932.specs.declared.Class.{Class}
use Rattle.g9932.specs.declared.Class.TheVariants.{Data, Silent}
use Rattle.plan.specs.Plan.{ClassBits, is_drawing, places_where, every_second}

-- The tones before place `from` have entries of their own, from `least` bits on, and none of them has fewer but 0; from there on two by
-- two share one.
pub record PlanOf (cs : List Class) (from : ℕ) (es ps ds layouts : List ℕ) : Type 0 where
  pub own : List Class
  pub shared_count : ℕ
  pub least : ℕ
  pub classes : cs ≡ own ++ replicate (2 * shared_count) (Data 1)
  pub from_is : from ≡ length own
  pub least_is : 1 ≤ least
  pub own_bits : (k : ℕ) → entry (map load own) k < least → entry (map load own) k ≡ 0
  pub carries : (k : ℕ) → k < length cs → ClassBits (get_or cs k Silent)
  pub entries_are : es ≡ filter (leb least) (map load own) ++ replicate shared_count 2
  pub places_are : ps ≡ places_where (leb least) 0 (map load own) ++ every_second from shared_count
  pub drawing_are : ds ≡ places_where is_drawing 0 cs
  pub layouts_are : layouts ≡ map class_layout cs
