-- Costs by place: four lists, one for each coset.
use Rattle.std.specs.Prelude.{ℕ, ◌≤◌, ◌≡◌, replicate}
use Rattle.cosets.specs.declared.Costs.{Costs}
use Rattle.g9932.specs.Sizes.{entry, most_tones}
use Rattle.decisions.specs.declared.cost_lists.CostLists.{CostLists}

abbrev pub costs_of : CostLists → ℕ → Costs
costs_of ks i = record { c0 = entry ks.c0 i; c1 = entry ks.c1 i; c2 = entry ks.c2 i; c3 = entry ks.c3 i }

-- no cost stands there yet
pub record EmptyCosts (ks : CostLists) : Type 0 where
  pub c0_is : ks.c0 ≡ replicate most_tones 0
  pub c1_is : ks.c1 ≡ replicate most_tones 0
  pub c2_is : ks.c2 ≡ replicate most_tones 0
  pub c3_is : ks.c3 ≡ replicate most_tones 0

-- the costs from place n on stay
abbrev pub KeptFrom : CostLists → ℕ → CostLists → Type 0
KeptFrom ks n after = (i : ℕ) → n ≤ i → costs_of after i ≡ costs_of ks i

-- the costs of place i are put, and no others change
pub record PutsCosts (ks : CostLists) (i : ℕ) (r : Costs) (after : CostLists) : Type 0 where
  pub here : costs_of after i ≡ r
  pub others : (j : ℕ) → (j ≡ i → ⊥) → costs_of after j ≡ costs_of ks j

-- the cost c is put at place i over that of the first coset, and no other place changes
pub record PutsLeast (ks : CostLists) (i c : ℕ) (after : CostLists) : Type 0 where
  pub here : entry after.c0 i ≡ c
  pub others : (j : ℕ) → (j ≡ i → ⊥) → costs_of after j ≡ costs_of ks j

-- the costs of the cosets but the first stay
pub record CosetsKept (ks after : CostLists) : Type 0 where
  pub c1_is : after.c1 ≡ ks.c1
  pub c2_is : after.c2 ≡ ks.c2
  pub c3_is : after.c3 ≡ ks.c3
