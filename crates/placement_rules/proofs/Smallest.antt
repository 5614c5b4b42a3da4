-- Req 07, the smallest inputs of docs/DECISIONS.md, computed: the closing gap counts; of one index it is the ring; it is the smallest, and neither the largest nor the closing
-- one; and in a pair those of the last chroma placed and of the floor. Assumes nothing.
use mathlib.Core.Path.{◌≡◌, refl}
use mathlib.Core.List.{[], ◌∷◌}
use Rattle.placement_rules.specs.Gaps.{around, tightest_from, tightest}

pub smallest_inputs : (tightest 3 (0 ∷ 2 ∷ []) ≡ 1) × ((tightest 2 (0 ∷ []) ≡ 2) × ((tightest 3 (0 ∷ 1 ∷ []) ≡ 1) × ((tightest 720 (100 ∷ 460 ∷ []) ≡ 360) × (tightest 720 (0 ∷ 301 ∷ []) ≡ 301))))
unfolding tightest tightest_from around
smallest_inputs = (refl, (refl, (refl, (refl, refl))))
