-- Document 01, "One pair": mid = 0.5 × (lo + hi), each operation rounded once; a halving moves lo where its test passes at mid, else hi. Definitions only.
use Rattle.std.specs.Prelude.{ℕ, zero, suc, Bool, false, cond, Float}
use Rattle.std.specs.Float.{binary32}
use Rattle.std.specs.Float.Ieee.{round, add, mul}

-- 0.5 × (lo + hi)
unfoldable pub midpoint : Float → Float → Float
midpoint lo hi = mul binary32 (round binary32 false 1 2) (add binary32 lo hi)

-- lo and hi after n halvings by the test ok
unfoldable pub halved : (Float → Bool) → ℕ → Float → Float → Float × Float
halved ok zero lo hi = (lo, hi)
halved ok (suc n) lo hi =
    let mid = midpoint lo hi in
    let passed = ok mid in
    halved ok n (cond passed mid lo) (cond passed hi mid)

-- lo alone
unfoldable pub halve : (Float → Bool) → ℕ → Float → Float → Float
halve ok n lo hi = (halved ok n lo hi).0
