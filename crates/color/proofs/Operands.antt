-- No negative number is ever handed to a root inside a conversion: a sum of two squares has its sign bit clear, and so has what lies above (6/29) ^ 3. Assumes nothing.
use mathlib.Core.Path.{◌≡◌, refl, sym}
use mathlib.Core.Bool.{true, false}
use Prim.Native.Nat.{◌+◌, ◌*◌}
use lib.Ieee.{Float, nan, inf, fin, binary32, up, down, round, sum, add, mul, lt}
use Rattle.limits.specs.Taken.{sign_bit}
use Rattle.limits.proofs.Floats.{never, round_sign}
use Rattle.color.specs.Constants.{delta_cubed}

-- ---- a square
square_clear : (a : Float) → sign_bit (mul binary32 a a) ≡ false
unfolding mul sign_bit
square_clear nan = refl
square_clear (inf true) = refl
square_clear (inf false) = refl
square_clear (fin true m e) = round_sign false (m * up e * (m * up e)) (down e * down e)
square_clear (fin false m e) = round_sign false (m * up e * (m * up e)) (down e * down e)

-- ---- a sum of two values whose sign bits are clear
sum_clear : (x y : Float) → sign_bit x ≡ false → sign_bit y ≡ false → sign_bit (add binary32 x y) ≡ false
unfolding add sum sign_bit
sum_clear nan y p q = refl
sum_clear (inf s) nan p q = refl
sum_clear (inf true) (inf t) p q = never (sym p)
sum_clear (inf false) (inf true) p q = refl
sum_clear (inf false) (inf false) p q = refl
sum_clear (inf s) (fin t n d) p q = p
sum_clear (fin s m e) nan p q = refl
sum_clear (fin s m e) (inf t) p q = q
sum_clear (fin true m e) (fin t n d) p q = never (sym p)
sum_clear (fin false m e) (fin true n d) p q = never (sym q)
sum_clear (fin false m e) (fin false n d) p q = round_sign false (m * up e * down d + n * up d * down e) (down e * down d)

pub chroma_operand : (a b : Float) → sign_bit (add binary32 (mul binary32 a a) (mul binary32 b b)) ≡ false
chroma_operand a b = sum_clear (mul binary32 a a) (mul binary32 b b) (square_clear a) (square_clear b)

pub cube_root_operand : (t : Float) → lt delta_cubed t ≡ true → sign_bit t ≡ false
unfolding delta_cubed round lt sign_bit
cube_root_operand nan h = refl
cube_root_operand (inf true) h = never h
cube_root_operand (inf false) h = refl
cube_root_operand (fin true m e) h = never h
cube_root_operand (fin false m e) h = refl
