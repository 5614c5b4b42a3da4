-- Document 01, "Colour": the conversions over every f32, NaN, infinities and minus zero included. Multiplications and additions run in the
-- order written in the Rust, each rounded once. `lt` and `le` are false where a NaN stands. Definitions only.
use Rattle.std.specs.Prelude.{ℕ, Bool, cond, List, [], ◌∷◌, Float, get_or}
use Rattle.std.specs.Float.{nan, binary32}
use Rattle.std.specs.Float.Ieee.{add, sub, mul, div, lt}
use Rattle.limits.specs.Taken.{f32_of, root_operand_taken}
use Rattle.roots.specs.Roots.{root_of}
use Rattle.srgb.specs.declared.Srgb8.{Srgb8}
use Rattle.srgb.specs.declared.Linear.{Linear}
use Rattle.srgb.specs.Channels.{in_gamut, srgb8_to_linear}
use Rattle.color.specs.declared.Lab.{Lab}
use Rattle.color.specs.Constants.{to_xyz, from_xyz, row, white, delta_cubed, slope, offset, delta}

-- ---- roots: "The conversions refuse nothing", and no negative operand comes here

-- the root of plus infinity is plus infinity, that of NaN is NaN
unfoldable pub root_inside : ℕ → Float → Float
root_inside n x = cond (root_operand_taken x) (root_of n x) x

-- ---- linear light and XYZ

-- the entry i of three; X, Y and Z are the entries 0, 1 and 2
abbrev pub at : List Float → ℕ → Float
at xyz i = get_or xyz i nan

-- three numbers weighted by a row of a matrix
unfoldable pub weigh : List Float → Float → Float → Float → Float
weigh row x y z = add binary32 (add binary32 (mul binary32 (at row 0) x) (mul binary32 (at row 1) y)) (mul binary32 (at row 2) z)

-- "Matrix rows, XYZ from linear"
unfoldable pub linear_to_xyz : Linear → List Float
linear_to_xyz c = weigh (row to_xyz 0) c.r c.g c.b ∷ weigh (row to_xyz 1) c.r c.g c.b ∷ weigh (row to_xyz 2) c.r c.g c.b ∷ []

-- "Back"
unfoldable pub xyz_to_linear : List Float → Linear
xyz_to_linear xyz = record {
  r = weigh (row from_xyz 0) (at xyz 0) (at xyz 1) (at xyz 2);
  g = weigh (row from_xyz 1) (at xyz 0) (at xyz 1) (at xyz 2);
  b = weigh (row from_xyz 2) (at xyz 0) (at xyz 1) (at xyz 2);
}

-- ---- XYZ and CIELAB

-- CIE 15's f: the cube root above (6/29) ^ 3, else t × 841/108 + 4/29
unfoldable pub lab_f : Float → Float
lab_f t = cond (lt delta_cubed t) (root_inside 3 t) (add binary32 (mul binary32 t slope) offset)

-- the other way: the cube above 6/29, else ((3 × δ) × δ) × (t - 4/29)
unfoldable pub lab_fInv : Float → Float
lab_fInv t =
    cond (lt delta t) (mul binary32 (mul binary32 t t) t)
    (mul binary32 (mul binary32 (mul binary32 (f32_of 3) delta) delta) (sub binary32 t offset))

-- f of the entry i over the white point's
unfoldable pub relative : List Float → ℕ → Float
relative xyz i = lab_f (div binary32 (at xyz i) (at white i))

-- 116 × f(Y) - 16, 500 × (f(X) - f(Y)) and 200 × (f(Y) - f(Z))
unfoldable pub xyz_to_lab : List Float → Lab
xyz_to_lab xyz = record {
  l = sub binary32 (mul binary32 (f32_of 116) (relative xyz 1)) (f32_of 16);
  a = mul binary32 (f32_of 500) (sub binary32 (relative xyz 0) (relative xyz 1));
  b = mul binary32 (f32_of 200) (sub binary32 (relative xyz 1) (relative xyz 2));
}

-- (l + 16) / 116
unfoldable pub lightness : Lab → Float
lightness lab = div binary32 (add binary32 lab.l (f32_of 16)) (f32_of 116)

-- f the other way at (l + 16) / 116 + a / 500, at (l + 16) / 116 and at (l + 16) / 116 - b / 200, each times the white point
unfoldable pub lab_to_xyz : Lab → List Float
lab_to_xyz lab =
    mul binary32 (lab_fInv (add binary32 (lightness lab) (div binary32 lab.a (f32_of 500)))) (at white 0)
    ∷ mul binary32 (lab_fInv (lightness lab)) (at white 1)
    ∷ mul binary32 (lab_fInv (sub binary32 (lightness lab) (div binary32 lab.b (f32_of 200)))) (at white 2)
    ∷ []

-- ---- composed
-- through XYZ
unfoldable pub linear_to_lab : Linear → Lab
linear_to_lab c = xyz_to_lab (linear_to_xyz c)

-- through XYZ
unfoldable pub lab_to_linear : Lab → Linear
lab_to_linear lab = xyz_to_linear (lab_to_xyz lab)

-- through linear light
unfoldable pub srgb8_to_lab : Srgb8 → Lab
srgb8_to_lab c = linear_to_lab (srgb8_to_linear c)

-- chroma: the square root of a × a + b × b
unfoldable pub chroma_of : Lab → Float
chroma_of lab = root_inside 2 (add binary32 (mul binary32 lab.a lab.a) (mul binary32 lab.b lab.b))

-- lightness l and chroma c in the direction (cos, sin)
unfoldable pub lch_to_lab : Float → Float → Float → Float → Lab
lch_to_lab l c cos sin = record { l = l; a = mul binary32 c cos; b = mul binary32 c sin }

-- whether the chroma c is in gamut there
unfoldable pub lch_in_gamut : Float → Float → Float → Float → Bool
lch_in_gamut l cos sin c = in_gamut (lab_to_linear (lch_to_lab l c cos sin))
