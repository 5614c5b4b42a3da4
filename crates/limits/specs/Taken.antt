-- Document 01, "What a call can hand back": which value of each kind is taken. Definitions only, over every f32:
-- `lt` is false where one side is a NaN, and minus zero is not below zero but has its sign bit set.
use Rattle.std.specs.Prelude.{ℕ, Bool, true, false, not, ◌&&◌, ◌||◌, List, [], ◌∷◌, pos, negsuc, leb, eqb, length, Float}
use Rattle.std.specs.Float.Ieee.Scale.{finite}
use Rattle.std.specs.Float.{nan, inf, fin, binary32}
use Rattle.std.specs.Float.Ieee.{of_int, lt, is_nan}

-- the whole number n as an f32
abbrev pub f32_of : ℕ → Float
f32_of n = of_int binary32 (pos n)

-- the sign bit, of every value but a NaN: that of a NaN is never asked for, since every NaN is refused
unfoldable pub sign_bit : Float → Bool
sign_bit nan = false
sign_bit (inf s) = s
sign_bit (fin s m e) = s

-- NaN, or outside lo to hi
unfoldable pub outside : Float → Float → Float → Bool
outside lo hi x = is_nan x || lt x lo || lt hi x

-- neither NaN nor with its sign bit set
unfoldable pub sign_clear : Float → Bool
sign_clear x = not (is_nan x || sign_bit x)

-- number 1: hue count k not 1 to 16
unfoldable pub hue_count_taken : ℕ → Bool
hue_count_taken k = leb 1 k && leb k 16

-- taken is neither NaN nor with its sign bit set, nor above `most`
unfoldable pub up_to : Float → Float → Bool
up_to most x = sign_clear x && not (lt most x)

-- number 2: gap NaN, sign bit set, or above 84
unfoldable pub gap_taken : Float → Bool
gap_taken x = up_to (f32_of 84) x

-- number 3: chroma NaN, sign bit set, or above 200
unfoldable pub chroma_taken : Float → Bool
chroma_taken x = up_to (f32_of 200) x

-- number 7: an entry that is NaN, has its sign bit set, or exceeds 200
unfoldable pub entry_taken : Float → Bool
entry_taken x = up_to (f32_of 200) x

-- number 9: a component NaN or outside -1 to 1
unfoldable pub direction_taken : Float → Bool
direction_taken x = not (outside (of_int binary32 (negsuc 0)) (f32_of 1) x)

-- number 16: root operand not finite or with sign bit set
unfoldable pub root_operand_taken : Float → Bool
root_operand_taken x = finite x && not (sign_bit x)

-- number 16: hue operand a or b NaN or beyond ±1000
unfoldable pub hue_operand_taken : Float → Bool
hue_operand_taken x = not (outside (of_int binary32 (negsuc 999)) (f32_of 1000) x)

-- the test passes at each element
unfoldable pub every : (Float → Bool) → List Float → Bool
every p [] = true
every p (x ∷ xs) = p x && every p xs

-- number 9: the slices are each 720 long, and each component is taken
unfoldable pub directions_taken : List Float → List Float → Bool
directions_taken cs ss = eqb (length cs) 720 && (eqb (length ss) 720 && (every direction_taken cs && every direction_taken ss))
