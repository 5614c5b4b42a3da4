-- What the laws of a line rest on: what a digit that follows is, what it adds behind the point, and how a line begins. Assumes nothing.
use mathlib.Core.Path.{◌≡◌, sym}
use mathlib.Core.Bool.{true, false, ◌&&◌}
use mathlib.Core.List.{List, [], ◌∷◌}
use Prim.Native.Nat.{ℕ, ◌+◌, ◌*◌, ◌/◌, ◌≤◌, ◌<◌}
use native.Mathlib.Nat.{mul-le-mul_right}
use native.Mathlib.Omega.{arith}
use lib.Dec.{leb, ltb, eqb}
use lib.ListN.{take, drop, get_or}
use lib.Pointwise.{pointwise}
use borrow.Author.Tests.{leb-true, ltb-true, ne_eqb}
use Rattle.std.proofs.Common.{Fits, w8}
use Rattle.std.specs.Cmp.Lexicographic.{same_text, other_text}
use Rattle.limits.proofs.HueCount.{both}
use Rattle.ring_reading.specs.Numbers.{is_digit}
use Rattle.lamp_input.specs.Ask.{malformed, goes_on, numbers_of, is_ask, ask_of}

-- a digit that follows: it is one, and the number before it is none of 0 and below `most`
pub record GoesOn (most n b : ℕ) : Type 0 where
  pub digit : is_digit b ≡ true
  pub some : 1 ≤ n
  pub below : n < most

pub goes_on_lem : (most n b : ℕ) → goes_on most n b ≡ true → GoesOn most n b
unfolding goes_on
goes_on_lem most n b h =
    let p = both (is_digit b) (leb 1 n && ltb n most) h in
    let q = both (leb 1 n) (ltb n most) p.1 in
    record { digit = p.0; some = leb-true 1 n q.0; below = ltb-true n most q.1 }

-- a digit behind the point adds less than ten of its units
pub adds : (n v unit : ℕ) → v ≤ 9 → n + 10 * unit ≤ 10000000 → (v * unit ≤ 10000000) × ((n + v * unit ≤ 10000000) × (n + v * unit + 10 * (unit / 10) ≤ 10000000))
adds n v unit h w =
    let m : v * unit ≤ 9 * unit = mul-le-mul_right unit h in
    (omega arith, (omega arith, omega arith))

-- ---- how a line begins
-- `ask` and a space
abbrev pub word : List ℕ
word = 97 ∷ 115 ∷ 107 ∷ 32 ∷ []

-- the first four bytes in base 256
abbrev number_at_start : List ℕ → ℕ
number_at_start line = ((get_or line 0 0 * 256 + get_or line 1 0) * 256 + get_or line 2 0) * 256 + get_or line 3 0

-- it tells whether they are that word
begins : (line : List ℕ) → ((i : ℕ) → Fits w8 (get_or line i 0)) → number_at_start line ≡ 1634954016 → take 4 line ≡ word
begins [] f e = absurd (omega arith)
begins (a ∷ []) f e = absurd (omega arith)
begins (a ∷ b ∷ []) f e = absurd (omega arith)
begins (a ∷ b ∷ c ∷ []) f e = absurd (omega arith)
begins (a ∷ b ∷ c ∷ d ∷ text) f e =
    let fa = (f 0).fits in
    let fb = (f 1).fits in
    let fc = (f 2).fits in
    let fd = (f 3).fits in
    let ea : a ≡ 97 = omega arith in
    let eb : b ≡ 115 = omega arith in
    let ec : c ≡ 107 = omega arith in
    let ed : d ≡ 32 = omega arith in
    rw (ea, eb, ec, ed)

pub no_ask : (line : List ℕ) → ((i : ℕ) → Fits w8 (get_or line i 0)) → pointwise eqb (take 4 line) word ≡ false → malformed ≡ ask_of line
unfolding ask_of is_ask
no_ask line f h = rw (ne_eqb (number_at_start line) 1634954016 (λ e. other_text (take 4 line) word (sym h) (begins line f e)))

starts : (line : List ℕ) → take 4 line ≡ word → numbers_of (drop 4 line) ≡ ask_of line
unfolding ask_of is_ask
starts [] e = cc
starts (a ∷ []) e = cc
starts (a ∷ b ∷ []) e = cc
starts (a ∷ b ∷ c ∷ []) e = cc
starts (a ∷ b ∷ c ∷ d ∷ text) e =
    let ea : a ≡ 97 = cc in
    let eb : b ≡ 115 = cc in
    let ec : c ≡ 107 = cc in
    let ed : d ≡ 32 = cc in
    rw (ea, eb, ec, ed)

pub is_line : (line text : List ℕ) → pointwise eqb (take 4 line) word ≡ true → text ≡ drop 4 line → numbers_of text ≡ ask_of line
is_line line text h e = rw e (starts line (same_text (take 4 line) word (sym h)))
