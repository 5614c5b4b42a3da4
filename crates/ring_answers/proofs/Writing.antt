-- The text of each kind of answer, how long it gets, and the answer with its newline. Assumes nothing.
use mathlib.Core.Path.{◌≡◌, refl, ◌∙◌}
use mathlib.Core.Bool.{Bool, true, false, cond}
use mathlib.Core.List.{List, [], ◌∷◌}
use Prim.Native.Nat.{ℕ, suc, ◌≤◌}
use native.Mathlib.Omega.{arith}
use lib.Ieee.{Float}
use lib.ListN.{length, take, set, replicate, length-append, length-take, length-set}
use Rattle.limits.specs.Answers.{Said, value, refused}
use Rattle.limits.proofs.Checks.{Check, through}
use Rattle.placement_rules.specs.Ring.{Places, nowhere, placed, placement}
use Rattle.placement_rules.specs.Placing.{allowed_at, stores, sixteen, checked, placement_says}
use Rattle.placement_rules.proofs.Checking.{row_checks}
use Rattle.text.specs.Put.{PutIn}
use Rattle.text.specs.Decimal.{decimal}
use Rattle.text.proofs.Put.{puts_both}
use Rattle.text.proofs.Decimal.{decimal_long}
use Rattle.ring_reading.specs.Fields.{Line, malformed, asks, line_of}
use Rattle.ring_answers.specs.Answers.{room, said_to, line_says, count_of, answer_text, answer_bytes, answer_of}
use Rattle.ring_answers.proofs.Parted.{parted_long}

-- `refused,` and a number
pub puts_refused : {a b c : List ℕ} {m r : ℕ} (n x : ℕ) → x ≡ n → PutIn a 0 (114 ∷ 101 ∷ 102 ∷ 117 ∷ 115 ∷ 101 ∷ 100 ∷ 44 ∷ []) b m → PutIn b m (decimal x) c r
    → PutIn a 0 (answer_text 0 (refused n)) c r
unfolding answer_text
puts_refused n x e p q = rw (← e) (puts_both p q)

-- ---- how long it gets: what is placed is sixteen indices
abbrev pub Sixteen : Said Places → Type 0
Sixteen (value (placed is)) = length is ≡ 16
Sixteen (value nowhere) = Unit {0}
Sixteen (refused n) = Unit {0}

-- room for a newline is left after it
text_long : (k : ℕ) (said : Said Places) → Sixteen said → length (answer_text k said) ≤ 63
unfolding answer_text
text_long k (value (placed is)) e = parted_long (take k is) (omega (arith, length-take k is))
text_long k (value nowhere) e = omega arith
text_long k (refused n) e =
    let l = decimal_long n in
    omega (arith, length-append (114 ∷ 101 ∷ 102 ∷ 117 ∷ 115 ∷ 101 ∷ 100 ∷ 44 ∷ []) (decimal n))

-- and with the newline it has at most 64 bytes
pub bytes_few : (k : ℕ) (said : Said Places) → Sixteen said → length (answer_bytes k said) ≤ 64
unfolding answer_bytes
bytes_few k said e = let s = text_long k said e in omega (arith, length-append (answer_text k said) (10 ∷ []))

-- an answer with its newline
pub puts_answer : {a b c : List ℕ} {m r : ℕ} (k : ℕ) (said : Said Places) → PutIn a 0 (answer_text k said) b m → PutIn b m (10 ∷ []) c r → PutIn a 0 (answer_bytes k said) c r
unfolding answer_bytes
puts_answer k said p q = puts_both p q

-- ---- what is said to a line
stored_long : (hues : List ℕ) (t : ℕ) (is : List ℕ) → length (stores hues t is) ≡ length hues
unfolding stores
stored_long hues t [] = refl
stored_long hues t (i ∷ is) = stored_long (set hues t i) (suc t) is ∙ length-set hues t i

-- whatever the checks in front of it are
checked_sixteen : (cs : List Check) (x : Said Places) → Sixteen x → Sixteen (through cs x)
checked_sixteen [] x e = e
checked_sixteen (c ∷ cs) x e = go c.passes (checked_sixteen cs x e)
  where
    go : (b : Bool) → Sixteen (through cs x) → Sixteen (cond b (through cs x) (refused c.number))
    go true t = t
    go false t = tt

placed_sixteen : (p : Places) → Sixteen (value (sixteen p))
placed_sixteen nowhere = tt
placed_sixteen (placed is) = stored_long (replicate 16 0) 0 is

placement_sixteen : (k step : ℕ) (c : Float) (row : List Float) (space : ℕ) → Sixteen (placement_says k step c row space)
unfolding placement_says checked
placement_sixteen k step c row space =
    checked_sixteen (row_checks k step c row space) (value (sixteen (placement (allowed_at row c) (length row) k step)))
    (placed_sixteen (placement (allowed_at row c) (length row) k step))

line_sixteen : (line : Line) → Sixteen (said_to line)
line_sixteen malformed = tt
line_sixteen (asks k step c row) = placement_sixteen k step c row room

-- the answer to a line has at most 64 bytes
pub answer_few : (line : List ℕ) → length (answer_of line) ≤ 64
unfolding answer_of line_says
answer_few line = bytes_few (count_of (line_of line)) (said_to (line_of line)) (line_sixteen (line_of line))
