-- `hue::hue_of` meets its contract. The invariant: the hue is that of the first crossing from direction j on. Assumes nothing.
use mathlib.Core.Path.{◌≡◌, ◌∙◌}
use mathlib.Core.Bool.{Bool, true, false}
use mathlib.Core.List.{List}
use Prim.Native.Nat.{ℕ, ◌+◌, ◌%◌, ◌<◌}
use native.Mathlib.Omega.{arith}
use lib.IntN.{pos}
use lib.Ieee.{Float, binary32, add, mul, div, neg, of_bits, of_int, round}
use Rattle.hue.specs.Hue.{side_at, changes, crosses, hue_at}
use Rattle.hue.proofs.Turns.{from_the_first, here, onward, nowhere}
use Rattle.hue.proofs.hue_of.Goals as goal

pub loop-j-init : goal.loop-j-init
loop-j-init c = from_the_first _ _ _ _

-- what the code compares is what `crosses` compares
told : (cs ss : List Float) (a b : Float) (j : ℕ) (x y : Float) (r t : Bool) → x ≡ side_at cs ss a b j → y ≡ side_at cs ss a b ((j + 1) % 720) → r ≡ changes x y → r ≡ t → crosses cs ss a b j ≡ t
unfolding crosses
told cs ss a b j x y r t p q e f = rw (← p, ← q, ← e) f

as_written : (cs ss : List Float) (a b : Float) (j : ℕ) (x y : Float) → x ≡ side_at cs ss a b j → y ≡ side_at cs ss a b ((j + 1) % 720)
    → mul binary32 (of_bits binary32 1056964608) (add binary32 (of_int binary32 (pos j)) (div binary32 x (add binary32 x (neg y)))) ≡ hue_at cs ss a b j
unfolding hue_at of_bits round
as_written cs ss a b j x y p q = rw (p, q)

pub returns-then-changes_side : goal.returns-then-changes_side
returns-then-changes_side c =
    let d = c.before.before in
    let s2 = d.before in
    let s1 = s2.before in
    let t = s1.before in
    let l = t.before in
    let h : l.loop-j.j < 720 = let k = t.loop-j-test.true in omega arith in
    as_written _ _ _ _ l.loop-j.j _ _ s1.side-x.ensures s2.side-next.ensures
    ∙ here _ _ _ _ l.loop-j.j l.loop-j.invariant h
    (told _ _ _ _ l.loop-j.j _ _ _ true s1.side-x.ensures s2.side-next.ensures d.changes_side.ensures c.if-changes_side.true)

pub loop-j-preserved : goal.loop-j-preserved
loop-j-preserved c =
    let d = c.before in
    let s2 = d.before in
    let s1 = s2.before in
    let t = s1.before in
    let l = t.before in
    let h : l.loop-j.j < 720 = let k = t.loop-j-test.true in omega arith in
    onward _ _ _ _ l.loop-j.j l.loop-j.invariant h
    (told _ _ _ _ l.loop-j.j _ _ _ false s1.side-x.ensures s2.side-next.ensures d.changes_side.ensures c.if-changes_side.false)

pub returns : goal.returns
unfolding of_bits of_int
returns c = nowhere _ _ _ _ c.loop-j.j c.loop-j.invariant (let k = c.loop-j-test.false in omega arith)
