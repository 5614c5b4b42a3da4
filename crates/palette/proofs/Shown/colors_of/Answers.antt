-- `Shown::colors_of` meets its contract. The invariant: the colours before place i are written, and those from it on are black. Assumes nothing.
use mathlib.Core.Path.{refl, ◌∙◌}
use Prim.Native.Nat.{ℕ, ◌+◌, ◌≤◌, ◌<◌}
use native.Mathlib.Nat.{ne_of_lt}
use native.Mathlib.Omega.{arith}
use lib.ListN.{length, length-set}
use lib.Seq.{get_or-set_same, get_or-set_other}
use borrow.Author.Count.{below_none, below_more}
use Rattle.palette.specs.Derivation.{black}
use Rattle.palette.proofs.Ready.{few_hues, within}
use Rattle.palette.proofs.Colors.{all_black, colors_are}
use Rattle.palette.proofs.Shown.colors_of.Goals as goal

pub overflow_mul-i-end : goal.overflow_mul-i-end
overflow_mul-i-end c = let f = few_hues c.args.self.now.ready in omega arith

pub loop-i-init : goal.loop-i-init
loop-i-init c = record { long = refl; written = below_none _; left = λ p h. all_black 32 p }

pub offset_bounds-colors-i : goal.offset_bounds-colors-i
offset_bounds-colors-i c = let f = few_hues c.args.self.now.ready in omega arith

pub bounds-colors-i : goal.bounds-colors-i
bounds-colors-i c = let f = few_hues c.args.self.now.ready in omega arith

pub loop-i-preserved : goal.loop-i-preserved
loop-i-preserved c =
    let f = few_hues c.args.self.now.ready in
    let l = c.loop-i in
    let v = c.color_at.result in
    let n = l.invariant.long in
    let u : l.i < length l.colors = omega arith in record {
      long = length-set l.colors l.i v ∙ n;
      written = below_more _ l.i (λ p g. get_or-set_other l.colors l.i p v black (ne_of_lt g) ∙ l.invariant.written p g) (get_or-set_same l.colors l.i v black u ∙ c.color_at.ensures);
      left = λ p g. get_or-set_other l.colors l.i p v black (λ q. omega arith) ∙ l.invariant.left p (omega arith);
    }

pub returns : goal.returns
returns c =
    let d = c.args.self.now.design in
    let f = few_hues c.args.self.now.ready in
    let v = c.loop-i.invariant in
    colors_are d c.args.chroma c.args.self.now.directions.cos.now c.args.self.now.directions.sin.now (within c.args.self.now.ready) f c.loop-i.colors v.long
    (λ (p : ℕ) (g : p < d.k + d.k). v.written p (omega arith))
    (λ (p : ℕ) (g : d.k + d.k ≤ p). v.left p (omega arith))
