-- `exports::hexes_of` meets its contract: what the closure gives of each colour is its number. Assumes nothing.
use mathlib.Core.Path.{◌≡◌, sym, ◌∙◌}
use mathlib.Core.List.{map}
use Prim.Native.Nat.{ℕ, ◌<◌}
use native.Mathlib.Omega.{arith}
use lib.ListN.{length, get_or, length-map, get_or-map}
use lib.Seq.{ext_get_or}
use Rattle.srgb.specs.Parts.{to_hex}
use Rattle.palette.specs.Derivation.{black}
use Rattle.std.proofs.Common.{rules}
use Rattle.exports.proofs.hexes_of.Goals as goal

pub returns : goal.returns
returns c =
    let colors = c.args.colors in
    let items = c.map.ensures.items in
    let long : length colors ≡ 32 = omega arith in
    ext_get_or 0 c.map.result (map to_hex colors) (items.long ∙ sym (length-map colors to_hex ∙ long))
    (λ (p : ℕ) (g : p < length c.map.result). let l = items.long in let called = items.at p black 0 (omega arith) in let is : get_or c.map.result p 0 ≡ to_hex (get_or colors p black) = search rules in is ∙ sym (get_or-map to_hex colors p black))
