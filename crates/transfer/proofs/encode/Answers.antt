-- `transfer::encode` meets its contract: the constants ascend, and the place where those that are ≤ v end is their count. Assumes nothing.
use mathlib.Core.Path.{◌≡◌, sym, ◌∙◌}
use Prim.Native.Nat.{ℕ, suc, ◌<◌, zero-le}
use native.Mathlib.Omega.{arith}
use lib.ListN.{get_or}
use lib.Ieee.{Float, nan, le}
use Rattle.std.proofs.Common.{rules, of_calls}
use Rattle.std.proofs.lemmas.List.{get_or_default}
use Rattle.std.proofs.lemmas.List.Sorted.{IsPartitionPoint-from_clause}
use Rattle.transfer.specs.declared.TheConstants.{ENCODE}
use Rattle.transfer.specs.Transfer.{threshold_of}
use Rattle.transfer.proofs.Count.{lower, encode_is}
use Rattle.transfer.proofs.Constants.{encode_lists}
use Rattle.transfer.proofs.encode.Goals as goal

at : (k : ℕ) (d : Float) → k < 255 → get_or ENCODE k d ≡ threshold_of (suc k)
at k d h = get_or_default ENCODE k d nan h ∙ encode_lists.at k h

pub returns : goal.returns
returns c =
    let v = c.args.v in
    let n = c.partition_point.result in
    let p = IsPartitionPoint-from_clause (λ x. le x v) ENCODE n c.partition_point.ensures.partitioned
    (λ i j d l h t. rw (at i d (omega arith)) (lower v i j l h (rw (at j d h) at t))) (λ a r f k. search (rules, of_calls)) in
    sym (encode_is v n c.partition_point.ensures.bound
    (λ k l. rw (at k nan (omega arith)) at (p.0 k nan zero-le l)) (λ k l h. rw (at k nan h) at (p.1 k nan l h)))
