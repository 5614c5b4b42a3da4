-- The two tables of the code list the constants of the definitions: each rule is tested at every entry. Assumes nothing.
use Prim.Native.Nat.{suc}
use lib.Ieee.{of_bits, to_bits, fits}
use Rattle.halving.specs.Patterns.{worth, half_way}
use Rattle.transfer.specs.declared.TheConstants.{DECODE, ENCODE}
use Rattle.transfer.specs.Transfer.{decode_of, meets, threshold_of, Lists}
use Rattle.transfer.proofs.Table.{lists_first}
use Rattle.transfer.proofs.Rules.{reaches, reaches_lasts, decode_is, meets_lasts, threshold_is}

-- the 256 constants of decoding
pub decode_lists : Lists 256 decode_of DECODE
unfolding half_way worth of_bits to_bits fits
decode_lists = lists_first reaches decode_of reaches_lasts decode_is _ tt

-- the 255 constants of encoding
pub encode_lists : Lists 255 (λ k. threshold_of (suc k)) ENCODE
unfolding meets worth of_bits to_bits fits
encode_lists = lists_first (λ k. meets (suc k)) (λ k. threshold_of (suc k)) (λ k. meets_lasts (suc k)) (λ k. threshold_is (suc k)) _ tt
