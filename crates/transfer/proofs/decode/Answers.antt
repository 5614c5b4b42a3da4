-- `transfer::decode` meets its contract, by what its table lists. Assumes nothing.
use borrow.Author.Rules.{rules}
use Rattle.transfer.proofs.Constants.{decode_lists}
use Rattle.transfer.proofs.decode.Goals as goal

pub returns : goal.returns
returns c = decode_lists.at c.args.code (search rules)
