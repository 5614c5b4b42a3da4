-- `ring_answers::said_to` meets its contract: what was read, and what is placed. Assumes nothing.
use Rattle.ring_answers.proofs.Answering.{says_malformed, says_asked}
use Rattle.ring_answers.proofs.said_to.Goals as goal

pub returns-in-Some : goal.returns-in-Some
returns-in-Some c = says_asked _ _ c.in-Some.ensures c.place.ensures

pub returns-in-None : goal.returns-in-None
returns-in-None c = says_malformed _ c.in-None.ensures
