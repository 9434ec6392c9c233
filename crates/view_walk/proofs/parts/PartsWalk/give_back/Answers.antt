use Rattle.std.proofs.Common.{refl}
use Rattle.view_walk.proofs.Stepping.{fits_back, lends_none}
use Rattle.view_walk.proofs.parts.PartsWalk.give_back.Goals as goal

pub returns-clause-is : goal.returns-clause-is
returns-clause-is c = rw c.given_back.ensures refl

pub returns-clause-fits : goal.returns-clause-fits
returns-clause-fits c = λ n b xs p f. rw c.given_back.ensures (fits_back n b xs c.args.self p f)

pub returns-clause-lends : goal.returns-clause-lends
returns-clause-lends c = rw c.given_back.ensures (lends_none c.args.self.count c.args.self.stage)
