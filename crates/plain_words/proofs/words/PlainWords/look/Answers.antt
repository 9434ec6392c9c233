use Rattle.one_history.proofs.Watching.{kept_looked, looks, moves_looked}
use Rattle.plain_words.proofs.Seeing.{seen_looked}
use Rattle.plain_words.proofs.words.PlainWords.look.Goals as goal

pub invariant_of-self : goal.invariant_of-self
invariant_of-self c = rw c.note.ensures (
  kept_looked _ _ _ _ _ _ _ c.self.invariant.0 (rw c.self.view_is c.requires.pass),
  seen_looked _ _ _ _ _ _ _ c.self.invariant.0 (rw c.self.view_is c.requires.pass) _ c.self.invariant.1,
  c.self.invariant.2,
)

pub returns-clause-step : goal.returns-clause-step
returns-clause-step c = rw (c.note.ensures, ← c.self.view_is) (looks _ _ _ _ _ _ _ c.self.invariant.0 (rw c.self.view_is c.requires.pass))

pub returns-clause-moved : goal.returns-clause-moved
returns-clause-moved c = rw (c.note.ensures, ← c.self.view_is) (moves_looked _ _ _ _ _ _ _ c.self.invariant.0 (rw c.self.view_is c.requires.pass))
