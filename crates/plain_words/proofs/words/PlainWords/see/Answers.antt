use Rattle.one_history.proofs.Watching.{kept_saw, sees, moves_saw}
use Rattle.plain_words.proofs.Seeing.{seen_saw}
use Rattle.plain_words.proofs.words.PlainWords.see.Goals as goal

pub invariant_of-self : goal.invariant_of-self
invariant_of-self c = rw (c.note.ensures, c.raise.ensures) (
  kept_saw _ _ _ _ _ _ _ c.self.invariant.0 (rw c.self.view_is c.requires.pass),
  seen_saw _ _ _ _ _ _ _ c.self.invariant.0 (rw c.self.view_is c.requires.pass) _ c.self.invariant.1,
  c.self.invariant.2,
)

pub returns-clause-step : goal.returns-clause-step
returns-clause-step c = rw (c.note.ensures, ← c.self.view_is) (sees _ _ _ _ _ _ _ c.self.invariant.0 (rw c.self.view_is c.requires.pass))

pub returns-clause-moved : goal.returns-clause-moved
returns-clause-moved c = rw (c.note.ensures, ← c.self.view_is) (moves_saw _ _ _ _ _ _ _ c.self.invariant.0 (rw c.self.view_is c.requires.pass))
