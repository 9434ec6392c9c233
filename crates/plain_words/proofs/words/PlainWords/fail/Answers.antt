use Rattle.one_history.proofs.Watching.{kept_failed, fails, moves_failed}
use Rattle.plain_words.proofs.Seeing.{seen_failed}
use Rattle.plain_words.proofs.words.PlainWords.fail.Goals as goal

pub invariant_of-self : goal.invariant_of-self
invariant_of-self c = rw c.note.ensures (
  kept_failed _ _ _ _ _ _ _ c.self.invariant.0 (rw c.self.view_is c.requires.pass) (rw c.self.view_is c.requires.by_keeper),
  seen_failed _ _ _ _ _ _ _ c.self.invariant.0 (rw c.self.view_is c.requires.pass) _ c.self.invariant.1,
  c.self.invariant.2,
)

pub returns-clause-step : goal.returns-clause-step
returns-clause-step c = rw (c.note.ensures, ← c.self.view_is) (fails _ _ _ _ _ _ _ c.self.invariant.0 (rw c.self.view_is c.requires.pass))

pub returns-clause-moved : goal.returns-clause-moved
returns-clause-moved c = rw (c.note.ensures, ← c.self.view_is) (moves_failed _ _ _ _ _ _ _ c.self.invariant.0 (rw c.self.view_is c.requires.pass))
