use Rattle.one_history.proofs.Watching.{kept_found_alive, lives, moves_found_alive}
use Rattle.plain_words.proofs.Seeing.{seen_found_alive}
use Rattle.plain_words.proofs.words.PlainWords.alive.Goals as goal

pub invariant_of-self : goal.invariant_of-self
invariant_of-self c = rw c.note.ensures (
  kept_found_alive _ _ _ _ _ _ _ c.self.invariant.0 (rw c.self.view_is c.requires.pass),
  seen_found_alive _ _ _ _ _ _ _ c.self.invariant.0 (rw c.self.view_is c.requires.pass) _ c.self.invariant.1,
  c.self.invariant.2,
)

pub returns-clause-step : goal.returns-clause-step
returns-clause-step c = rw (c.note.ensures, ← c.self.view_is) (lives _ _ _ _ _ _ _ c.self.invariant.0 (rw c.self.view_is c.requires.pass))

pub returns-clause-moved : goal.returns-clause-moved
returns-clause-moved c = rw (c.note.ensures, ← c.self.view_is) (moves_found_alive _ _ _ _ _ _ _ c.self.invariant.0 (rw c.self.view_is c.requires.pass))
