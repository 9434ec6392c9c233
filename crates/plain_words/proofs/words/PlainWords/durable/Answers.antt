use Rattle.one_history.proofs.Watching.{kept_published, publishes, moves_published}
use Rattle.plain_words.proofs.Seeing.{seen_published}
use Rattle.plain_words.proofs.words.PlainWords.durable.Goals as goal

pub invariant_of-self : goal.invariant_of-self
invariant_of-self c = rw (c.note.ensures, c.max-self-inside.ensures) (
  kept_published _ _ _ _ _ _ _ c.self.invariant.0 (rw c.self.view_is c.requires.pass) _ (rw c.self.view_is c.requires.fits),
  seen_published _ _ _ _ _ _ _ c.self.invariant.0 (rw c.self.view_is c.requires.pass) _ c.self.invariant.1 _ (rw c.self.view_is c.requires.fits),
  c.self.invariant.2,
)

pub returns-clause-step : goal.returns-clause-step
returns-clause-step c = rw (c.note.ensures, ← c.self.view_is) (publishes _ _ _ _ _ _ _ c.self.invariant.0 (rw c.self.view_is c.requires.pass) _)

pub returns-clause-moved : goal.returns-clause-moved
returns-clause-moved c = rw (c.note.ensures, ← c.self.view_is) (moves_published _ _ _ _ _ _ _ c.self.invariant.0 (rw c.self.view_is c.requires.pass) _)
