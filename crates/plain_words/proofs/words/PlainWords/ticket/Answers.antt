use Rattle.one_history.proofs.Drawing.{kept_drew, draws, moves_drew}
use Rattle.plain_words.proofs.Seeing.{seen_drew}
use Rattle.plain_words.proofs.words.PlainWords.ticket.Goals as goal

pub invariant_of-self : goal.invariant_of-self
invariant_of-self c = rw (c.note.ensures, c.number.ensures, c.position.ensures, c.new-ticket.ensures) (
  kept_drew _ _ _ _ _ _ _ c.self.invariant.0 (rw c.self.view_is c.requires.pass) _ (rw c.self.view_is c.requires.fits),
  seen_drew _ _ _ _ _ _ _ c.self.invariant.0 (rw c.self.view_is c.requires.pass) _ c.self.invariant.1 _ (rw c.self.view_is c.requires.fits),
  c.self.invariant.2,
)

pub returns-clause-step : goal.returns-clause-step
returns-clause-step c = rw (c.note.ensures, ← c.self.view_is, c.new-ticket.ensures) (draws _ _ _ _ _ _ _ c.self.invariant.0 (rw c.self.view_is c.requires.pass) _ (rw c.self.view_is c.requires.fits))

pub returns-clause-moved : goal.returns-clause-moved
returns-clause-moved c = rw (c.note.ensures, ← c.self.view_is, c.new-ticket.ensures) (moves_drew _ _ _ _ _ _ _ c.self.invariant.0 (rw c.self.view_is c.requires.pass) _ (rw c.self.view_is c.requires.fits))
