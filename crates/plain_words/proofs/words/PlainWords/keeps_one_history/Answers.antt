use Rattle.one_history.proofs.Slots.{hold_apart}
use Rattle.plain_words.proofs.words.PlainWords.keeps_one_history.Goals as goal

pub returns-clause-apart : goal.returns-clause-apart
returns-clause-apart c = rw (← c.self.view_is) (hold_apart _ _ _ _ _ _ c.self.invariant.0)
