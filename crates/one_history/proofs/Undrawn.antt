-- A step that draws no ticket makes no change.
use Rattle.std.proofs.Common.{◌≡◌, ℕ, refl}
use Rattle.ticket_order.specs.declared.record.StepMade.{StepMade}
use Rattle.ticket_order.specs.declared.record.StepMade.TheVariants.{Took, FoundHeld, Gave, Drew, Looked, Published, Saw, Failed, FoundAlive}
use Rattle.one_history.specs.declared.book.Book.{Book}
use Rattle.one_history.specs.Moves.{WordsMove}

pub history_stays : (j : ℕ) (made : StepMade) (b b' : Book) → ((t : ℕ) → made ≡ Drew t → ⊥) → WordsMove j made b b' → b'.history ≡ b.history
history_stays j (Took i es last) b b' other h = h.0.same.history
history_stays j (FoundHeld i) b b' other h = h.0.same.history
history_stays j (Gave i) b b' other h = h.0.history
history_stays j (Drew t) b b' other h = absurd (other t refl)
history_stays j (Looked q) b b' other h = h.0.same.history
history_stays j (Published x) b b' other h = h.0.history
history_stays j (Saw d) b b' other h = h.0.same.history
history_stays j Failed b b' other h = h.0.history
history_stays j (FoundAlive is_alive) b b' other h = h.0.same.history
