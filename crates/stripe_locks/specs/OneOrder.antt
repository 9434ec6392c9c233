-- That the one order of steps grows at its end alone.
use Rattle.std.specs.Prelude.{◌≡◌, ℕ, ◌-◌, List, ◌++◌, map, Option, true}
use mathlib.Core.Option.{some}
use lib.ListN.{get_elem?}
use Rattle.atomic_table.specs.Table.{State, Act, stepped}
use Rattle.ticket_order.specs.declared.stripe.Stripe.{Stripe}
use Rattle.ticket_order.specs.declared.record.Opening.{Opening}
use Rattle.ticket_order.specs.declared.record.StepMade.{StepMade}
use Rattle.one_history.specs.Interleaving.{AreFound}
use Rattle.one_history.specs.Turns.{pass_step, words_of}
use Rattle.stripe_locks.specs.declared.view.SeatView.{SeatView}
use Rattle.stripe_locks.specs.Rule.{Kept}
use Rattle.stripe_locks.specs.Plays.{Sat}

-- Whatever a pass records by one atomic step that keeps the rule, it stands last in the one order, and finds what the
-- words hold then. So it is whichever word the step is made on, the count of passes too.
abbrev pub StandLast : Type 0
StandLast = (o : Opening) (s : State (Option Stripe) SeatView) (before : Kept o s)
    → (id : ℕ) (me : Sat) → get_elem? s.views id ≡ some me.0 → me.0.pass.enrolled ≡ true
    → (i x : ℕ) (w : SeatView) (a : Act (Option Stripe)) (after : Kept o (stepped s i x id me.1 w a))
    → w.pass.enrolled ≡ true
    → (new : List StepMade) → w.pass.steps ≡ me.0.pass.steps ++ new
    → (after.book.interleaving ≡ before.book.interleaving ++ map (pass_step (me.0.pass.passes - 1)) new)
    × AreFound (words_of before.book) (map (pass_step (me.0.pass.passes - 1)) new)

-- The order isn't chosen anew: what the seats know determines it.
abbrev pub IsDetermined : Type 0
IsDetermined = (o : Opening) (s : State (Option Stripe) SeatView) (one other : Kept o s)
    → other.book.interleaving ≡ one.book.interleaving
