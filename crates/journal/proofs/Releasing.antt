-- What a release leaves of the record of its pass.
use Rattle.std.proofs.Common.{◌≡◌, inl, inr, ℕ, Bool, true, false, ap, ◌∙◌}
use Rattle.map_types.specs.declared.commands.Reply.{Reply}
use Rattle.ticket_order.specs.declared.held.Released.{Released}
use Rattle.ticket_order.specs.declared.held.Released.TheVariants as variant
use Rattle.ticket_order.specs.declared.record.Record.{Record}
use Rattle.ticket_order.specs.StepRules.{Lives, Sees}
use Rattle.ticket_order.specs.Calls.{MissesAlive, Releases}
use Rattle.flusher.specs.Fitting.{GoesOnByCalls}
use Rattle.flusher.proofs.OwnCalls.{lives, sees, then}

-- the pass goes on by its calls, and holds what it held
pub record GoesOnHolding (p w : Record) : Type 0 where
  pub on : GoesOnByCalls p w
  pub holding : w.holding ≡ p.holding

saw : (p w : Record) (d : ℕ) → Sees p d w → GoesOnHolding p w
saw p w d s = record { on = sees p d w s; holding = ap (λ (r : Record). r.holding) s.is }

lived : (p w : Record) (is_alive : Bool) → Lives p is_alive w → GoesOnHolding p w
lived p w is_alive l = record { on = lives p is_alive w l; holding = ap (λ (r : Record). r.holding) l.is }

next : (p between w : Record) → GoesOnHolding p between → GoesOnHolding between w → GoesOnHolding p w
next p between w k j = record { on = then p between w k.on j.on; holding = j.holding ∙ k.holding }

missed : (position : ℕ) (is_alive : Bool) (p w : Record) → MissesAlive position is_alive p w → GoesOnHolding p w
missed position is_alive p w m = next p m.between w (saw p m.between m.misses.durable m.misses.sees) (lived m.between w is_alive m.lives)

pub released : (position : ℕ) (reply : Reply) (p w : Record) (answer : Released) → Releases position reply p answer w → GoesOnHolding p w
released position reply p w (variant.Reply q y) (_, _, inl r) = saw p w r.durable r.sees
released position reply p w (variant.Reply q y) (_, _, inr s) = next p s.between w (missed position false p s.between s.first) (saw s.between w s.second.durable s.second.sees)
released position reply p w (variant.NotYet h) m = missed position true p w m.2
released position reply p w variant.Failed s = next p s.between w (missed position false p s.between s.first) (saw s.between w s.second.durable s.second.sees)
