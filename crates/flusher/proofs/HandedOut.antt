-- A sweep hands out the outbox that is held.
use Rattle.std.proofs.Common.{◌≡◌, ℕ, ◌≤◌, Some, None, sym, ap, arith}
use Rattle.map_types.specs.declared.refusals.Refusal.{Refusal}
use Rattle.ticket_order.specs.declared.sweep_walk.SweepStage.TheVariants as sweep_stage
use Rattle.ticket_order.specs.declared.walk.Stage.{Stage}
use Rattle.ticket_order.specs.declared.walk.Stage.TheVariants as stage
use Rattle.ticket_order.specs.declared.walk.Walk.{Walk}
use Rattle.ticket_order.specs.declared.record.Record.{Record}
use Rattle.ticket_order.specs.Records.{outbox_held}
use Rattle.ticket_order.specs.Walks.{ToSweep, FitsStage, entries_of_stage, entries_of_walk, left_of_stage, refusal_of_stage, refusal_of_walk}
use Rattle.flusher.specs.Sweeping.{IsSwept}
use Rattle.flusher.proofs.Quiet.{by_capture, by_change, by_read, by_release}

refuses_none : (e : Refusal) → Some e ≡ None → ⊥
refuses_none e h = cc

by_stage : (n : ℕ) (b : Record) (i : ℕ) (s : Stage) (p : Record) → FitsStage n b (ToSweep i) s p → left_of_stage s ≤ 1 → refusal_of_stage s ≡ None → entries_of_stage s ≡ outbox_held p.holding
by_stage n b i (stage.Change s) p k one none_ = absurd (by_change n b i s p k)
by_stage n b i (stage.Read s) p k one none_ = absurd (by_read n b i s p k)
by_stage n b i (stage.Release s) p k one none_ = absurd (by_release n b i s p k)
by_stage n b i (stage.Sweep (sweep_stage.Begins alloc j)) p k one none_ = absurd (omega (arith, one))
by_stage n b i (stage.Sweep (sweep_stage.HasTaken alloc t)) p k one none_ = sym (ap (λ (r : Record). outbox_held r.holding) k.took.is)
by_stage n b i (stage.Capture s) p k one none_ = absurd (by_capture n b i s p k)
by_stage n b i (stage.GivingBack t e) p k one none_ = absurd (refuses_none e none_)

pub outbox_handed : (n : ℕ) (b : Record) (i : ℕ) (walk : Walk) (p : Record) → IsSwept n b i walk p → refusal_of_walk walk ≡ None → entries_of_walk walk ≡ outbox_held p.holding
outbox_handed n b i walk p k none_ = by_stage n b i walk.stage p k.fits k.one_left none_
