use Rattle.std.proofs.Common.{◌≡◌, ℕ, max, sym, subst, ◌∙◌, ap, rules}
use Rattle.java_hash.specs.Stripes.{stripe_of}
use Rattle.map_types.specs.declared.commands.Read as read_type
use Rattle.ticket_order.specs.declared.stripe.Stripe.{Stripe}
use Rattle.ticket_order.specs.declared.read_walk.ReadStage.TheVariants as read
use Rattle.ticket_order.specs.declared.record.Record.{Record}
use Rattle.ticket_order.specs.declared.walk.Stage.TheVariants as stage
use Rattle.ticket_order.specs.declared.walk.Stepped.{Stepped}
use Rattle.ticket_order.specs.declared.walk.Stepped.TheVariants as stepped
use Rattle.ticket_order.specs.StepRules.{TakesStripe}
use Rattle.ticket_order.specs.Walks.{Task, ToRead, HasBegun, Next}
use Rattle.ticket_order.proofs.Walking.{taken_content, may_answer, answered_alive, read_failed, read_starved, made_read}
use Rattle.ticket_order.proofs.read_walk.ReadStage.step.Goals as goal

-- a TAKE that found the stripe free leaves the walk that has taken it
taken_read : (n : ℕ) (b p w : Record) (task : Task) (r : read_type.Read) (i : ℕ) (x : Stripe) (z : Stepped) → HasBegun b task (ToRead r) p → i ≡ stripe_of n r.key → TakesStripe n p i x w
    → z ≡ stepped.More (record { stage = stage.Read (read.HasTaken r (record { stripe = i; content = x })) }) → Next n b task z w
taken_read n b p w task r i x z h at took is = subst (λ (y : Stepped). Next n b task y w) (sym is) (record { task_is = h.task_is; stripe_is = at }, subst (λ (q : Record). TakesStripe n q i x w) h.is took)

pub returns-in-Some-clause-next : goal.returns-in-Some-clause-next
returns-in-Some-clause-next g c = λ b task f.
    let h = rw c.in-Begins.is at f in
    taken_read _ b _ _ task c.in-Begins.read c.stripe_of-stripe.result c.in-Some.content _ h (search rules) c.in-Some.ensures.step (cc)

pub returns-then-not-alive-clause-next : goal.returns-then-not-alive-clause-next
returns-then-not-alive-clause-next g c = λ b task f.
    let h = rw c.in-HasTaken.is at f in
    rw c.refused.ensures (read_failed _ b _ _ task c.in-HasTaken.read c.in-HasTaken.taken h.0 (taken_content _ b _ _ h.1) h.1.rises (rw c.if-not-alive.true at c.alive.ensures.step))

pub returns-in-Ok-clause-next : goal.returns-in-Ok-clause-next
returns-in-Ok-clause-next g c = λ b task f.
    let h = rw c.in-HasTaken.is at f in
    rw c.more-in-Ok.ensures (h.0, record { found = _; took = h.1; is = (rw c.if-not-alive.false at c.alive.ensures.step).is; position_is = c.read_position-position.ensures ∙ ap (λ x. max x c.in-HasTaken.taken.content.last) c.seen.ensures; reply_is = c.in-Ok.ensures.ok })

pub returns-in-Err-clause-next : goal.returns-in-Err-clause-next
returns-in-Err-clause-next g c = λ b task f.
    let h = rw c.in-HasTaken.is at f in
    rw c.refused-in-Err.ensures (read_starved _ b _ _ task c.in-HasTaken.read c.in-HasTaken.taken _ h.0 (taken_content _ b _ _ h.1) h.1.rises (rw c.if-not-alive.false at c.alive.ensures.step) c.in-Err.ensures.err)

pub give-requires : goal.give-requires
give-requires g c =
    let h = rw c.in-HasRead.is at c.requires.2 in
    record { fits = may_answer _ c.requires.0 _ c.in-HasRead.read c.in-HasRead.taken h.0.stripe_is (answered_alive _ _ _ _ _ _ h.1) }

pub returns-in-HasRead-clause-next : goal.returns-in-HasRead-clause-next
returns-in-HasRead-clause-next g c = λ b task f.
    let h = rw c.in-HasRead.is at f in
    rw h.0.task_is (made_read _ b _ _ task c.in-HasRead.read c.in-HasRead.taken c.in-HasRead.held h.0 h.1 c.give.ensures.step)
