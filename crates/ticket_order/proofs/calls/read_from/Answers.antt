use Rattle.std.proofs.Common.{◌≡◌, max, true, false, ◌∙◌, ap, refl}
use Rattle.java_hash.specs.Stripes.{stripe_of}
use Rattle.ticket_order.specs.Walks.{ToRead}
use Rattle.ticket_order.proofs.Walking.{found_content, taken_content, content_lived, given_back_alive, took_alive, may_answer, read_at, read_failed, read_starved, made_read}
use Rattle.ticket_order.proofs.calls.read_from.Goals as goal

pub give_back-requires : goal.give_back-requires
give_back-requires g c =
    let f = c.requires.found in
    content_lived f.0 _ _ c.args.taken false (found_content _ _ _ f.1) (rw c.if-not-alive.true at c.alive.ensures.step)

pub returns-then-not-alive-clause-left : goal.returns-then-not-alive-clause-left
returns-then-not-alive-clause-left g c = λ b f.
    rw c.give_back.ensures.same (given_back_alive _ _ _ _ c.args.taken _ false (found_content _ _ _ f) (rw c.if-not-alive.true at c.alive.ensures.step) c.give_back.ensures.given c.requires.stripe)

pub returns-then-not-alive-clause-refused : goal.returns-then-not-alive-clause-refused
returns-then-not-alive-clause-refused g c = λ b f.
    let at : c.args.taken.stripe ≡ stripe_of (g.S.Steps.stripe_count c.alive.new.self) c.args.read.key = rw c.alive.ensures.stripes c.requires.stripe in
    rw c.give_back.ensures.same (rw (← c.alive.ensures.stripes)
    (c.give_back.ensures.refused b (ToRead c.args.read) (read_failed _ _ _ _ _ c.args.read c.args.taken (record { task_is = refl; stripe_is = at }) (taken_content _ _ _ _ f) f.rises (rw c.if-not-alive.true at c.alive.ensures.step))))

pub give-requires : goal.give-requires
give-requires g c =
    let f = c.requires.found in
    let at : c.args.taken.stripe ≡ stripe_of (g.S.Steps.stripe_count c.alive.new.self) c.args.read.key = rw c.alive.ensures.stripes c.requires.stripe in
    record { fits = may_answer _ f.0 _ c.args.read c.args.taken at (took_alive f.0 _ _ c.args.taken (found_content _ _ _ f.1) (rw c.if-not-alive.false at c.alive.ensures.step)) }

pub returns-in-Ok-clause-answered : goal.returns-in-Ok-clause-answered
returns-in-Ok-clause-answered g c = λ b f.
    read_at _ b _ _ c.args.read c.args.taken _ c.requires.stripe (took_alive b _ _ c.args.taken (found_content _ _ _ f) (rw c.if-not-alive.false at c.alive.ensures.step))
    (c.read_position-position.ensures ∙ ap (λ x. max x c.args.taken.content.last) c.seen.ensures) c.in-Ok.ensures.ok c.give.ensures.step

pub returns-in-Ok-clause-made : goal.returns-in-Ok-clause-made
returns-in-Ok-clause-made g c = λ b f.
    made_read _ b _ _ (ToRead c.args.read) c.args.read c.args.taken _ (record { task_is = refl; stripe_is = c.requires.stripe })
    (record { found = _; took = f; is = (rw c.if-not-alive.false at c.alive.ensures.step).is; position_is = c.read_position-position.ensures ∙ ap (λ x. max x c.args.taken.content.last) c.seen.ensures; reply_is = c.in-Ok.ensures.ok }) c.give.ensures.step

pub give_back-requires-in-Err : goal.give_back-requires-in-Err
give_back-requires-in-Err g c =
    let f = c.requires.found in
    content_lived f.0 _ _ c.args.taken true (found_content _ _ _ f.1) (rw c.if-not-alive.false at c.alive.ensures.step)

pub returns-in-Err-clause-left : goal.returns-in-Err-clause-left
returns-in-Err-clause-left g c = λ b f.
    rw (c.give_back-in-Err.ensures.same, c.in-Err.ensures.err) (given_back_alive _ _ _ _ c.args.taken _ true (found_content _ _ _ f) (rw c.if-not-alive.false at c.alive.ensures.step) c.give_back-in-Err.ensures.given c.requires.stripe)

pub returns-in-Err-clause-refused : goal.returns-in-Err-clause-refused
returns-in-Err-clause-refused g c = λ b f.
    let at : c.args.taken.stripe ≡ stripe_of (g.S.Steps.stripe_count c.alive.new.self) c.args.read.key = rw c.alive.ensures.stripes c.requires.stripe in
    rw c.give_back-in-Err.ensures.same (rw (← c.alive.ensures.stripes)
    (c.give_back-in-Err.ensures.refused b (ToRead c.args.read) (read_starved _ _ _ _ _ c.args.read c.args.taken _ (record { task_is = refl; stripe_is = at }) (taken_content _ _ _ _ f) f.rises (rw c.if-not-alive.false at c.alive.ensures.step) c.in-Err.ensures.err)))
