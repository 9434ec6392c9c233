use Rattle.std.proofs.Common.{◌≡◌, ◌<◌, false, refl, subst}
use Rattle.java_hash.specs.Stripes.{stripe_of}
use Rattle.atomic_methods.proofs.GrowthLaws.{grown_still}
use Rattle.ticket_order.specs.Records.{ticket_limit}
use Rattle.ticket_order.specs.Walks.{ToChange}
use Rattle.ticket_order.proofs.Walking.{found_content, content_lived, content_looked, given_back_alive, took_alive, took_looked, same_looked, within_since, change_failed, change_spent, change_starved}
use Rattle.ticket_order.proofs.calls.change_taken.Goals as goal

pub returns-then-not-alive-clause-content : goal.returns-then-not-alive-clause-content
returns-then-not-alive-clause-content g c =
    let f = c.requires.found in
    content_lived f.0 _ _ c.args.taken false (found_content _ _ _ f.1) (rw c.if-not-alive.true at c.alive.ensures.step)

pub returns-then-not-alive-clause-refused : goal.returns-then-not-alive-clause-refused
returns-then-not-alive-clause-refused g c = λ b f rises.
    (change_failed _ _ _ _ (ToChange c.args.new.command) c.args.new.command c.args.taken (record { task_is = refl; stripe_is = c.requires.stripe }) (found_content _ _ _ f) (rises refl) (rw c.if-not-alive.true at c.alive.ensures.step)).refused

pub returns-then-not-alive-clause-failed : goal.returns-then-not-alive-clause-failed
returns-then-not-alive-clause-failed g c = λ b f failed.
    given_back_alive _ _ _ _ c.args.taken _ false (found_content _ _ _ f) (rw c.if-not-alive.true at c.alive.ensures.step) refl refl

pub returns-then-look-ge-TICKET_LIMIT-clause-content : goal.returns-then-look-ge-TICKET_LIMIT-clause-content
returns-then-look-ge-TICKET_LIMIT-clause-content g c =
    let f = c.requires.found in
    let alive = took_alive f.0 _ _ c.args.taken (found_content _ _ _ f.1) (rw c.if-not-alive.false at c.alive.ensures.step) in
    content_looked f.0 _ c.args.taken c.args.taken (took_looked _ _ _ _ _ alive c.look.ensures.step) refl refl refl refl

pub returns-then-look-ge-TICKET_LIMIT-clause-refused : goal.returns-then-look-ge-TICKET_LIMIT-clause-refused
returns-then-look-ge-TICKET_LIMIT-clause-refused g c = λ b f rises.
    let alive = took_alive b _ _ c.args.taken (found_content _ _ _ f) (rw c.if-not-alive.false at c.alive.ensures.step) in
    (change_spent _ _ _ _ (ToChange c.args.new.command) c.args.new.command _ c.args.taken (record { task_is = refl; stripe_is = c.requires.stripe }) alive c.look.ensures.step c.if-look-ge-TICKET_LIMIT.true).refused

pub change_ready-taken-requires : goal.change_ready-taken-requires
change_ready-taken-requires g c =
    let f = c.requires.found in
    let at : c.args.taken.stripe ≡ stripe_of (g.S.Steps.stripe_count c.look.new.self) c.args.new.command.key = rw (c.look.ensures.stripes, c.alive.ensures.stripes) c.requires.stripe in
    let alive = took_alive f.0 _ _ c.args.taken (found_content _ _ _ f.1) (rw c.if-not-alive.false at c.alive.ensures.step) in (
      f.0,
      (
        record { task_is = refl; stripe_is = at },
        same_looked _ _ c.args.taken _ (took_looked _ _ _ _ _ alive c.look.ensures.step) refl c.prepare.ensures.part c.prepare.ensures.outbox c.prepare.ensures.last,
        subst (λ z. z < ticket_limit) c.look.ensures.step.count_is c.if-look-ge-TICKET_LIMIT.false,
        c.in-Ok.ensures.ok,
        within_since _ _ c.args.new.command _ _ f.1 c.requires.within,
      ),
    )

pub returns-in-Ok-clause-growth : goal.returns-in-Ok-clause-growth
returns-in-Ok-clause-growth g c = grown_still _ c.prepare.new.self.part _ c.change_ready-taken.ensures.growth c.in-Ok.ensures.growth

pub returns-in-Ok-clause-made : goal.returns-in-Ok-clause-made
returns-in-Ok-clause-made g c = λ b f.
    let at : c.args.taken.stripe ≡ stripe_of (g.S.Steps.stripe_count c.look.new.self) c.args.new.command.key = rw (c.look.ensures.stripes, c.alive.ensures.stripes) c.requires.stripe in
    let alive = took_alive b _ _ c.args.taken (found_content _ _ _ f) (rw c.if-not-alive.false at c.alive.ensures.step) in
    rw (← c.alive.ensures.stripes, ← c.look.ensures.stripes)
    (c.change_ready-taken.ensures.made b (
      record { task_is = refl; stripe_is = at },
      same_looked _ _ c.args.taken _ (took_looked _ _ _ _ _ alive c.look.ensures.step) refl c.prepare.ensures.part c.prepare.ensures.outbox c.prepare.ensures.last,
      subst (λ z. z < ticket_limit) c.look.ensures.step.count_is c.if-look-ge-TICKET_LIMIT.false,
      c.in-Ok.ensures.ok,
      within_since _ _ c.args.new.command _ _ f c.requires.within,
    ))

pub returns-in-Err-clause-content : goal.returns-in-Err-clause-content
returns-in-Err-clause-content g c =
    let f = c.requires.found in
    let alive = took_alive f.0 _ _ c.args.taken (found_content _ _ _ f.1) (rw c.if-not-alive.false at c.alive.ensures.step) in
    content_looked f.0 _ c.args.taken _ (took_looked _ _ _ _ _ alive c.look.ensures.step) refl c.prepare.ensures.part c.prepare.ensures.outbox c.prepare.ensures.last

pub returns-in-Err-clause-refused : goal.returns-in-Err-clause-refused
returns-in-Err-clause-refused g c = λ b f rises.
    let alive = took_alive b _ _ c.args.taken (found_content _ _ _ f) (rw c.if-not-alive.false at c.alive.ensures.step) in
    (change_starved _ _ _ _ (ToChange c.args.new.command) c.args.new.command _ c.args.taken (record c.args.taken { content = c.prepare.new.self }) _ (record { task_is = refl; stripe_is = c.requires.stripe }) alive c.look.ensures.step c.if-look-ge-TICKET_LIMIT.false refl c.prepare.ensures.part c.prepare.ensures.outbox c.prepare.ensures.last c.in-Err.ensures.err).refused
