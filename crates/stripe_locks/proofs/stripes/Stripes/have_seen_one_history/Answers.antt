use Rattle.std.proofs.Common.{◌∙◌, [], Bool, ap, arith, subst}
use Rattle.std.specs.Prelude.{if◌then◌else◌}
use Rattle.std.specs.List.{All}
use Rattle.ticket_order.specs.declared.record.Record.{Record}
use Rattle.stripe_locks.specs.Plays.{carried}
use Rattle.stripe_locks.specs.Rule.{BearsOut, commands_of}
use Rattle.stripe_locks.specs.Fronts.{AreComparable, both_fronts}
use Rattle.stripe_locks.proofs.Turning.{M}
use Rattle.stripe_locks.proofs.Comparing.{joins, allows_compare, commands_are}
use Rattle.stripe_locks.proofs.stripes.Stripes.have_seen_one_history.Goals as goal

pub join_seat-requires : goal.join_seat-requires
join_seat-requires c = (c.requires.one, c.requires.other, c.args.other.carries ∙ ap carried c.requires.empty_handed, omega (arith, c.args.self.now.words), joins _ _ _ _ _ c.args.one.enrolled c.args.other.enrolled)

pub load-requires : goal.load-requires
load-requires c = (c.join_seat.ensures.0 ∙ c.requires.one, omega (arith, c.args.self.now.words), allows_compare _ _ _ _ (ap (λ (m : M). m.0.pass.enrolled) c.join_seat.ensures.2))

pub returns-clause-fronts : goal.returns-clause-fronts
returns-clause-fronts c =
    let told : AreComparable c.join_seat.new.seat.me.0.pass.seen (commands_of c.join_seat.new.seat.me.0.pass.taken) = c.load.ensures.2.0 in
    let plain : AreComparable c.args.one.seat.me.0.pass.seen (commands_of (both_fronts c.args.one.seat.me.0 c.args.other.seat.me.0).pass.taken) = subst (λ (m : M). AreComparable m.0.pass.seen (commands_of m.0.pass.taken)) c.join_seat.ensures.2 told in
    subst (AreComparable c.args.one.seat.me.0.pass.seen) (commands_are 0 c.args.other.seat.me.0.pass.seen) plain

pub returns-clause-borne_out : goal.returns-clause-borne_out
returns-clause-borne_out c = λ keeper.
    let one : Record = c.args.one.seat.me.0.pass in let other : Record = c.args.other.seat.me.0.pass in
    let told : All (BearsOut c.join_seat.new.seat.me.0.pass.published c.join_seat.new.seat.me.0.pass.failed) c.join_seat.new.seat.me.0.pass.steps = c.load.ensures.2.1 in
    let both : All (BearsOut other.published other.failed) (if other.keeper then one.steps else []) = subst (λ (m : M). All (BearsOut m.0.pass.published m.0.pass.failed) m.0.pass.steps) c.join_seat.ensures.2 told in
    subst (λ (b : Bool). All (BearsOut other.published other.failed) (if b then one.steps else [])) keeper both
