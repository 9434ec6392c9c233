use Rattle.recovery.proofs.DividingLemmas.{lanes_changed}
use Rattle.recovery.proofs.divided.Divided.queue.Goals as goal

pub returns-clause-ok : goal.returns-clause-ok
returns-clause-ok c = λ m are.
    let own = c.stripe_of_spread-stripe.ensures.value c.args.command.key c.requires in
    lanes_changed c.args.self.now.stripes.count m c.args.command c.args.self.now.lanes.items c.stripe_of_spread-stripe.result _ c.index_mut.result.now c.queue.new.self
    own c.stripe_of_spread-stripe.ensures.within c.args.self.now.one_each c.index_mut.ensures.value c.in_ok-queue.ensures.map c.queue.ensures.stripes c.queue.ensures.content are
