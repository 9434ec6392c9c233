use Rattle.std.proofs.Common.{◌≡◌, ◌<◌, subst, sym, ◌∙◌, ap, ℕ, refl, List}
use Rattle.ticket_order.specs.declared.record.Record.{Record}
use Rattle.ticket_order.specs.Records.{outbox_held}
use Rattle.ticket_order.specs.Calls.{SweepsStripe, RefusesSweep}
use Rattle.ticket_order.specs.Walks.{entries_of_walk}
use Rattle.flusher.specs.declared.sweeper.Sweeper.{Sweeper}
use Rattle.map_types.specs.declared.refusals.Refusal.TheVariants.{NoMemory}
use Rattle.ticket_order.specs.declared.stripe.Entry.{Entry}
use Rattle.store_layout.specs.Hands.{Hand}
use Rattle.flusher.specs.HandSteps.{Gains}
use Rattle.flusher.specs.Gathering.{Collects}
use Rattle.flusher.specs.Sweeping.{IsReady, IsSwept, Stands}
use Rattle.flusher.proofs.SweepStates.{IsNext, go_on_next, after_drain, stands_drained, done_drained, stands_put_back}
use Rattle.flusher.proofs.HandedOut.{outbox_handed}
use Rattle.flusher.proofs.sweeper.Sweeper.give.Goals as goal

pub hand_out-requires : goal.hand_out-requires
hand_out-requires g c = (c.requires.stands.1.begun, c.args.sweep.stripe, c.with_room-walk.ensures.swept _ _ _ _ c.requires.stands.1.taken)

pub go_on-requires : goal.go_on-requires
go_on-requires g c =
    let same : c.get.result ≡ g.S.Steps.stripe_count c.args.steps.now = c.get.ensures.value ∙ c.stripes.ensures ∙ c.in-Some.ensures.pass.1 in
    subst (λ z. c.args.sweep.stripe < z) (sym same) c.requires.stands.1.between.within

pub returns-in-Some-clause-one : goal.returns-in-Some-clause-one
returns-in-Some-clause-one g c = c.in-Some.ensures.one _ _ (c.with_room-walk.ensures.swept _ _ _ _ c.requires.stands.1.taken)

pub returns-in-Some-clause-after : goal.returns-in-Some-clause-after
returns-in-Some-clause-after g c =
    let n = g.S.Steps.stripe_count c.args.steps.now in
    let p = g.S.Steps.recorded c.args.steps.now in
    let w = g.S.Steps.recorded c.hand_out.new.steps in
    let i = c.args.sweep.stripe in
    let ready : IsReady c.args.self.now.in_hand c.with_room-walk.new.in_hand c.args.walk c.with_room-walk.result =
    subst (λ (h : Hand). IsReady h c.with_room-walk.new.in_hand c.args.walk c.with_room-walk.result) (ap (λ (s : Sweeper). s.in_hand) c.set_walking.ensures) c.with_room-walk.ensures in
    let is : c.in-Some.entries.items ≡ entries_of_walk c.args.walk = c.in-Some.ensures.entries.0 ∙ ready.entries c.in-Some.ensures.entries.1 in
    let swept : (b : Record) → IsSwept n b i c.args.walk p → SweepsStripe n b i (entries_of_walk c.args.walk) w =
    λ b k. subst (λ (es : List Entry). SweepsStripe n b i es w) is (c.in-Some.ensures.some b i (ready.swept n b i p k)) in
    let outbox : (b : Record) → IsSwept n b i c.args.walk p → entries_of_walk c.args.walk ≡ outbox_held p.holding =
    λ b k. sym (ready.entries c.in-Some.ensures.entries.1) ∙ outbox_handed n b i c.with_room-walk.result p (ready.swept n b i p k) c.in-Some.ensures.entries.1 in
    let collects : Collects c.args.self.now.in_hand (entries_of_walk c.args.walk) c.keep_in_hand.new.self.in_hand =
    ready.room c.in-Some.ensures.entries.1 c.keep_in_hand.new.self.in_hand (subst (λ (es : List Entry). Gains c.with_room-walk.new.in_hand es c.keep_in_hand.new.self.in_hand) is c.keep_in_hand.ensures.hand) in
    let same : c.get.result ≡ n = c.get.ensures.value ∙ c.stripes.ensures ∙ c.in-Some.ensures.pass.1 in
    let next : IsNext n c.args.sweep c.keep_in_hand.new.self.in_hand c.go_on.new.self c.go_on.result =
    go_on_next n c.get.result c.args.sweep c.keep_in_hand.new.self c.go_on.new.self c.go_on.result same c.go_on.ensures.more c.go_on.ensures.last in
    after_drain n c.args.sweep c.args.walk c.keep_in_hand.new.self.in_hand c.args.self.now.in_hand c.go_on.new.self p w c.go_on.result next c.requires.stands.1.between.within swept outbox collects

pub returns-in-Some-clause-stands : goal.returns-in-Some-clause-stands
returns-in-Some-clause-stands g c = λ gone k.
    let n = g.S.Steps.stripe_count c.args.steps.now in
    let p = g.S.Steps.recorded c.args.steps.now in
    let w = g.S.Steps.recorded c.hand_out.new.steps in
    let i = c.args.sweep.stripe in
    let ready : IsReady c.args.self.now.in_hand c.with_room-walk.new.in_hand c.args.walk c.with_room-walk.result =
    subst (λ (h : Hand). IsReady h c.with_room-walk.new.in_hand c.args.walk c.with_room-walk.result) (ap (λ (s : Sweeper). s.in_hand) c.set_walking.ensures) c.with_room-walk.ensures in
    let is : c.in-Some.entries.items ≡ entries_of_walk c.args.walk = c.in-Some.ensures.entries.0 ∙ ready.entries c.in-Some.ensures.entries.1 in
    let swept : (b : Record) → IsSwept n b i c.args.walk p → SweepsStripe n b i (entries_of_walk c.args.walk) w =
    λ b k. subst (λ (es : List Entry). SweepsStripe n b i es w) is (c.in-Some.ensures.some b i (ready.swept n b i p k)) in
    let collects : Collects c.args.self.now.in_hand (entries_of_walk c.args.walk) c.keep_in_hand.new.self.in_hand =
    ready.room c.in-Some.ensures.entries.1 c.keep_in_hand.new.self.in_hand (subst (λ (es : List Entry). Gains c.with_room-walk.new.in_hand es c.keep_in_hand.new.self.in_hand) is c.keep_in_hand.ensures.hand) in
    let same : c.get.result ≡ n = c.get.ensures.value ∙ c.stripes.ensures ∙ c.in-Some.ensures.pass.1 in
    let next : IsNext n c.args.sweep c.keep_in_hand.new.self.in_hand c.go_on.new.self c.go_on.result =
    go_on_next n c.get.result c.args.sweep c.keep_in_hand.new.self c.go_on.new.self c.go_on.result same c.go_on.ensures.more c.go_on.ensures.last in
    subst (λ (m : ℕ). Stands m c.go_on.new.self gone w) (sym c.in-Some.ensures.pass.1) (stands_drained n c.args.sweep c.args.walk c.keep_in_hand.new.self.in_hand c.args.self.now.in_hand c.go_on.new.self p w c.go_on.result gone next k swept collects)

pub returns-in-Some-clause-done : goal.returns-in-Some-clause-done
returns-in-Some-clause-done g c = λ gone k.
    let n = g.S.Steps.stripe_count c.args.steps.now in
    let p = g.S.Steps.recorded c.args.steps.now in
    let w = g.S.Steps.recorded c.hand_out.new.steps in
    let i = c.args.sweep.stripe in
    let ready : IsReady c.args.self.now.in_hand c.with_room-walk.new.in_hand c.args.walk c.with_room-walk.result =
    subst (λ (h : Hand). IsReady h c.with_room-walk.new.in_hand c.args.walk c.with_room-walk.result) (ap (λ (s : Sweeper). s.in_hand) c.set_walking.ensures) c.with_room-walk.ensures in
    let is : c.in-Some.entries.items ≡ entries_of_walk c.args.walk = c.in-Some.ensures.entries.0 ∙ ready.entries c.in-Some.ensures.entries.1 in
    let swept : (b : Record) → IsSwept n b i c.args.walk p → SweepsStripe n b i (entries_of_walk c.args.walk) w =
    λ b k. subst (λ (es : List Entry). SweepsStripe n b i es w) is (c.in-Some.ensures.some b i (ready.swept n b i p k)) in
    let collects : Collects c.args.self.now.in_hand (entries_of_walk c.args.walk) c.keep_in_hand.new.self.in_hand =
    ready.room c.in-Some.ensures.entries.1 c.keep_in_hand.new.self.in_hand (subst (λ (es : List Entry). Gains c.with_room-walk.new.in_hand es c.keep_in_hand.new.self.in_hand) is c.keep_in_hand.ensures.hand) in
    let same : c.get.result ≡ n = c.get.ensures.value ∙ c.stripes.ensures ∙ c.in-Some.ensures.pass.1 in
    let next : IsNext n c.args.sweep c.keep_in_hand.new.self.in_hand c.go_on.new.self c.go_on.result =
    go_on_next n c.get.result c.args.sweep c.keep_in_hand.new.self c.go_on.new.self c.go_on.result same c.go_on.ensures.more c.go_on.ensures.last in
    done_drained n c.args.sweep c.args.walk c.keep_in_hand.new.self.in_hand c.args.self.now.in_hand c.go_on.new.self p w c.go_on.result gone next k swept collects

pub returns-in-None-clause-one : goal.returns-in-None-clause-one
returns-in-None-clause-one g c = c.in-None.ensures.one _ _ (c.with_room-walk.ensures.swept _ _ _ _ c.requires.stands.1.taken)

pub returns-in-None-clause-after : goal.returns-in-None-clause-after
returns-in-None-clause-after g c =
    let n = g.S.Steps.stripe_count c.args.steps.now in
    let p = g.S.Steps.recorded c.args.steps.now in
    let w = g.S.Steps.recorded c.hand_out.new.steps in
    let i = c.args.sweep.stripe in
    let ready : IsReady c.args.self.now.in_hand c.with_room-walk.new.in_hand c.args.walk c.with_room-walk.result =
    subst (λ (h : Hand). IsReady h c.with_room-walk.new.in_hand c.args.walk c.with_room-walk.result) (ap (λ (s : Sweeper). s.in_hand) c.set_walking.ensures) c.with_room-walk.ensures in
    let back : (b : Record) → IsSwept n b i c.args.walk p → RefusesSweep b i NoMemory w = λ b k. c.in-None.ensures.none b i (ready.swept n b i p k) in
    let sweep_is = ap (λ (s : Sweeper). s.sweep) c.set_walking.ensures ∙ c.requires.sweep in
    let walking_is = ap (λ (s : Sweeper). s.walking) c.set_walking.ensures in
    record { refused = refl; swept = back; collects = ready.same; sweep_is = sweep_is; walking = walking_is }

pub returns-in-None-clause-stands : goal.returns-in-None-clause-stands
returns-in-None-clause-stands g c = λ gone k.
    let n = g.S.Steps.stripe_count c.args.steps.now in
    let p = g.S.Steps.recorded c.args.steps.now in
    let w = g.S.Steps.recorded c.hand_out.new.steps in
    let i = c.args.sweep.stripe in
    let ready : IsReady c.args.self.now.in_hand c.with_room-walk.new.in_hand c.args.walk c.with_room-walk.result =
    subst (λ (h : Hand). IsReady h c.with_room-walk.new.in_hand c.args.walk c.with_room-walk.result) (ap (λ (s : Sweeper). s.in_hand) c.set_walking.ensures) c.with_room-walk.ensures in
    let back : (b : Record) → IsSwept n b i c.args.walk p → RefusesSweep b i NoMemory w = λ b k. c.in-None.ensures.none b i (ready.swept n b i p k) in
    let sweep_is = ap (λ (s : Sweeper). s.sweep) c.set_walking.ensures ∙ c.requires.sweep in
    let walking_is = ap (λ (s : Sweeper). s.walking) c.set_walking.ensures in
    subst (λ (m : ℕ). Stands m (record c.set_walking.new.self { in_hand = c.with_room-walk.new.in_hand }) gone w) (sym c.in-None.ensures.pass.1)
    (stands_put_back n c.args.sweep c.args.walk c.with_room-walk.new.in_hand c.args.self.now.in_hand (record c.set_walking.new.self { in_hand = c.with_room-walk.new.in_hand }) p w gone refl sweep_is walking_is k back ready.same)
