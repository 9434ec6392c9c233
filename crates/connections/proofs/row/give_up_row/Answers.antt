use Rattle.std.proofs.Common.{refl, ◌∙◌}
use Rattle.connections.proofs.Giving.{gives_more, gives_none}
use Rattle.connections.proofs.Owning.{owns_first, still_owns_row}
use Rattle.connections.proofs.Queues.{empty_queue}
use Rattle.connections.proofs.row.give_up_row.Goals as goal

pub places-init : goal.places-init
places-init g c = (λ s leads. leads, refl, c.requires.owned, λ held p. p)

pub give_up-requires : goal.give_up-requires
give_up-requires g c =
    record { owned = (owns_first g.C.Calls.owns _ _ _ _ c.in-Some.ensures.items c.places.invariant.2).0 }

pub places-preserved : goal.places-preserved
places-preserved g c =
    (λ s leads. c.places.invariant.0 s (gives_more g.C.Calls.began g.C.Calls.finished g.C.Calls.gave_up _ c.give_up.new.calls _ _ _ _ c.in-Some.ensures.items c.give_up.ensures.gave_up leads), c.in-Some.ensures.capacity ∙ c.places.invariant.1, still_owns_row g.C.Calls.owns _ _ _ c.give_up.ensures.others (owns_first g.C.Calls.owns _ _ _ _ c.in-Some.ensures.items c.places.invariant.2).1, λ held p. c.give_up.ensures.others held (c.places.invariant.3 held p))

pub returns-clause-given : goal.returns-clause-given
returns-clause-given g c =
    c.places.invariant.0 _ (gives_none g.C.Calls.began g.C.Calls.finished g.C.Calls.gave_up _ _ _ c.in_default.ensures.items (empty_queue _ _ c.pop_front.new.self.ok.0 c.in_default.ensures.cases.1))

pub returns-clause-empty : goal.returns-clause-empty
returns-clause-empty g c = empty_queue _ _ c.pop_front.new.self.ok.0 c.in_default.ensures.cases.1
