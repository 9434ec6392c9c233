use Rattle.std.proofs.Common.{subst, sym}
use Rattle.store_layout.specs.Hands.{Hand}
use Rattle.flusher.specs.HandSteps.{MakesRoom}
use Rattle.flusher.specs.Sweeping.{IsReady}
use Rattle.flusher.proofs.SweepStates.{ready, not_ready}
use Rattle.flusher.proofs.sweeper.with_room.Goals as goal

pub returns-in-Ok : goal.returns-in-Ok
returns-in-Ok c = ready _ _ c.args.walk (subst (λ es. MakesRoom c.args.in_hand.now es c.make_room.new.self) c.entries.ensures c.in-Ok.ensures.ok)

pub returns-in-Err : goal.returns-in-Err
returns-in-Err c = subst (λ (h : Hand). IsReady c.args.in_hand.now h c.args.walk c.give_back.result) (sym c.in-Err.ensures.err) (not_ready c.args.in_hand.now c.args.walk c.give_back.result c.give_back.ensures.fits c.give_back.ensures.refuses c.give_back.ensures.same)
