use Rattle.std.proofs.Common.{arith}
use Rattle.ticket_order.specs.StepRules.{MayDraw}
use Rattle.stripe_locks.proofs.Stepping.{allows_draw}
use Rattle.stripe_locks.proofs.stripes.Stripes.ticket_as.Goals as goal

pub fetch_add-requires : goal.fetch_add-requires
fetch_add-requires g c =
    let may : MayDraw c.args.self.now.table.shared.table_id.slots c.args.pass.now.seat.me.0.pass g.C.Asks.change = rw (c.requires.asked, c.args.self.now.slots) c.requires.fits in
    (c.requires.own, omega (arith, c.args.self.now.words), allows_draw _ _ _ _ _ c.args.pass.now.enrolled may)
