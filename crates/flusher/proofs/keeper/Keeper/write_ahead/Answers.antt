use Rattle.std.proofs.Common.{refl}
use Rattle.flusher.proofs.NewestSteps.{log_may}
use Rattle.flusher.proofs.Advancing.{still_moments}
use Rattle.flusher.proofs.Committing.{stops_by}
use Rattle.flusher.proofs.WrittenAhead.{ahead_moments, fits_ahead}
use Rattle.flusher.proofs.keeper.Keeper.write_ahead.Goals as goal

pub returns-then-self-clause-any_moment : goal.returns-then-self-clause-any_moment
returns-then-self-clause-any_moment g c = λ n done p f h.
    still_moments g.D.Disk.states c.args.self.now.disk c.args.self.now.disk _ refl (stops_by g.D.Disk.states g.D.Disk.honest n done c.args.self.now p c.stops_of_a_store.ensures.rests f h)

pub write_zeros-requires-clause-stands : goal.write_zeros-requires-clause-stands
write_zeros-requires-clause-stands g c = log_may g.D.Disk.states g.D.Disk.honest c.requires.0 c.requires.1 c.args.self.now c.requires.2 c.requires.3 c.if-self.false

pub returns-clause-any_moment : goal.returns-clause-any_moment
returns-clause-any_moment g c = λ n done p f h.
    let e = c.write_zeros.ensures in
    ahead_moments g.D.Disk.states g.D.Disk.failures g.D.Disk.honest n done c.args.self.now c.write_zeros.new.self p f c.write_zeros.result c.stops_of_a_store.ensures.rests c.stops_of_a_store.ensures.log h
    (record { same = e.same; works = c.if-self.false; ahead = e.ahead; ok = e.ok; err = e.err })

pub returns-clause-fits : goal.returns-clause-fits
returns-clause-fits g c = λ n done p f.
    let e = c.write_zeros.ensures in
    fits_ahead g.D.Disk.states g.D.Disk.failures g.D.Disk.honest n done c.args.self.now c.write_zeros.new.self p f c.write_zeros.result c.steps_of_logs.ensures.stays c.stops_of_a_store.ensures.log
    (record { same = e.same; works = c.if-self.false; ahead = e.ahead; ok = e.ok; err = e.err })
