use Rattle.stripe_locks.specs.Passes.{recorded}
use Rattle.view_walk.specs.Viewing.{Fits}
use Rattle.durable_map.specs.Maps.{stripe_count}
use Rattle.durable_map.proofs.Viewing.{some_stripes}
use Rattle.test_store.proofs.view_steps.between_puts.Goals as goal

pub advanced-requires-clause-fits : goal.advanced-requires-clause-fits
advanced-requires-clause-fits g c =
    let b = recorded c.in_ok-pass.pass in
    (b, c.new.ensures (stripe_count c.args.map.now) b (some_stripes c.args.map.now) c.in_ok-pass.ensures.ready.free)

pub advanced-requires-2-clause-fits : goal.advanced-requires-2-clause-fits
advanced-requires-2-clause-fits g c =
    let n = stripe_count c.args.map.now in
    let b = recorded c.in_ok-pass.pass in
    let begun : Fits n b c.new.result b = c.new.ensures n b (some_stripes c.args.map.now) c.in_ok-pass.ensures.ready.free in
    (b, c.in_ok-walk.ensures.fits b begun)

pub ended-requires-clause-fits : goal.ended-requires-clause-fits
ended-requires-clause-fits g c =
    let n = stripe_count c.args.map.now in
    let b = recorded c.in_ok-pass.pass in
    let begun : Fits n b c.new.result b = c.new.ensures n b (some_stripes c.args.map.now) c.in_ok-pass.ensures.ready.free in
    (b, c.in_ok-walk-2.ensures.fits b (c.in_ok-walk.ensures.fits b begun))
