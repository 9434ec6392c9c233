use Rattle.test_store.proofs.view_steps.advanced.Goals as goal

pub view_step-requires-clause-fits : goal.view_step-requires-clause-fits
view_step-requires-clause-fits c = (c.requires.fits.0, c.loop-step.invariant.fits c.requires.fits.0 c.requires.fits.1)
