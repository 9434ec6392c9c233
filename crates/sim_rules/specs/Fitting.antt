-- Which events fit.
use Rattle.std.specs.Prelude.{ℕ, Option, Some, None, Bool, true, false, ◌&&◌, ◌||◌, not, nat_lt}
use Rattle.sim_rules.specs.declared.event.Event.{Event}
use Rattle.sim_rules.specs.declared.event.Event.TheVariants as event
use Rattle.sim_rules.specs.declared.event.Side.{Side}
use Rattle.sim_rules.specs.declared.event.Side.TheVariants as side
use Rattle.sim_rules.specs.World.{World, Life, has_checkpoint_call, is_idle, is_keeping, is_resting, is_rotating}
use Rattle.sim_rules.specs.World.{is_walking, job_of, rests}

-- there are 64 workers
abbrev pub is_worker : ℕ → Bool
is_worker worker = nat_lt worker 64

-- A device call is to be made on this side. During a rotation none of the checkpoint is.
abbrev pub has_call : Side → Life → Bool
has_call side.Log l = not (is_resting l.log)
has_call side.Checkpoint l = not (is_rotating l.log) && has_checkpoint_call l.checkpoint

-- without a life
abbrev pub fits_outside : Event → Bool
fits_outside (event.Open stripes fails_at) = true
fits_outside (event.Stop None fill) = true
fits_outside e = false

-- In a life. While a sweep or a capture walks, the keeper makes only that walk's next step.
abbrev pub fits_inside : Life → Event → Bool
fits_inside l event.Old = false
fits_inside l (event.Open stripes fails_at) = false
fits_inside l (event.Change worker c) = is_worker worker && is_idle (job_of l worker)
fits_inside l (event.Read worker r) = is_worker worker && is_idle (job_of l worker)
fits_inside l (event.Step worker) = is_worker worker && is_walking (job_of l worker)
fits_inside l (event.Release worker) = is_worker worker && is_keeping (job_of l worker)
fits_inside l event.Sweep = rests l.walk
fits_inside l event.KeeperStep = not (rests l.walk)
fits_inside l (event.Stage most) = rests l.walk
fits_inside l (event.Device side ending) = rests l.walk && (l.is_broken || has_call side l)
fits_inside l event.Publish = rests l.walk && not l.has_failed
fits_inside l event.Fail = rests l.walk
fits_inside l event.Begin = rests l.walk
fits_inside l (event.Capture stripe) = rests l.walk
fits_inside l event.Seal = rests l.walk
fits_inside l (event.Stop None fill) = true
fits_inside l (event.Stop (Some side) fill) = rests l.walk && (has_call side l && not l.is_broken)
fits_inside l event.Leave = true

abbrev pub fits_with : Option Life → Event → Bool
fits_with None e = fits_outside e
fits_with (Some l) e = fits_inside l e

-- An Old fits in no world: the one that begins a run comes before the first.
abbrev pub fits : World → Event → Bool
fits w e = fits_with w.life e
