-- What is so at every moment of a call.
use Rattle.std.specs.Prelude.{◌≡◌, List, ◌++◌}
use Rattle.std.specs.List.{AllByRecursion}
use Rattle.disk_model.specs.Files.{Files, now}

-- At every moment from old to new, before, within and after each device call, the files are in a state that has P.
-- (Within a call a stop leaves what it may leave before the call, or what it may leave after it.)
pub record AtEachMoment {D : Type 0} (states : D → List Files) (old new : D) (P : Files → Type 0) : Type 0 where
  pub added : List Files
  pub longer : states new ≡ added ++ states old
  pub first : P (now (states old))
  pub each : AllByRecursion P added
