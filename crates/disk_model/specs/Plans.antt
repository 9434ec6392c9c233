-- A device call that is to fail.
use Rattle.std.specs.Prelude.{◌-◌, ◌==◌, Option, None, Some, if◌then◌else◌}
use Rattle.disk_model.specs.declared.fill.Fill.{Fill}
use Rattle.disk_model.specs.declared.plan.Failure.{Failure}

-- the fill with which the next call fails by plan
abbrev pub due_of : Option Failure → Option Fill
due_of None = None
due_of (Some failure) = if failure.after == 0 then Some failure.fill else None

-- the plan after one call more
abbrev pub passed : Option Failure → Option Failure
passed None = None
passed (Some failure) = if failure.after == 0 then None else Some (record failure { after = failure.after - 1 })
