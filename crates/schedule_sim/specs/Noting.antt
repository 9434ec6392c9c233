-- What is noted of a disk's last call, and of the failure that is planned.
use Rattle.std.specs.Prelude.{◌≡◌, ℕ, List, [], ◌∷◌, length, Option, None, Some, IfSome, Result, Ok, Err}
use Rattle.std.specs.Coded.{le_prop}
use mathlib.Core.List.{is_set as list_set}
use native.Mathlib.Nat.{ℕ_set}
use Rattle.disk_model.specs.Files.{File, Files, Range, now}
use Rattle.disk_model.specs.declared.disk.DeviceError.{DeviceError}
use Rattle.disk_model.specs.declared.fill.Fill.{Fill}
use Rattle.disk_model.specs.declared.plan.Failure.{Failure}
use Rattle.sim_rules.specs.declared.outcome.DeviceCall.{DeviceCall}
use Rattle.sim_rules.specs.declared.outcome.DeviceCall.TheVariants as device
use Rattle.sim_rules.specs.After.{called, failed}
use Rattle.sim_rules.specs.Cases.{IsPossible}
use Rattle.schedule_sim.specs.declared.traced.Noted.{Noted}

-- what the call leaves: if it is lost, what the fill says
abbrev pub left : Option Fill → DeviceCall → Files → Files
left None call files = called call files
left (Some fill) call files = failed fill call files

-- The last call was this one, which could be made, and the newest state is what it left.
abbrev pub WasLast : Option Fill → DeviceCall → List Files → Type 0
WasLast lost call [] = ⊥
WasLast lost call (files ∷ before) = IsPossible (now before) call × (files ≡ left lost call (now before))

-- what an answer says of the call, if it was made by the plan
abbrev pub CameTo : Result (Unit {0}) DeviceError → Option Fill → DeviceCall → List Files → Type 0
CameTo (Ok unit) fill call states = WasLast None call states
CameTo (Err e) fill call states = IfSome fill (λ f. WasLast (Some f) call states)

abbrev pub IsTied : Option Noted → List Files → Type 0
IsTied None states = Unit {0}
IsTied (Some noted) states = WasLast noted.lost noted.call states

-- a failing call leaves the same with both
abbrev pub IsSameFill : Fill → Fill → Type 0
IsSameFill one other = (call : DeviceCall) (files : Files) → failed one call files ≡ failed other call files

-- if a failure is planned, this is its fill
abbrev pub IsPlanned : Option Fill → Option Failure → Type 0
IsPlanned fill None = Unit {0}
IsPlanned None (Some failure) = ⊥
IsPlanned (Some fill) (Some failure) = IsSameFill fill failure.fill

-- if a count is known, it is that of the states
abbrev pub IsCounted : Option ℕ → List Files → Type 0
IsCounted None states = Unit {0}
IsCounted (Some n) states = n ≡ length states

-- ---- each of these is a proposition

numbers_set : IsSet (List ℕ)
numbers_set = list_set ℕ_set

range_set : IsSet Range
range_set = hlevel (ℕ_set, numbers_set)

ranges_set : IsSet (List Range)
ranges_set = list_set range_set

file_set : IsSet File
file_set = hlevel (ℕ_set, numbers_set, ranges_set)

files_set : IsSet Files
files_set = hlevel file_set

possible_prop : (files : Files) (call : DeviceCall) → IsProp (IsPossible files call)
possible_prop files (device.Write file at bytes) = hlevel le_prop
possible_prop files (device.Sync file) = hlevel le_prop

last_prop : (lost : Option Fill) (call : DeviceCall) (states : List Files) → IsProp (WasLast lost call states)
last_prop lost call [] = hlevel
last_prop lost call (files ∷ before) = hlevel (possible_prop, files_set)

pub tied_prop : (last : Option Noted) (states : List Files) → IsProp (IsTied last states)
tied_prop None states = hlevel
tied_prop (Some noted) states = last_prop noted.lost noted.call states

pub planned_prop : (fill : Option Fill) (failure : Option Failure) → IsProp (IsPlanned fill failure)
planned_prop fill None = hlevel
planned_prop None (Some failure) = hlevel
planned_prop (Some fill) (Some failure) = hlevel files_set

pub counted_prop : (calls : Option ℕ) (states : List Files) → IsProp (IsCounted calls states)
counted_prop None states = hlevel
counted_prop (Some n) states = hlevel ℕ_set
