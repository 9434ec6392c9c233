-- What a traced disk shows.
use Rattle.std.specs.Prelude.{List}
use Rattle.disk_model.specs.Files.{Files}
use Rattle.disk_model.specs.Memory.{memory_states}
use Rattle.schedule_sim.specs.declared.traced.Traced.{Traced}

-- the states of its files, the newest first
abbrev pub traced_states : Traced → List Files
traced_states traced = memory_states traced.disk

-- a disk in memory gives what was written
abbrev pub traced_honest : Traced → Type 0
traced_honest traced = Unit {0}
