-- The functions that a map is reduced by.
use Rattle.std.specs.Prelude.{Bool, true, false}
use Rattle.map_types.specs.declared.commands.Func.{Func}
use Rattle.map_types.specs.declared.commands.Func.TheVariants.{Sum, Max, Min}

abbrev pub reduces : Func → Bool
reduces Sum = true
reduces Max = true
reduces Min = true
reduces _ = false
