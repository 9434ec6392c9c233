-- The number of each named function and of each fault.
use Rattle.std.specs.Prelude.{ℕ}
use Rattle.map_types.specs.declared.commands.Func.{Func}
use Rattle.map_types.specs.declared.commands.Func.TheVariants.{Const, Drop, Keep, Sum, Max, Min, Concat, SumNonzero}
use Rattle.map_types.specs.declared.commands.Func.TheVariants.{SumExact}
use Rattle.map_types.specs.declared.commands.FuncError.{FuncError}
use Rattle.map_types.specs.declared.commands.FuncError.TheVariants.{WrongKind, TooLong, Overflow}

abbrev pub func_number : Func → ℕ
func_number Const = 1
func_number Drop = 2
func_number Keep = 3
func_number Sum = 4
func_number Max = 5
func_number Min = 6
func_number Concat = 7
func_number SumNonzero = 8
func_number SumExact = 9

abbrev pub fault_number : FuncError → ℕ
fault_number WrongKind = 1
fault_number TooLong = 2
fault_number Overflow = 3
