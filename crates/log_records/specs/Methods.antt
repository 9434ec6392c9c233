-- The numbers of the methods that change the map.
use Rattle.std.specs.Prelude.{ℕ, List, [], ◌∷◌}
use Rattle.map_types.specs.declared.commands.Func.{Func}
use Rattle.map_types.specs.declared.commands.Func.TheVariants.{Const, Drop, Keep, Sum, Max, Min, Concat, SumNonzero}
use Rattle.map_types.specs.declared.commands.Func.TheVariants.{SumExact}
use Rattle.map_types.specs.declared.commands.Change.{Change}
use Rattle.map_types.specs.declared.commands.Change.TheVariants as change
use Rattle.log_records.specs.declared.methods.Method.{Method}
use Rattle.log_records.specs.declared.methods.Method.TheVariants.{Put, PutIfAbsent, Remove, RemoveIf, Replace}
use Rattle.log_records.specs.declared.methods.Method.TheVariants.{ReplaceIf, Compute, ComputeIfAbsent, ComputeIfPresent}
use Rattle.log_records.specs.declared.methods.Method.TheVariants.{Merge}

abbrev pub method_number : Method → ℕ
method_number Put = 16
method_number PutIfAbsent = 17
method_number Remove = 18
method_number RemoveIf = 19
method_number Replace = 20
method_number ReplaceIf = 21
method_number Compute = 22
method_number ComputeIfAbsent = 23
method_number ComputeIfPresent = 24
method_number Merge = 25

abbrev pub all_methods : List Method
all_methods =
    Put ∷ PutIfAbsent ∷ Remove ∷ RemoveIf ∷ Replace ∷ ReplaceIf
    ∷ Compute ∷ ComputeIfAbsent ∷ ComputeIfPresent ∷ Merge ∷ []

abbrev pub all_funcs : List Func
all_funcs = Const ∷ Drop ∷ Keep ∷ Sum ∷ Max ∷ Min ∷ Concat ∷ SumNonzero ∷ SumExact ∷ []

-- the method that a change calls
abbrev pub method_of : Change → Method
method_of (change.Put value) = Put
method_of (change.PutIfAbsent value) = PutIfAbsent
method_of change.Remove = Remove
method_of (change.RemoveIf value) = RemoveIf
method_of (change.Replace value) = Replace
method_of (change.ReplaceIf old new) = ReplaceIf
method_of (change.Compute func argument) = Compute
method_of (change.ComputeIfAbsent func argument) = ComputeIfAbsent
method_of (change.ComputeIfPresent func argument) = ComputeIfPresent
method_of (change.Merge func value) = Merge
