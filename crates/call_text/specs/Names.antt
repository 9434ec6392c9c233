-- The names of the methods and of the functions.
use Rattle.std.specs.Prelude.{ℕ, List, [], ◌∷◌, Option, codes}
use Rattle.std.specs.Map.{lookup}
use Rattle.std.specs.Str.{bytes_eq}
use Rattle.map_types.specs.declared.commands.Func.{Func}
use Rattle.map_types.specs.declared.commands.Func.TheVariants as func
use Rattle.call_text.specs.declared.names.ReadMethod.TheVariants.{Get, GetOrDefault, ContainsKey}
use Rattle.call_text.specs.declared.names.ChangeMethod.TheVariants.{Put, PutIfAbsent, Remove, RemoveIf, Replace}
use Rattle.call_text.specs.declared.names.ChangeMethod.TheVariants.{ReplaceIf, Compute, ComputeIfAbsent}
use Rattle.call_text.specs.declared.names.ChangeMethod.TheVariants.{ComputeIfPresent, Merge}
use Rattle.call_text.specs.declared.names.BulkMethod.{BulkMethod}
use Rattle.call_text.specs.declared.names.BulkMethod.TheVariants.{Count, Reduce, Search}
use Rattle.call_text.specs.declared.names.Method.{Method}
use Rattle.call_text.specs.declared.names.Method.TheVariants.{Read, Change}

-- the bytes of a text
abbrev pub Text : Type 0
Text = List ℕ

-- the methods by their names
abbrev pub methods : List (Text × Method)
methods =
    (codes "get", Read Get)
    ∷ (codes "getOrDefault", Read GetOrDefault)
    ∷ (codes "containsKey", Read ContainsKey)
    ∷ (codes "put", Change Put)
    ∷ (codes "putIfAbsent", Change PutIfAbsent)
    ∷ (codes "remove", Change Remove)
    ∷ (codes "removeIf", Change RemoveIf)
    ∷ (codes "replace", Change Replace)
    ∷ (codes "replaceIf", Change ReplaceIf)
    ∷ (codes "compute", Change Compute)
    ∷ (codes "computeIfAbsent", Change ComputeIfAbsent)
    ∷ (codes "computeIfPresent", Change ComputeIfPresent)
    ∷ (codes "merge", Change Merge)
    ∷ []

abbrev pub method_named : Text → Option Method
method_named name = lookup (λ known. bytes_eq name known) methods

-- the functions by their names
abbrev pub funcs : List (Text × Func)
funcs =
    (codes "CONST", func.Const)
    ∷ (codes "DROP", func.Drop)
    ∷ (codes "KEEP", func.Keep)
    ∷ (codes "SUM", func.Sum)
    ∷ (codes "MAX", func.Max)
    ∷ (codes "MIN", func.Min)
    ∷ (codes "CONCAT", func.Concat)
    ∷ (codes "SUM_NONZERO", func.SumNonzero)
    ∷ (codes "SUM_EXACT", func.SumExact)
    ∷ []

abbrev pub func_named : Text → Option Func
func_named name = lookup (λ known. bytes_eq name known) funcs

-- the methods of the whole map by their names
abbrev pub bulk_methods : List (Text × BulkMethod)
bulk_methods =
    (codes "count", Count)
    ∷ (codes "reduce", Reduce)
    ∷ (codes "search", Search)
    ∷ []

abbrev pub bulk_named : Text → Option BulkMethod
bulk_named name = lookup (λ known. bytes_eq name known) bulk_methods
