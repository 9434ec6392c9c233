-- What a change and a read do on a map: the methods of a `ConcurrentMap` of one thread.
use Rattle.std.specs.Prelude.{Bool, false, Option, None, Some, Result, Ok, Err, List, [], ◌∷◌, is_some, if◌then◌else◌}
use Rattle.std.specs.FinMap as finite
use Rattle.map_types.specs.declared.commands.Change.{Change}
use Rattle.map_types.specs.declared.commands.Change.TheVariants.{Put, PutIfAbsent, Remove, RemoveIf, Replace, ReplaceIf}
use Rattle.map_types.specs.declared.commands.Change.TheVariants.{Compute, ComputeIfAbsent, ComputeIfPresent, Merge}
use Rattle.map_types.specs.declared.commands.Command.{Command}
use Rattle.map_types.specs.declared.commands.Question.{Question}
use Rattle.map_types.specs.declared.commands.Question.TheVariants.{Get, GetOrDefault, ContainsKey}
use Rattle.map_types.specs.declared.commands.Read.{Read}
use Rattle.map_types.specs.declared.commands.Reply.{Reply}
use Rattle.map_types.specs.declared.commands.Reply.TheVariants.{Was, Now, Did, Fault}
use Rattle.map_types.specs.declared.commands.FuncError.{FuncError}
use Rattle.map_types.specs.declared.texts.Value.{Value}
use Rattle.map_types.specs.ValueEq.{value_eq}
use Rattle.named_functions.specs.Functions.{apply}
pub use Rattle.map_model.specs.declared.outcomes.Outcome.{Outcome}
use Rattle.map_model.specs.Maps.{Map, assign}

-- there is a value, and it equals v
abbrev pub is_value : Option Value → Value → Bool
is_value None v = false
is_value (Some old) v = value_eq old v

-- a fault leaves the old value
abbrev pub computed : Option Value → Result (Option Value) FuncError → Outcome
computed old (Ok value) = record { value = value; reply = Now value }
computed old (Err fault) = record { value = old; reply = Fault fault }

abbrev pub outcome : Option Value → Change → Outcome
outcome old (Put v) = record { value = Some v; reply = Was old }
outcome old (PutIfAbsent v) = record { value = (if is_some old then old else Some v); reply = Was old }
outcome old Remove = record { value = None; reply = Was old }
outcome old (RemoveIf v) = record { value = (if is_value old v then None else old); reply = Did (is_value old v) }
outcome old (Replace v) = record { value = (if is_some old then Some v else None); reply = Was old }
outcome old (ReplaceIf expected new) =
    record { value = (if is_value old expected then Some new else old); reply = Did (is_value old expected) }
outcome old (Compute f arg) = computed old (apply f old arg)
outcome old (ComputeIfAbsent f arg) =
    if is_some old then record { value = old; reply = Now old } else computed old (apply f None arg)
outcome old (ComputeIfPresent f arg) =
    if is_some old then computed old (apply f old arg) else record { value = None; reply = Now None }
outcome old (Merge f v) =
    if is_some old then computed old (apply f old (Some v)) else record { value = Some v; reply = Now (Some v) }

pub record Stepped : Type 0 where
  pub map : Map
  pub reply : Reply

-- the map and the reply after one change
abbrev pub step : Map → Command → Stepped
step m c = let after = outcome (finite.get m c.key) c.change in
    record { map = assign m c.key after.value; reply = after.reply }

-- the reply to one read
abbrev pub answer_at : Option Value → Question → Reply
answer_at value Get = Now value
answer_at value (GetOrDefault default) = Now (if is_some value then value else Some default)
answer_at value ContainsKey = Did (is_some value)

abbrev pub answer : Map → Read → Reply
answer m r = answer_at (finite.get m r.key) r.question

-- the map after the commands, in order
abbrev pub map_after : Map → List Command → Map
map_after m [] = m
map_after m (c ∷ cs) = map_after (step m c).map cs

abbrev pub fold_of : List Command → Map
fold_of cs = map_after finite.empty cs
