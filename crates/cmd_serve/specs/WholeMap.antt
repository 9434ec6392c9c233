-- What is replied to a request of the whole map.
use Rattle.std.specs.Prelude.{◌≡◌, ◌⊎◌, ℕ, pos, Option, Some, Result, Ok, Err}
use Rattle.std.specs.Option.{option_map}
use Rattle.map_types.specs.declared.commands.Func.{Func}
use Rattle.map_types.specs.declared.commands.FuncError.{FuncError}
use Rattle.map_types.specs.declared.commands.Reply.{Reply}
use Rattle.map_types.specs.declared.commands.Reply.TheVariants.{Now, Fault}
use Rattle.map_types.specs.declared.refusals.Refusal.{Refusal}
use Rattle.map_types.specs.declared.refusals.Refusal.TheVariants.{NoMemory, UnknownFunction}
use Rattle.map_types.specs.declared.texts.Value.{Value}
use Rattle.map_types.specs.declared.texts.Value.TheVariants.{Int, Text}
use Rattle.map_model.specs.Maps.{Map}
use Rattle.ticket_order.specs.declared.record.Record.{Record}
use Rattle.bulk_tasks.specs.Bulk.{IsReducing, count_of, key_of_value, reduction_of}
use Rattle.bulk_tasks.specs.Completing.{CompletesView}
use Rattle.bulk_tasks.specs.ViewState.{ViewState}
use Rattle.wire_frames.specs.declared.requests.Bulk.{Bulk}
use Rattle.wire_frames.specs.declared.requests.Bulk.TheVariants.{Count, Reduce, Search}
use Rattle.connections.specs.Dialogue.{Answer}

-- what a reduction came to, as a reply
abbrev pub reduced : Result (Option Value) FuncError → Reply
reduced (Ok value) = Now value
reduced (Err fault) = Fault fault

-- The answer to a request of the whole map, if this is the map. A threshold changes nothing. Memory is taken for a key
-- that was found alone.
abbrev pub AnswersOf : Map → Bulk → Answer → Type 0
AnswersOf m Count answer = answer ≡ Ok (Now (Some (Int (pos (count_of m)))))
AnswersOf m (Reduce func threshold) (Ok reply) = IsReducing func × (reply ≡ reduced (reduction_of func m))
AnswersOf m (Reduce func threshold) (Err refusal) = ⊥
AnswersOf m (Search threshold sought) (Ok reply) = reply ≡ Now (option_map (λ key. Text key) (key_of_value sought m))
AnswersOf m (Search threshold sought) (Err refusal) = refusal ≡ NoMemory

-- the answer if this came of the view that was taken for it: of the view's map, or refused as the view was
abbrev pub AnswersBy : Result ViewState Refusal → Bulk → Answer → Type 0
AnswersBy (Ok view) bulk answer = AnswersOf view.map bulk answer
AnswersBy (Err refusal) bulk answer = answer ≡ Err refusal

-- A view of n stripes was taken on the record of a pass, and the request of the whole map was answered by it.
pub record AnswersBulk (n : ℕ) (v : Record) (bulk : Bulk) (answer : Answer) (w : Record) : Type 0 where
  pub view : Result ViewState Refusal
  pub completes : CompletesView n v view w
  pub answers : AnswersBy view bulk answer

-- A reduction by a function that reduces nothing was refused, and nothing else was done.
pub record RefusesUnknown (v : Record) (bulk : Bulk) (answer : Answer) (w : Record) : Type 0 where
  pub func : Func
  pub threshold : ℕ
  pub asks : bulk ≡ Reduce func threshold
  pub unknown : IsReducing func → ⊥
  pub refused : answer ≡ Err UnknownFunction
  pub same : w ≡ v

-- what was done for a request of the whole map
abbrev pub CompletesBulk : ℕ → Record → Bulk → Answer → Record → Type 0
CompletesBulk n v bulk answer w = AnswersBulk n v bulk answer w ⊎ RefusesUnknown v bulk answer w
