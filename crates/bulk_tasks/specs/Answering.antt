-- What is answered of a view as it is walked, with no copy of it.
use Rattle.std.specs.Prelude.{◌≡◌, ℕ, List, Result, Ok, Err}
use Rattle.std.specs.List.{flat_map}
use Rattle.std.specs.FinMap as finite
use Rattle.map_types.specs.declared.refusals.Refusal.{Refusal}
use Rattle.map_types.specs.declared.texts.Value.{Value}
use Rattle.map_model.specs.Maps.{Map}
use Rattle.ticket_order.specs.declared.record.Record.{Record}
use Rattle.ticket_order.specs.declared.record.Section.{Section}
use Rattle.bulk_tasks.specs.Completing.{CompletesView}
use Rattle.bulk_tasks.specs.ViewState.{ViewState}

-- the entries of the sections, one section after another
abbrev pub entries_kept : List Section → List (List ℕ × Value)
entries_kept xs = flat_map (λ (x : Section). finite.entries x.part) xs

-- the answer of the view's map, or refused as the view
abbrev pub answered : {A : Type 0} → (Map → A) → Result ViewState Refusal → Result A Refusal
answered answer (Ok view) = Ok (answer view.map)
answered answer (Err refusal) = Err refusal

-- A view of n stripes was taken on the record of a pass, and this is answered of its map, or refused as the view was.
pub record AnswersByView {A : Type 0} (n : ℕ) (v : Record) (answer : Map → A) (result : Result A Refusal)
    (w : Record) : Type 0 where
  pub view : Result ViewState Refusal
  pub completes : CompletesView n v view w
  pub is : result ≡ answered answer view
