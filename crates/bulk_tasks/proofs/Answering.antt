-- What is answered of the sections of a view is answered of its map.
use Rattle.std.proofs.Common.{◌≡◌, List, [], ◌∷◌, ◌++◌, ℕ, Ok, Err, refl, sym, ap, subst, ◌∙◌, append-nil}
use Rattle.std.proofs.lemmas.Grind.{flat_map-append}
use Rattle.std.specs.FinMap as finite
use Rattle.map_types.specs.declared.refusals.Refusal.{Refusal}
use Rattle.map_types.specs.declared.refusals.Refusal.TheVariants as refusal
use Rattle.map_model.specs.Maps.{Map}
use Rattle.ticket_order.specs.declared.record.Record.{Record}
use Rattle.ticket_order.specs.declared.record.Section.{Section}
use Rattle.ticket_order.specs.Legality.{history_of}
use Rattle.bin_table.specs.Chains.{HasDistinctKeys}
use Rattle.view_walk.specs.Walking.{IsDone, Refuses}
use Rattle.bulk_tasks.specs.Answering.{AnswersByView, entries_kept}
use Rattle.bulk_tasks.specs.Laws.{maps_of}
use Rattle.bulk_tasks.specs.Parts.{parts_from}
use Rattle.bulk_tasks.specs.ViewState.{ViewState}
use Rattle.map_model.specs.Parts.{union_of}
use Rattle.bulk_tasks.proofs.Apart.{distinct_parts}
use Rattle.bulk_tasks.proofs.Completing.{done, marks, refused, too_many}
use Rattle.bulk_tasks.proofs.Walked.{united_kept}

-- one more section
pub kept_more : (xs : List Section) (x : Section) → entries_kept (xs ++ x ∷ []) ≡ entries_kept xs ++ finite.entries x.part
kept_more xs x = flat_map-append (λ (y : Section). finite.entries y.part) xs (x ∷ []) ∙ ap (λ es. entries_kept xs ++ es) (append-nil (finite.entries x.part))

-- the entries of a whole view have distinct keys
pub distinct_kept : (n : ℕ) (b : Record) (xs : List Section) (w : Record) → IsDone n b xs w → HasDistinctKeys (entries_kept xs)
distinct_kept n b xs w d = subst HasDistinctKeys (sym (united_kept n 0 w xs d.all.gains.in_turn d.all.gains.legal)) (distinct_parts n 0 (maps_of (history_of w) xs))

-- it is the answer of the map of the sections' entries
pub answered_by : {A : Type 0} (n : ℕ) (b : Record) (xs : List Section) (w : Record) (answer : Map → A) (result : A) → IsDone n b xs w → result ≡ answer (finite.from_entries (entries_kept xs)) → AnswersByView n b answer (Ok result) w
answered_by n b xs w answer result d is =
    let view : ViewState = record { marks = marks xs; map = union_of (parts_from n 0 (maps_of (history_of w) xs)) } in record {
      view = Ok view;
      completes = done n b xs w view d (record { marks_are = refl; map_is = refl });
      is = ap Ok (is ∙ ap (λ es. answer (finite.from_entries es)) (united_kept n 0 w xs d.all.gains.in_turn d.all.gains.legal));
    }

-- there was no memory for the answer
pub starved_by : {A : Type 0} (n : ℕ) (b : Record) (xs : List Section) (w : Record) (answer : Map → A) → IsDone n b xs w → AnswersByView n b answer (Err refusal.NoMemory) w
starved_by n b xs w answer d = record { view = Err refusal.NoMemory; completes = too_many n b xs w d; is = refl }

-- it was refused
pub refused_by : {A : Type 0} (n : ℕ) (b : Record) (xs : List Section) (w : Record) (answer : Map → A) (e : Refusal) → Refuses n b xs e w → AnswersByView n b answer (Err e) w
refused_by n b xs w answer e k = record { view = Err e; completes = refused n b xs e w k; is = refl }
