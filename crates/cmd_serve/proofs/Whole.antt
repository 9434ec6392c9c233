-- The replies to requests of the whole map are those of the view that was taken.
use Rattle.std.proofs.Common.{◌≡◌, ◌⊎◌, ℕ, List, inl, inr, pos, Option, Some, Result, Ok, Err, refl, sym, ap, subst, ◌∙◌}
use Rattle.std.specs.Option.{option_map}
use Rattle.map_types.specs.declared.commands.Func.{Func}
use Rattle.map_types.specs.declared.commands.Func.TheVariants.{Sum, Max, Min}
use Rattle.map_types.specs.declared.commands.FuncError.{FuncError}
use Rattle.map_types.specs.declared.commands.Reply.{Reply}
use Rattle.map_types.specs.declared.commands.Reply.TheVariants.{Now}
use Rattle.map_types.specs.declared.refusals.Refusal.{Refusal}
use Rattle.map_types.specs.declared.refusals.Refusal.TheVariants.{NoMemory, UnknownFunction}
use Rattle.map_types.specs.declared.texts.Value.{Value}
use Rattle.map_types.specs.declared.texts.Value.TheVariants.{Int, Text}
use Rattle.map_model.specs.Maps.{Map}
use Rattle.ticket_order.specs.declared.record.Record.{Record}
use Rattle.bulk_tasks.specs.Answering.{AnswersByView, answered}
use Rattle.bulk_tasks.specs.Bulk.{IsReducing, count_of, key_of_value, reduction_of}
use Rattle.bulk_tasks.specs.Completing.{CompletesView}
use Rattle.bulk_tasks.specs.ViewState.{ViewState}
use Rattle.wire_frames.specs.declared.requests.Bulk.{Bulk}
use Rattle.wire_frames.specs.declared.requests.Bulk.TheVariants.{Count, Reduce, Search}
use Rattle.cmd_serve.specs.WholeMap.{CompletesBulk, reduced}

-- it was answered of a whole view
record OfView {A : Type 0} (n : ℕ) (v : Record) (answer : Map → A) (result : A) (w : Record) : Type 0 where
  view : ViewState
  completes : CompletesView n v (Ok view) w
  is : result ≡ answer view.map

of_view : {A : Type 0} (n : ℕ) (v w : Record) (answer : Map → A) (result : A) (view : Result ViewState Refusal) → CompletesView n v view w → Ok result ≡ answered answer view → OfView n v answer result w
of_view n v w answer result (Ok view) k is = record { view = view; completes = k; is = cc }
of_view n v w answer result (Err refusal) k is = cc

ok_view : {A : Type 0} (n : ℕ) (v w : Record) (answer : Map → A) (result : A) → AnswersByView n v answer (Ok result) w → OfView n v answer result w
ok_view n v w answer result a = of_view n v w answer result a.view a.completes a.is

of_refused : {A : Type 0} (n : ℕ) (v w : Record) (answer : Map → A) (e : Refusal) (view : Result ViewState Refusal) → CompletesView n v view w → Err e ≡ answered answer view → CompletesView n v (Err e) w
of_refused n v w answer e (Ok view) k is = cc
of_refused n v w answer e (Err refusal) k is = let same : e ≡ refusal = cc in subst (λ (x : Refusal). CompletesView n v (Err x) w) (sym same) k

-- refused as the view was
pub refused : {A : Type 0} (n : ℕ) (v w : Record) (answer : Map → A) (e : Refusal) (bulk : Bulk) → AnswersByView n v answer (Err e) w → CompletesBulk n v bulk (Err e) w
refused n v w answer e bulk a = inl (record { view = Err e; completes = of_refused n v w answer e a.view a.completes a.is; answers = refl })

pub counted : (n : ℕ) (v w : Record) (count : ℕ) → AnswersByView n v count_of (Ok count) w → CompletesBulk n v Count (Ok (Now (Some (Int (pos count))))) w
counted n v w count a =
    let k = ok_view n v w count_of count a in
    inl (record { view = Ok k.view; completes = k.completes; answers = ap (λ (i : ℕ). Ok (Now (Some (Int (pos i))))) k.is })

pub reduces : (n : ℕ) (v w : Record) (func : Func) (threshold : ℕ) (result : Result (Option Value) FuncError) → IsReducing func → AnswersByView n v (reduction_of func) (Ok result) w → CompletesBulk n v (Reduce func threshold) (Ok (reduced result)) w
reduces n v w func threshold result can a =
    let k = ok_view n v w (reduction_of func) result a in
    inl (record { view = Ok k.view; completes = k.completes; answers = (can, ap (λ (r : Result (Option Value) FuncError). reduced r) k.is) })

is_reducing : (f : Func) → IsReducing f ⊎ (IsReducing f → ⊥)
is_reducing Sum = inl tt
is_reducing Max = inl tt
is_reducing Min = inl tt
is_reducing other = inr (λ k. k)

module _ (n : ℕ) (v w : Record) (func : Func) (threshold : ℕ) where
  -- by a function that reduces nothing it is refused at once
  abbrev RefusedAtOnce : Result (Result (Option Value) FuncError) Refusal → Type 0
  RefusedAtOnce result = (IsReducing func → ⊥) → (result ≡ Err UnknownFunction) × (w ≡ v)

  reduced_so : (result : Result (Option Value) FuncError) → (IsReducing func → AnswersByView n v (reduction_of func) (Ok result) w) → RefusedAtOnce (Ok result) → IsReducing func ⊎ (IsReducing func → ⊥) → CompletesBulk n v (Reduce func threshold) (Ok (reduced result)) w
  reduced_so result is not (inl can) = reduces n v w func threshold result can (is can)
  reduced_so result is not (inr cannot) = let wrong : Ok result ≡ Err UnknownFunction = (not cannot).0 in cc

  -- it came to something
  pub reduced_ok : (result : Result (Option Value) FuncError) (reply : Reply) → reduced result ≡ reply → (IsReducing func → AnswersByView n v (reduction_of func) (Ok result) w) → RefusedAtOnce (Ok result) → CompletesBulk n v (Reduce func threshold) (Ok reply) w
  reduced_ok result reply same is not = subst (λ (r : Reply). CompletesBulk n v (Reduce func threshold) (Ok r) w) same (reduced_so result is not (is_reducing func))

  refused_so : (e : Refusal) → (IsReducing func → AnswersByView n v (reduction_of func) (Err e) w) → RefusedAtOnce (Err e) → IsReducing func ⊎ (IsReducing func → ⊥) → CompletesBulk n v (Reduce func threshold) (Err e) w
  refused_so e is not (inl can) = refused n v w (reduction_of func) e (Reduce func threshold) (is can)
  refused_so e is not (inr cannot) =
      let at_once : Err e ≡ Err UnknownFunction = (not cannot).0 in
      let same : e ≡ UnknownFunction = cc in
      inr (record { func = func; threshold = threshold; asks = refl; unknown = cannot; refused = ap (λ (r : Refusal). Err r) same; same = (not cannot).1 })

  -- it was refused
  pub reduced_err : (e : Refusal) → (IsReducing func → AnswersByView n v (reduction_of func) (Err e) w) → RefusedAtOnce (Err e) → CompletesBulk n v (Reduce func threshold) (Err e) w
  reduced_err e is not = refused_so e is not (is_reducing func)

pub finds : (n : ℕ) (v w : Record) (threshold : ℕ) (sought : Value) (result : Option (List ℕ)) (reply : Reply) → Now (option_map (λ key. Text key) result) ≡ reply → AnswersByView n v (key_of_value sought) (Ok result) w → CompletesBulk n v (Search threshold sought) (Ok reply) w
finds n v w threshold sought result reply same a =
    let k = ok_view n v w (key_of_value sought) result a in
    inl (record { view = Ok k.view; completes = k.completes; answers = sym same ∙ ap (λ (o : Option (List ℕ)). Now (option_map (λ key. Text key) o)) k.is })

-- there was no memory for the key that was found
pub unfinished : (n : ℕ) (v w : Record) (threshold : ℕ) (sought : Value) (result : Option (List ℕ)) → AnswersByView n v (key_of_value sought) (Ok result) w → CompletesBulk n v (Search threshold sought) (Err NoMemory) w
unfinished n v w threshold sought result a =
    let k = ok_view n v w (key_of_value sought) result a in
    inl (record { view = Ok k.view; completes = k.completes; answers = refl })
