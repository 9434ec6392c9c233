-- The arguments of a change that are read are those that were written, and what was written is read again.
use Rattle.std.proofs.Common.{◌≡◌, ℕ, List, [], ◌∷◌, ◌++◌, Some, Result, Ok, refl, ap, subst}
use Rattle.map_types.specs.Numbers.{func_number}
use Rattle.map_types.specs.declared.texts.Value.{Value}
use Rattle.map_types.specs.declared.commands.Change.{Change}
use Rattle.map_types.specs.declared.commands.Change.TheVariants as change
use Rattle.log_records.specs.declared.methods.Method.{Method}
use Rattle.log_records.specs.declared.methods.Method.TheVariants.{Put, PutIfAbsent, Remove, RemoveIf, Replace, ReplaceIf, Compute, ComputeIfAbsent, ComputeIfPresent, Merge}
use Rattle.log_records.specs.Methods.{method_of}
use Rattle.log_records.specs.Agreement.{IsBytes, Takes, Agrees}
use Rattle.log_records.specs.Spelling.{value_bytes, argument_bytes, Any, IsValue, IsArgument, IsChange}
use Rattle.log_records.specs.Reading.{made, both_at, value_at, some_value_at, func_at, change_at}
use Rattle.log_records.proofs.Agreeing.{both_agree, made_ok, ok_is}
use Rattle.log_records.proofs.Fields.{value_agrees, some_value_agrees, func_agrees}

abbrev pub TakesChange : Method → List ℕ → List ℕ → Change → Type 0
TakesChange method bytes rest c = Takes bytes (argument_bytes c) rest × IsChange c × (method_of c ≡ method)

two_values : Agrees (both_at some_value_at some_value_at) (λ p. value_bytes (Some p.0) ++ value_bytes (Some p.1)) (λ p. IsValue p.0 × IsValue p.1)
two_values = both_agree some_value_at some_value_at (λ v. value_bytes (Some v)) (λ v. value_bytes (Some v)) IsValue IsValue some_value_agrees some_value_agrees

call : Agrees (both_at func_at value_at) (λ p. (func_number p.0 ∷ []) ++ value_bytes p.1) (λ p. Any p.0 × IsArgument p.1)
call = both_agree func_at value_at (λ f. func_number f ∷ []) value_bytes Any IsArgument func_agrees value_agrees

call_some : Agrees (both_at func_at some_value_at) (λ p. (func_number p.0 ∷ []) ++ value_bytes (Some p.1)) (λ p. Any p.0 × IsValue p.1)
call_some = both_agree func_at some_value_at (λ f. func_number f ∷ []) (λ v. value_bytes (Some v)) Any IsValue func_agrees some_value_agrees

-- a change that is made of what a reader gives
made_takes : {A : Type 0} (method : Method) (read : List ℕ → Result (A × List ℕ) _) (bytes_of : A → List ℕ) (Fits : A → Type 0) (make : A → Change)
    → Agrees read bytes_of Fits
    → ((x : A) (bytes rest : List ℕ) → Takes bytes (bytes_of x) rest → Fits x → TakesChange method bytes rest (make x))
    → (bytes : List ℕ) (c : Change) (rest : List ℕ) → IsBytes bytes → made make (read bytes) ≡ Ok (c, rest) → TakesChange method bytes rest c
made_takes method read bytes_of Fits make agrees same bytes c rest fits e =
    let b = made_ok make (read bytes) c rest e in
    let t = agrees.takes bytes b.0 rest fits b.1 in
    subst (TakesChange method bytes rest) b.2 (same b.0 bytes rest t.0 t.1)

one_value : (method : Method) (make : Value → Change)
    → ((x : Value) (bytes rest : List ℕ) → Takes bytes (value_bytes (Some x)) rest → IsValue x → TakesChange method bytes rest (make x))
    → (bytes : List ℕ) (c : Change) (rest : List ℕ) → IsBytes bytes → made make (some_value_at bytes) ≡ Ok (c, rest) → TakesChange method bytes rest c
one_value method make = made_takes method some_value_at (λ v. value_bytes (Some v)) IsValue make some_value_agrees

pub change_takes : (method : Method) (bytes : List ℕ) (c : Change) (rest : List ℕ) → IsBytes bytes → change_at method bytes ≡ Ok (c, rest) → TakesChange method bytes rest c
unfolding change_at
change_takes Put bytes c rest fits e = one_value Put (λ v. change.Put v) (λ x b r t f. (t, f, refl)) bytes c rest fits e
change_takes PutIfAbsent bytes c rest fits e = one_value PutIfAbsent (λ v. change.PutIfAbsent v) (λ x b r t f. (t, f, refl)) bytes c rest fits e
change_takes Remove bytes c rest fits e =
    let none : Takes bytes [] bytes = record { parts = refl; rest_fits = fits } in
    subst (λ (z : Change × List ℕ). TakesChange Remove bytes z.1 z.0) (ok_is (change.Remove, bytes) (c, rest) e) (none, tt, refl)
change_takes RemoveIf bytes c rest fits e = one_value RemoveIf (λ v. change.RemoveIf v) (λ x b r t f. (t, f, refl)) bytes c rest fits e
change_takes Replace bytes c rest fits e = one_value Replace (λ v. change.Replace v) (λ x b r t f. (t, f, refl)) bytes c rest fits e
change_takes ReplaceIf bytes c rest fits e =
    made_takes ReplaceIf (both_at some_value_at some_value_at) (λ p. value_bytes (Some p.0) ++ value_bytes (Some p.1)) (λ p. IsValue p.0 × IsValue p.1)
    (λ p. change.ReplaceIf p.0 p.1) two_values (λ x b r t f. (t, f, refl)) bytes c rest fits e
change_takes Compute bytes c rest fits e =
    made_takes Compute (both_at func_at value_at) (λ p. (func_number p.0 ∷ []) ++ value_bytes p.1) (λ p. Any p.0 × IsArgument p.1)
    (λ p. change.Compute p.0 p.1) call (λ x b r t f. (t, f.1, refl)) bytes c rest fits e
change_takes ComputeIfAbsent bytes c rest fits e =
    made_takes ComputeIfAbsent (both_at func_at value_at) (λ p. (func_number p.0 ∷ []) ++ value_bytes p.1) (λ p. Any p.0 × IsArgument p.1)
    (λ p. change.ComputeIfAbsent p.0 p.1) call (λ x b r t f. (t, f.1, refl)) bytes c rest fits e
change_takes ComputeIfPresent bytes c rest fits e =
    made_takes ComputeIfPresent (both_at func_at value_at) (λ p. (func_number p.0 ∷ []) ++ value_bytes p.1) (λ p. Any p.0 × IsArgument p.1)
    (λ p. change.ComputeIfPresent p.0 p.1) call (λ x b r t f. (t, f.1, refl)) bytes c rest fits e
change_takes Merge bytes c rest fits e =
    made_takes Merge (both_at func_at some_value_at) (λ p. (func_number p.0 ∷ []) ++ value_bytes (Some p.1)) (λ p. Any p.0 × IsValue p.1)
    (λ p. change.Merge p.0 p.1) call_some (λ x b r t f. (t, f.1, refl)) bytes c rest fits e

pub change_again : (c : Change) (rest : List ℕ) → IsChange c → change_at (method_of c) (argument_bytes c ++ rest) ≡ Ok (c, rest)
unfolding change_at
change_again (change.Put v) rest fits = ap (made (λ v. change.Put v)) (some_value_agrees.again v rest fits)
change_again (change.PutIfAbsent v) rest fits = ap (made (λ v. change.PutIfAbsent v)) (some_value_agrees.again v rest fits)
change_again change.Remove rest fits = refl
change_again (change.RemoveIf v) rest fits = ap (made (λ v. change.RemoveIf v)) (some_value_agrees.again v rest fits)
change_again (change.Replace v) rest fits = ap (made (λ v. change.Replace v)) (some_value_agrees.again v rest fits)
change_again (change.ReplaceIf old new) rest fits = ap (made (λ p. change.ReplaceIf p.0 p.1)) (two_values.again (old, new) rest fits)
change_again (change.Compute f v) rest fits = ap (made (λ p. change.Compute p.0 p.1)) (call.again (f, v) rest (tt, fits))
change_again (change.ComputeIfAbsent f v) rest fits = ap (made (λ p. change.ComputeIfAbsent p.0 p.1)) (call.again (f, v) rest (tt, fits))
change_again (change.ComputeIfPresent f v) rest fits = ap (made (λ p. change.ComputeIfPresent p.0 p.1)) (call.again (f, v) rest (tt, fits))
change_again (change.Merge f v) rest fits = ap (made (λ p. change.Merge p.0 p.1)) (call_some.again (f, v) rest (tt, fits))
