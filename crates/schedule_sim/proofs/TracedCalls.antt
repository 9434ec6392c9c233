-- What a call of a traced disk leaves of its plan and its note.
use Rattle.std.proofs.Common.{◌≡◌, ℕ, ◌+◌, ◌-◌, ◌==◌, max, List, ◌∷◌, length, take, get_or, Option, None, Some, IsSome, IfSome, Bool, true, false, if◌then◌else◌, Result, Ok, Err, OnOk, OnErr, is_ok, ◌⊎◌, inl, inr, refl, sym, ◌∙◌, ap, subst}
use Rattle.disk_model.specs.declared.disk.DeviceError.{DeviceError}
use Rattle.disk_model.specs.declared.fill.Fill.{Fill}
use Rattle.disk_model.specs.declared.memory.MemDisk.{MemDisk}
use Rattle.disk_model.specs.declared.plan.Failure.{Failure}
use Rattle.disk_model.specs.Files.{File, Files, byte_at, now, overwritten, reached, with_file}
use Rattle.disk_model.specs.Fills.{bytes_by, torn, within}
use Rattle.disk_model.specs.Memory.{IsByPlan, LosesWrite, is_short, memory_states, planned_of}
use Rattle.disk_model.specs.Plans.{due_of, passed}
use Rattle.sim_rules.specs.declared.outcome.DeviceCall.{DeviceCall}
use Rattle.sim_rules.specs.declared.outcome.DeviceCall.TheVariants as device
use Rattle.sim_rules.specs.After.{called, failed}
use Rattle.sim_rules.specs.Cases.{IsPossible}
use Rattle.schedule_sim.specs.Noting.{CameTo, IsCounted, IsPlanned, IsSameFill, WasLast}

-- ---- the plan

by_rest : (fill : Fill) (failure : Failure) (b : Bool) → IsSameFill fill failure.fill → IsPlanned (Some fill) (if b then None else Some (record failure { after = failure.after - 1 }))
by_rest fill failure true same = tt
by_rest fill failure false same = same

-- after one call more the fill of the plan is the same
pub still_planned : (fill : Option Fill) (plan : Option Failure) → IsPlanned fill plan → IsPlanned fill (passed plan)
still_planned fill None k = tt
still_planned None (Some failure) k = absurd k
still_planned (Some fill) (Some failure) k = by_rest fill failure (failure.after == 0) k

spent_by : (failure : Failure) (b : Bool) → IsSome (if b then Some failure.fill else None) → (if b then None else Some (record failure { after = failure.after - 1 })) ≡ None
spent_by failure true due = refl
spent_by failure false due = absurd (let no : false ≡ true = due in cc)

-- after the call that was to fail nothing is planned
spent : (plan : Option Failure) → IsSome (due_of plan) → passed plan ≡ None
spent None due = absurd (let no : false ≡ true = due in cc)
spent (Some failure) due = spent_by failure (failure.after == 0) due

-- where a call is to fail, it is with the fill that is kept
record Due (fill : Option Fill) (plan : Option Failure) : Type 0 where
  kept : Fill
  due : Fill
  fill_is : fill ≡ Some kept
  due_is : due_of plan ≡ Some due
  same : IsSameFill kept due

due_fill_by : (failure : Failure) (b : Bool) → IsSome (if b then Some failure.fill else None) → (if b then Some failure.fill else None) ≡ Some failure.fill
due_fill_by failure true due = refl
due_fill_by failure false due = absurd (let no : false ≡ true = due in cc)

due_fill : (fill : Option Fill) (plan : Option Failure) → IsPlanned fill plan → IsSome (due_of plan) → Due fill plan
due_fill fill None k due = absurd (let no : false ≡ true = due in cc)
due_fill None (Some failure) k due = absurd k
due_fill (Some fill) (Some failure) k due =
    record { kept = fill; due = failure.fill; fill_is = refl; due_is = due_fill_by failure (failure.after == 0) due; same = k }

-- ---- the note

due_at : (old new : MemDisk) → IsByPlan old new false → is_short new ≡ false → IsSome (due_of (planned_of old))
due_at old new by_plan long = elim (by_plan.cause refl) [ inl due ↦ due | inr short ↦ absurd (let no : true ≡ false = sym short ∙ long in cc) ]

-- a call that failed although there was memory has used the plan
pub uses_plan : (old new : MemDisk) (answer : Result (Unit {0}) DeviceError) → IsByPlan old new (is_ok answer) → is_short new ≡ false → OnErr answer (passed (planned_of old) ≡ None)
uses_plan old new (Ok unit) by_plan long = tt
uses_plan old new (Err e) by_plan long = spent (planned_of old) (due_at old new by_plan long)

lost_so : (states : List Files) (fill : Option Fill) (plan : Option Failure) (call : DeviceCall) (before : List Files) → IsPossible (now before) call → (d : Due fill plan)
    → states ≡ failed d.due call (now before) ∷ before → IfSome fill (λ f. WasLast (Some f) call states)
lost_so states fill plan call before possible d is =
    subst (λ o. IfSome o (λ f. WasLast (Some f) call states)) (sym d.fill_is)
    (subst (λ all. WasLast (Some d.kept) call all) (sym is) (possible, sym (d.same call (now before))))

-- where there was memory, the answer says what the call left
pub came : (old new : MemDisk) (answer : Result (Unit {0}) DeviceError) (fill : Option Fill) (call : DeviceCall) → IsPossible (now (memory_states old)) call → IsByPlan old new (is_ok answer)
    → IsPlanned fill (planned_of old) → is_short new ≡ false → OnOk answer (memory_states new ≡ called call (now (memory_states old)) ∷ memory_states old)
    → OnErr answer ((due : Fill) → due_of (planned_of old) ≡ Some due → memory_states new ≡ failed due call (now (memory_states old)) ∷ memory_states old)
    → CameTo answer fill call (memory_states new)
came old new (Ok unit) fill call possible by_plan planned long made lost = subst (λ all. WasLast None call all) (sym made) (possible, refl)
came old new (Err e) fill call possible by_plan planned long made lost =
    let d = due_fill fill (planned_of old) planned (due_at old new by_plan long) in
    lost_so (memory_states new) fill (planned_of old) call (memory_states old) possible d (lost d.due d.due_is)

-- a write that failed by the plan left what the fill says
pub write_lost : (old new : MemDisk) (file at : ℕ) (bytes : List ℕ) (o : Option Fill) (due : Fill) (left : Fill → List Files) → is_short new ≡ false
    → IfSome o (λ f. LosesWrite file at bytes old new ⊎ ((is_short new ≡ is_short old) × (memory_states new ≡ left f))) → o ≡ Some due → memory_states new ≡ left due
write_lost old new file at bytes None due left long failed is = absurd (let no : None ≡ Some due = is in cc)
write_lost old new file at bytes (Some f) due left long failed is =
    elim failed [ inl loses ↦ absurd (let no : true ≡ false = sym loses.short ∙ long in cc) | inr torn ↦ torn.1 ∙ ap left (let e : Some f ≡ Some due = is in cc) ]

pub where_ok : {T E : Type 0} (answer : Result T E) {A B : Type 0} → (A → B) → OnOk answer A → OnOk answer B
where_ok (Ok t) f a = f a
where_ok (Err e) f a = tt

pub where_err : {T E : Type 0} (answer : Result T E) {A B : Type 0} → (A → B) → OnErr answer A → OnErr answer B
where_err (Ok t) f a = tt
where_err (Err e) f a = f a

-- ---- the count

-- there is one state more
pub record HasOneMore (new old : List Files) : Type 0 where
  pub files : Files
  pub is : new ≡ files ∷ old

pub either_way : {T E A : Type 0} (answer : Result T E) → OnOk answer A → OnErr answer A → A
either_way (Ok t) a b = a
either_way (Err e) a b = b

pub counted_on : (before after : Option ℕ) (new old : List Files) → ((files : Files) (states : List Files) → IsCounted before states → IsCounted after (files ∷ states)) → HasOneMore new old
    → IsCounted before old → IsCounted after new
counted_on before after new old counts more counted = subst (λ states. IsCounted after states) (sym more.is) (counts more.files old counted)

-- ---- fills

-- what leaves the same of every torn write is the same
pub same_torn : (one other : Fill) → ((number at : ℕ) (bytes : List ℕ) (file : File) → torn one number at bytes file ≡ torn other number at bytes file) → IsSameFill one other
same_torn one other same (device.Write number at bytes) files = ap (λ file. with_file number file files) (same number at bytes.items (files number))
same_torn one other same (device.Sync number) files = refl

-- what chosen bytes and lengths leave
abbrev pub chosen_torn : List ℕ → List ℕ → ℕ → ℕ → List ℕ → File → File
chosen_torn chosen lens number at bytes file = reached at bytes
    (take (within (length file.seen) (max (length file.seen) (at + length bytes)) (get_or lens number 0))
    (overwritten at (bytes_by (length bytes) (λ i. get_or chosen i (byte_at i bytes))) file.seen)) file

pub same_chosen : {chosen others lens other_lens : List ℕ} → chosen ≡ others → lens ≡ other_lens → (number at : ℕ) (bytes : List ℕ) (file : File)
    → chosen_torn chosen lens number at bytes file ≡ chosen_torn others other_lens number at bytes file
same_chosen {others = others} {lens = lens} items same number at bytes file =
    ap (λ chosen. chosen_torn chosen lens number at bytes file) items ∙ ap (λ ls. chosen_torn others ls number at bytes file) same
