-- A call is known by what it leaves of its file.
use Rattle.std.proofs.Common.{◌≡◌, ℕ, ◌==◌, true, List, [], ◌∷◌, length, refl, sym, ◌∙◌, ap, subst, arith}
use Rattle.std.proofs.lemmas.Bool.Decides.{nat_tests}
use Rattle.disk_model.specs.declared.fill.Fill.{Fill}
use Rattle.disk_model.specs.Files.{File, Files, Range, with_file}
use Rattle.disk_model.specs.Fills.{torn}
use Rattle.disk_model.specs.Gates.{Call, MayFailTo, writes, syncs, called}
use Rattle.sim_rules.specs.declared.outcome.DeviceCall.{DeviceCall}
use Rattle.sim_rules.specs.declared.outcome.DeviceCall.TheVariants as device
use Rattle.sim_rules.specs.After.{call_of, failed, file_of}

heads : {A : Type 0} {x y : A} {xs : List A} → (x ∷ xs) ≡ (y ∷ xs) → x ≡ y
heads e = cc

-- one pending range more isn't none
never_longer : {A : Type 0} {x : A} {xs : List A} → (x ∷ xs) ≡ xs → ⊥
never_longer e = omega (arith, ap length e)

some_none : {A : Type 0} {x : A} {xs : List A} → (x ∷ xs) ≡ [] → ⊥
some_none e = cc

pub same_call : (one other : Call) (file : File) → called one file ≡ called other file → one ≡ other
same_call (writes at bytes) (writes place others) file same =
    let range : record { at = at; bytes = bytes } ≡ (let r : Range = record { at = place; bytes = others } in r) = heads (ap (λ (f : File). f.pending) same) in
    ap (λ (r : Range). writes r.at r.bytes) range
same_call (writes at bytes) syncs file same = absurd (some_none (ap (λ (f : File). f.pending) same))
same_call syncs (writes at bytes) file same = absurd (some_none (sym (ap (λ (f : File). f.pending) same)))
same_call syncs syncs file same = refl

own_file : (number : ℕ) (file : File) (files : Files) → with_file number file files number ≡ file
own_file number file files = let own : (number == number) ≡ true = grind (arith, nat_tests) in rw own refl

-- two calls of one file that leave the same are the same
pub known_call : (one other : Call) (number place : ℕ) (files after : Files) → number ≡ place → after ≡ with_file number (called one (files number)) files → after ≡ with_file place (called other (files place)) files → one ≡ other
known_call one other number place files after same left_one left_other =
    let here : after ≡ with_file number (called other (files number)) files = left_other ∙ ap (λ n. with_file n (called other (files n)) files) (sym same) in
    same_call one other (files number)
    (sym (own_file number (called one (files number)) files) ∙ ap (λ (f : Files). f number) (sym left_one ∙ here) ∙ own_file number (called other (files number)) files)

-- ---- a call that failed

left_by : (fill : Fill) (call : DeviceCall) (due : Call) (files : Files) (left : File) → left ≡ failed fill call files (file_of call) → MayFailTo due (files (file_of call)) left → call_of call ≡ due
left_by fill (device.Write file at bytes) due files left is may =
    written due may (ap (λ (f : File). f.pending) (is ∙ own_file file (torn fill file at bytes.items (files file)) files))
  where
    written : (due : Call) → MayFailTo due (files file) left → left.pending ≡ record { at = at; bytes = bytes.items } ∷ (files file).pending → writes at bytes.items ≡ due
    written (writes place others) may pending =
        let range : record { at = at; bytes = bytes.items } ≡ (let r : Range = record { at = place; bytes = others } in r) = heads (sym pending ∙ may.pending) in
        ap (λ (r : Range). writes r.at r.bytes) range
    written syncs may pending = absurd (never_longer (sym pending ∙ ap (λ (f : File). f.pending) may))
left_by fill (device.Sync file) (writes place others) files left is may = absurd (never_longer (sym may.pending ∙ ap (λ (f : File). f.pending) is))
left_by fill (device.Sync file) syncs files left is may = refl

-- a call that failed is the one after which its file may be left so
pub lost_call : (fill : Fill) (call : DeviceCall) (due : Call) (number : ℕ) (files after : Files) (left : File) → file_of call ≡ number → after ≡ failed fill call files → after ≡ with_file number left files
    → MayFailTo due (files number) left → call_of call ≡ due
lost_call fill call due number files after left same lost is may =
    left_by fill call due files left
    (sym (own_file number left files) ∙ ap (λ (f : Files). f number) (sym is ∙ lost) ∙ ap (failed fill call files) (sym same))
    (subst (λ n. MayFailTo due (files n) left) (sym same) may)
