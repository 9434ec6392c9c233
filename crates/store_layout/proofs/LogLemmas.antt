-- One batch or one record more.
use Rattle.std.proofs.Common.{◌≡◌, ℕ, ◌+◌, List, [], ◌∷◌, ◌++◌, length, refl, sym, ◌∙◌, ap, arith, append_assoc, add-zero, length-append}
use Rattle.std.proofs.lemmas.List.{append-nil}
use Rattle.map_types.specs.declared.commands.Command.{Command}
use Rattle.log_records.specs.Layout.{Layout}
use Rattle.log_records.specs.Spelling.{record_bytes}
use Rattle.store_layout.specs.Logs.{Batch, IsBatch, IsRun, commands_in, end_frame, frame, header, log_front, opened, records_bytes}

pub records_push : (layout : Layout) (commands : List Command) (command : Command) → records_bytes layout (commands ++ command ∷ []) ≡ records_bytes layout commands ++ record_bytes layout command
records_push layout [] command = append-nil (record_bytes layout command)
records_push layout (x ∷ commands) command =
    ap (λ (l : List ℕ). record_bytes layout x ++ l) (records_push layout commands command) ∙ sym (append_assoc (record_bytes layout x) (records_bytes layout commands) (record_bytes layout command))

pub opened_push : (layout : Layout) (batches : List Batch) (b : Batch) → opened layout (batches ++ b ∷ []) ≡ opened layout batches ++ 165 ∷ frame layout b
opened_push layout [] b = ap (λ (l : List ℕ). 165 ∷ l) (append-nil (frame layout b))
opened_push layout (x ∷ batches) b =
    ap (λ (l : List ℕ). 165 ∷ (frame layout x ++ l)) (opened_push layout batches b) ∙ ap (λ (l : List ℕ). 165 ∷ l) (sym (append_assoc (frame layout x) (opened layout batches) (165 ∷ frame layout b)))

pub front_push : (layout : Layout) (generation low : ℕ) (batches : List Batch) (b : Batch)
    → log_front layout generation low (batches ++ b ∷ []) ≡ log_front layout generation low batches ++ 165 ∷ frame layout b
front_push layout generation low batches b =
    ap (λ (l : List ℕ). header layout generation low ++ l) (opened_push layout batches b) ∙ sym (append_assoc (header layout generation low) (opened layout batches) (165 ∷ frame layout b))

pub commands_push : (batches : List Batch) (b : Batch) → length (commands_in (batches ++ b ∷ [])) ≡ length (commands_in batches) + length b.commands
commands_push [] b = omega (arith, length-append b.commands [])
commands_push (x ∷ batches) b =
    omega (arith, commands_push batches b, length-append x.commands (commands_in (batches ++ b ∷ [])), length-append x.commands (commands_in batches))

pub run_push : (layout : Layout) (low : ℕ) (batches : List Batch) (b : Batch) → IsRun layout low batches → IsBatch layout b → b.first ≡ low + length (commands_in batches) → IsRun layout low (batches ++ b ∷ [])
run_push layout low [] b run fits is = (fits, is ∙ add-zero low, tt)
run_push layout low (x ∷ batches) b run fits is =
    (run.0, run.1, run_push layout (low + length x.commands) batches b run.2 fits (omega (arith, is, length-append x.commands (commands_in batches))))

pub length-frame : (layout : Layout) (b : Batch) → length (frame layout b) ≡ 17 + length (records_bytes layout b.commands)
unfolding frame
length-frame layout b = omega arith

pub length-header : (layout : Layout) (generation low : ℕ) → length (header layout generation low) ≡ 17
unfolding header
length-header layout generation low = refl

pub length-end_frame : (next : ℕ) → length (end_frame next) ≡ 13
unfolding end_frame
length-end_frame next = refl
