-- Which call of the checkpoint is due.
use Rattle.std.proofs.Common.{◌≡◌, ℕ, ◌+◌, ◌-◌, List, [], ◌∷◌, ◌++◌, length, take, drop, Some, sym, ◌∙◌, ap, arith}
use Rattle.std.proofs.Math.Seq.{drop-append_seam, take-append_seam}
use Rattle.std.proofs.lemmas.List.{append-nil, append_assoc, length-append}
use Rattle.disk_model.specs.Files.{File}
use Rattle.disk_model.specs.Gates.{Call, writes}
use Rattle.store_layout.specs.Checkpoints.{Section, checkpoint_header, greatest_mark, section_bytes, sections_bytes}
use Rattle.store_layout.specs.Logs.{new_layout}
use Rattle.store_layout.specs.declared.checkpoint_phase.CheckpointPhase.{CheckpointPhase}
use Rattle.store_layout.specs.declared.checkpoint_phase.CheckpointPhase.TheVariants.{Idle, Gate, GateWritten, GateSynced, Ready, Staged, Header, HeaderWritten, HeaderSynced, Opened, Sealed}
use Rattle.checkpoint_file.specs.CheckpointStates as checkpoint
use Rattle.checkpoint_file.specs.States.{CheckpointState, call_in}
use Rattle.sim_rules.specs.World.{Life}
use Rattle.sim_rules.specs.Due.{running_call, section_call}
use Rattle.sim_keeper.specs.Showing.{running_in, running_shown}

some_is : {A : Type 0} {x y : A} → Some x ≡ Some y → y ≡ x
some_is e = cc

bytes_append : (before : List Section) (last : Section) → sections_bytes new_layout (before ++ last ∷ []) ≡ sections_bytes new_layout before ++ section_bytes new_layout last
bytes_append [] last = append-nil (section_bytes new_layout last)
bytes_append (section ∷ before) last =
    ap (λ xs. section_bytes new_layout section ++ xs) (bytes_append before last) ∙ sym (append_assoc (section_bytes new_layout section) (sections_bytes new_layout before) (section_bytes new_layout last))

-- all but the last, and the last
but_last : (before : List Section) (last : Section) → take (length (before ++ last ∷ []) - 1) (before ++ last ∷ []) ≡ before
but_last before last =
    ap (λ n. take n (before ++ last ∷ [])) (let long : length (before ++ last ∷ []) - 1 ≡ length before = omega (arith, length-append before (last ∷ [])) in long) ∙ take-append_seam before (last ∷ [])

last_of : (before : List Section) (last : Section) → drop (length (before ++ last ∷ []) - 1) (before ++ last ∷ []) ≡ last ∷ []
last_of before last =
    ap (λ n. drop n (before ++ last ∷ [])) (let long : length (before ++ last ∷ []) - 1 ≡ length before = omega (arith, length-append before (last ∷ [])) in long) ∙ drop-append_seam before (last ∷ [])

-- the section that is staged is written behind those before it
staged_is : (v : CheckpointState) (sections : List Section) (file : File) → checkpoint.HasGiven v sections → checkpoint.HasStaged v sections file → writes (36 + v.body) v.section ≡ section_call sections
staged_is v sections file given staged =
    let before = staged.before in
    let last = staged.last in
    let whole : sections_bytes new_layout sections ≡ sections_bytes new_layout before ++ section_bytes new_layout last = ap (sections_bytes new_layout) staged.parts ∙ bytes_append before last in
    let long : length (sections_bytes new_layout sections) ≡ length (sections_bytes new_layout before) + length (section_bytes new_layout last) =
    ap (λ (xs : List ℕ). length xs) whole ∙ length-append (sections_bytes new_layout before) (section_bytes new_layout last) in
    let section : length v.section ≡ length (section_bytes new_layout last) = ap (λ (xs : List ℕ). length xs) staged.bytes in
    let body : v.body ≡ length (sections_bytes new_layout before) = omega (arith, given.body, long, section) in
    let bytes : v.section ≡ sections_bytes new_layout (last ∷ []) = staged.bytes ∙ sym (append-nil (section_bytes new_layout last)) in
    ap (λ n. writes (36 + n) v.section) body ∙ ap (λ bs. writes (36 + length (sections_bytes new_layout before)) bs) bytes
    ∙ ap (λ ss. writes (36 + length (sections_bytes new_layout ss)) (sections_bytes new_layout (last ∷ []))) (sym (but_last before last))
    ∙ ap (λ ss. writes (36 + length (sections_bytes new_layout (take (length (before ++ last ∷ []) - 1) (before ++ last ∷ [])))) (sections_bytes new_layout ss)) (sym (last_of before last))
    ∙ ap section_call (sym staged.parts)

-- the header has its fields
header_is : (v : CheckpointState) (l : Life) (sections : List Section) (file : File) → checkpoint.HasGiven v sections → checkpoint.HasFilled v sections file → v.stripes ≡ l.stripes
    → writes 1 (checkpoint_header new_layout v.generation v.low v.greatest v.stripes v.body) ≡ writes 1 (checkpoint_header new_layout v.generation v.low (greatest_mark sections) l.stripes (length (sections_bytes new_layout sections)))
header_is v l sections file given filled stripes =
    let none : length v.section ≡ 0 = ap (λ (xs : List ℕ). length xs) filled.none_staged in
    let body : v.body ≡ length (sections_bytes new_layout sections) = omega (arith, given.body, none) in
    ap (λ g. writes 1 (checkpoint_header new_layout v.generation v.low g v.stripes v.body)) given.greatest
    ∙ ap (λ n. writes 1 (checkpoint_header new_layout v.generation v.low (greatest_mark sections) n v.body)) stripes
    ∙ ap (λ n. writes 1 (checkpoint_header new_layout v.generation v.low (greatest_mark sections) l.stripes n)) body

due_in : (v : CheckpointState) (l : Life) (old : List ℕ) (sections : List Section) (file : File) (call : Call) (phase : CheckpointPhase) → checkpoint.HasGiven v sections
    → checkpoint.AtPhase phase v old sections file → v.stripes ≡ l.stripes → call_in phase v ≡ Some call → call ≡ running_call l v.low (running_in phase v sections)
due_in v l old sections file call Idle given stands stripes due = absurd cc
due_in v l old sections file call Gate given stands stripes due = some_is due
due_in v l old sections file call GateWritten given stands stripes due = some_is due
due_in v l old sections file call GateSynced given stands stripes due = some_is due
due_in v l old sections file call Ready given stands stripes due = absurd cc
due_in v l old sections file call Staged given stands stripes due = some_is due ∙ staged_is v sections file given stands
due_in v l old sections file call Header given stands stripes due = some_is due ∙ header_is v l sections file given stands.1 stripes
due_in v l old sections file call HeaderWritten given stands stripes due = some_is due
due_in v l old sections file call HeaderSynced given stands stripes due = some_is due
due_in v l old sections file call Opened given stands stripes due = some_is due
due_in v l old sections file call Sealed given stands stripes due = absurd cc

-- the call that is due in the writer's file is the one that the world says
pub checkpoint_due : (v : CheckpointState) (l : Life) (old : List ℕ) (sections : List Section) (file : File) (call : Call) → checkpoint.Stands v old sections file → v.stripes ≡ l.stripes → call_in v.phase v ≡ Some call
    → call ≡ running_call l v.low (running_shown v sections)
checkpoint_due v l old sections file call stands stripes due = due_in v l old sections file call v.phase stands.knows stands.stands stripes due
