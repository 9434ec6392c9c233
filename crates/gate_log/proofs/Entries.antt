-- The records of a batch, read one by one.
use Rattle.std.proofs.Common.{◌≡◌, ◌<◌, ℕ, ◌+◌, List, [], ◌∷◌, ◌++◌, length, refl, sym, ap, subst, ◌∙◌, append_assoc, arith}
use Rattle.std.proofs.lemmas.List.{length-append, append-nil}
use Rattle.std.specs.List.{AllByRecursion}
use Rattle.map_types.specs.declared.commands.Command.{Command}
use Rattle.log_records.specs.Layout.{Layout, IsLayout}
use Rattle.log_records.specs.Spelling.{IsCommand, record_bytes}
use Rattle.ticket_order.specs.declared.stripe.Entry.{Entry}
use Rattle.store_layout.specs.Logs.{records_bytes}
use Rattle.gate_log.specs.States.{AreFrom}
use Rattle.gate_log.specs.ScanParts.{commands_of}
use Rattle.store_layout.proofs.FrameLemmas.{records_part, same_records}

pub commands_more : (entries : List Entry) (entry : Entry) → commands_of (entries ++ entry ∷ []) ≡ commands_of entries ++ entry.command ∷ []
commands_more [] entry = refl
commands_more (e ∷ entries) entry = ap (λ (t : List Command). e.command ∷ t) (commands_more entries entry)

pub commands_length : (entries : List Entry) → length (commands_of entries) ≡ length entries
commands_length [] = refl
commands_length (e ∷ entries) = let h = commands_length entries in omega arith

records_append : (layout : Layout) (a b : List Command) → records_bytes layout (a ++ b) ≡ records_bytes layout a ++ records_bytes layout b
records_append layout [] b = refl
records_append layout (c ∷ a) b =
    ap (λ (t : List ℕ). record_bytes layout c ++ t) (records_append layout a b) ∙ sym (append_assoc (record_bytes layout c) (records_bytes layout a) (records_bytes layout b))

pub from_more : (first : ℕ) (entries : List Entry) (entry : Entry) → AreFrom first entries → entry.ticket ≡ first + length entries → AreFrom first (entries ++ entry ∷ [])
from_more first [] entry all e = (omega arith, tt)
from_more first (x ∷ entries) entry all e = (all.0, from_more (first + 1) entries entry all.1 (omega arith))

pub all_more : (layout : Layout) (a : List Command) (c : Command) → AllByRecursion (IsCommand layout) a → IsCommand layout c → AllByRecursion (IsCommand layout) (a ++ c ∷ [])
all_more layout [] c all one = (one, tt)
all_more layout (d ∷ a) c all one = (all.0, all_more layout a c all.1 one)

pub records_more : (layout : Layout) (entries : List Entry) (entry : Entry) (bytes rest behind : List ℕ) → bytes ≡ records_bytes layout (commands_of entries) ++ rest
    → rest ≡ record_bytes layout entry.command ++ behind → bytes ≡ records_bytes layout (commands_of (entries ++ entry ∷ [])) ++ behind
records_more layout entries entry bytes rest behind so_far one =
    let a : List Command = commands_of entries in
    let before : List ℕ = records_bytes layout a in
    let record_of : List ℕ = record_bytes layout entry.command in
    let last : records_bytes layout (entry.command ∷ []) ≡ record_of = append-nil record_of in
    let all : records_bytes layout (commands_of (entries ++ entry ∷ [])) ≡ before ++ record_of =
    ap (records_bytes layout) (commands_more entries entry) ∙ records_append layout a (entry.command ∷ []) ∙ ap (λ (t : List ℕ). before ++ t) last in
    so_far ∙ ap (λ (t : List ℕ). before ++ t) one ∙ sym (append_assoc before record_of behind) ∙ ap (λ (t : List ℕ). t ++ behind) (sym all)

-- the command behind these
all_behind : (layout : Layout) (a : List Command) (c : Command) (b : List Command) → AllByRecursion (IsCommand layout) (a ++ c ∷ b) → IsCommand layout c
all_behind layout [] c b all = all.0
all_behind layout (d ∷ a) c b all = all_behind layout a c b all.1

-- where no record stands behind the records so far, the bytes are not those of more commands
pub no_more : (layout : Layout) (room : IsLayout layout) (so_far commands : List Command) (bytes rest : List ℕ) → AllByRecursion (IsCommand layout) so_far → AllByRecursion (IsCommand layout) commands
    → bytes ≡ records_bytes layout so_far ++ rest → length so_far < length commands
    → ((command : Command) (behind : List ℕ) → IsCommand layout command → rest ≡ record_bytes layout command ++ behind → ⊥)
    → bytes ≡ records_bytes layout commands → ⊥
no_more layout room so_far commands bytes rest all_a all_b e few none whole =
    let texts : records_bytes layout so_far ++ rest ≡ records_bytes layout commands ++ [] = sym e ∙ whole ∙ sym (append-nil (records_bytes layout commands)) in
    let part = records_part layout room so_far commands rest [] all_a all_b (omega arith) texts in
    first_of_more part.0 part.1 part.2
  where
    first_of_more : (more : List Command) → commands ≡ so_far ++ more → rest ≡ records_bytes layout more ++ [] → ⊥
    first_of_more [] is spelled = omega (arith, ap length is, length-append so_far [])
    first_of_more (c ∷ more) is spelled =
        none c (records_bytes layout more ++ []) (all_behind layout so_far c more (subst (AllByRecursion (IsCommand layout)) is all_b))
        (spelled ∙ append_assoc (record_bytes layout c) (records_bytes layout more) [])

-- where bytes are left behind as many records, the bytes are not those of so many commands
pub no_rest : (layout : Layout) (room : IsLayout layout) (so_far commands : List Command) (bytes rest : List ℕ) → AllByRecursion (IsCommand layout) so_far → AllByRecursion (IsCommand layout) commands
    → bytes ≡ records_bytes layout so_far ++ rest → length so_far ≡ length commands → bytes ≡ records_bytes layout commands → rest ≡ []
no_rest layout room so_far commands bytes rest all_a all_b e len whole =
    let texts : records_bytes layout so_far ++ rest ≡ records_bytes layout commands ++ [] = sym e ∙ whole ∙ sym (append-nil (records_bytes layout commands)) in
    (same_records layout room so_far commands rest [] all_a all_b len texts).1
