-- The records of one entry more.
use Rattle.std.proofs.Common.{◌≡◌, ℕ, ◌+◌, ◌^◌, ◌<◌, ◌≤◌, arith, List, [], ◌∷◌, ◌++◌, length, get_or, take, sym, ◌∙◌, ap, subst}
use Rattle.std.specs.List.{All, AllByRecursion}
use Rattle.std.proofs.lemmas.List.{get_or-map, take_more, map-append, length-map}
use Rattle.byteorder.specs.Endian.{big_bytes}
use Rattle.map_types.specs.declared.commands.Command.{Command}
use Rattle.ticket_order.specs.declared.stripe.Entry.{Entry}
use Rattle.ticket_order.specs.Records.{IsWithin}
use Rattle.log_records.specs.declared.versions.Version.{Version}
use Rattle.log_records.specs.declared.versions.Version.TheVariants.{First, Second}
use Rattle.log_records.specs.Layout.{Layout, layout_of}
use Rattle.log_records.specs.Spelling.{IsCommand, record_bytes}
use Rattle.store_layout.specs.Logs.{frame, records_bytes}
use Rattle.store_layout.proofs.LogLemmas.{records_push}
use Rattle.gate_log.specs.States.{batch_of, commands_of}

-- a key with its length has at most so many bytes, whatever the version
pub key_most : (version : Version) → (layout_of version).key_width + (layout_of version).key_limit ≤ 2 ^ 14
key_most First = omega arith
key_most Second = omega arith

-- the key of each entry is within the limit of all
pub within_at : (limit : ℕ) (entries : List Entry) (i : ℕ) (entry : Entry) → i < length entries → entry ≡ get_or entries i entry
    → All (IsWithin limit) (commands_of entries) → IsWithin limit entry.command
within_at limit entries i entry h is within =
    let long = length-map entries (λ (e : Entry). e.command) in
    let there = get_or-map (λ (e : Entry). e.command) entries i entry entry.command h in
    subst (IsWithin limit) (there ∙ ap (λ (e : Entry). e.command) (sym is)) (within i entry.command (omega (arith, h, long)))

pub commands_more : (entries : List Entry) (i : ℕ) (entry : Entry) → i < length entries → entry ≡ get_or entries i entry
    → commands_of (take (i + 1) entries) ≡ commands_of (take i entries) ++ entry.command ∷ []
commands_more entries i entry h is =
    ap commands_of (take_more entries i entry h) ∙ map-append (λ (e : Entry). e.command) (take i entries) (get_or entries i entry ∷ [])
    ∙ ap (λ (e : Entry). commands_of (take i entries) ++ e.command ∷ []) (sym is)

pub records_more : (layout : Layout) (entries : List Entry) (i : ℕ) (entry : Entry) → i < length entries → entry ≡ get_or entries i entry
    → records_bytes layout (commands_of (take (i + 1) entries)) ≡ records_bytes layout (commands_of (take i entries)) ++ record_bytes layout entry.command
records_more layout entries i entry h is =
    ap (records_bytes layout) (commands_more entries i entry h is) ∙ records_push layout (commands_of (take i entries)) entry.command

push_all : (P : Command → Type 0) (commands : List Command) (command : Command) → AllByRecursion P commands → P command → AllByRecursion P (commands ++ command ∷ [])
push_all P [] command all one = (one, tt)
push_all P (x ∷ commands) command all one = (all.0, push_all P commands command all.1 one)

pub fits_more : (layout : Layout) (entries : List Entry) (i : ℕ) (entry : Entry) → i < length entries → entry ≡ get_or entries i entry
    → AllByRecursion (IsCommand layout) (commands_of (take i entries)) → IsCommand layout entry.command → AllByRecursion (IsCommand layout) (commands_of (take (i + 1) entries))
fits_more layout entries i entry h is all one =
    subst (λ (l : List Command). AllByRecursion (IsCommand layout) l) (sym (commands_more entries i entry h is)) (push_all (IsCommand layout) (commands_of (take i entries)) entry.command all one)

-- the pieces of a frame and a closed gate, one after another
pub frame_pieces : (layout : Layout) (first : ℕ) (entries : List Entry) (len count : ℕ) → len ≡ 12 + length (records_bytes layout (commands_of entries)) → count ≡ length entries
    → (((([] ++ 1 ∷ []) ++ big_bytes 4 len) ++ big_bytes 8 first) ++ big_bytes 4 count) ++ records_bytes layout (commands_of entries) ++ 0 ∷ [] ≡ frame layout (batch_of first entries) ++ 0 ∷ []
unfolding frame
frame_pieces layout first entries len count len_is count_is =
    let records = records_bytes layout (commands_of entries) in
    let counted : count ≡ length (commands_of entries) = count_is ∙ sym (length-map entries (λ (e : Entry). e.command)) in
    ap (λ n. (((([] ++ 1 ∷ []) ++ big_bytes 4 n) ++ big_bytes 8 first) ++ big_bytes 4 count) ++ records ++ 0 ∷ []) len_is
    ∙ ap (λ n. (((([] ++ 1 ∷ []) ++ big_bytes 4 (12 + length records)) ++ big_bytes 8 first) ++ big_bytes 4 n) ++ records ++ 0 ∷ []) counted
