-- The bytes of a new store's checkpoint.
use Rattle.std.proofs.Common.{◌≡◌, ℕ, zero, suc, ◌+◌, List, [], ◌∷◌, ◌++◌, length, refl, sym, ap, ap₂, ◌∙◌, append_assoc, append-nil, arith}
use Rattle.std.specs.Prelude.{slice_set}
use Rattle.byteorder.specs.Endian.{big_bytes}
use Rattle.map_types.specs.declared.texts.Value.{Value}
use Rattle.store_layout.specs.Checkpoints.{checkpoint_bytes, checkpoint_header, entries_bytes, marked_bytes, section_bytes, sections_bytes}
use Rattle.log_records.specs.Layout.{Layout}
use Rattle.store_layout.specs.FirstFiles.{first_log_in}
use Rattle.store_layout.specs.Logs.{header}
use Rattle.store_layout.specs.Opening.{empty_section, first_checkpoint}
use Rattle.store_layout.proofs.NewStores.{empties, greatest, no_entries}

empty_bytes : (layout : Layout) → section_bytes layout empty_section ≡ big_bytes 8 0 ++ big_bytes 4 0
unfolding marked_bytes
empty_bytes layout =
    ap (λ (es : List (List ℕ × Value)). big_bytes 8 0 ++ (big_bytes 4 (length es) ++ entries_bytes layout es)) no_entries ∙ ap (λ (l : List ℕ). big_bytes 8 0 ++ l) (append-nil (big_bytes 4 0))

-- the sections of so many stripes
abbrev pub Sections : Layout → ℕ → List ℕ
Sections layout count = sections_bytes layout (empties 0 count)

last_one : (layout : Layout) (from count : ℕ) → sections_bytes layout (empties from count) ++ section_bytes layout empty_section ≡ sections_bytes layout (empties from (suc count))
last_one layout from zero = sym (append-nil (section_bytes layout empty_section))
last_one layout from (suc count) =
    let one = section_bytes layout empty_section in
    append_assoc one (sections_bytes layout (empties (from + 1) count)) one ∙ ap (λ (l : List ℕ). one ++ l) (last_one layout (from + 1) count)

pub one_more : (layout : Layout) (count : ℕ) (before after : List ℕ) → before ≡ Sections layout count → after ≡ (before ++ big_bytes 8 0) ++ big_bytes 4 0 → after ≡ Sections layout (count + 1)
one_more layout count before after e is =
    let next : suc count ≡ count + 1 = omega arith in
    is ∙ append_assoc before (big_bytes 8 0) (big_bytes 4 0) ∙ ap₂ (λ (l m : List ℕ). l ++ m) e (sym (empty_bytes layout)) ∙ (last_one layout 0 count ∙ ap (Sections layout) next)

-- no section has a mark above 0
pub first_bytes_are : (layout : Layout) (stripes : ℕ) → checkpoint_header layout 0 0 0 stripes (length (Sections layout stripes)) ++ Sections layout stripes ≡ checkpoint_bytes layout (first_checkpoint stripes)
first_bytes_are layout stripes = ap (λ (most : ℕ). checkpoint_header layout 0 0 most stripes (length (Sections layout stripes)) ++ Sections layout stripes) (sym (greatest 0 stripes))

-- the generation and the low ticket are 0, and so is the gate
abbrev pub zeros : List ℕ
zeros = 0 ∷ 0 ∷ 0 ∷ 0 ∷ 0 ∷ 0 ∷ 0 ∷ 0 ∷ 0 ∷ 0 ∷ 0 ∷ 0 ∷ 0 ∷ 0 ∷ 0 ∷ 0 ∷ 0 ∷ []

pub first_log_is : (layout : Layout) → layout.version ∷ zeros ≡ first_log_in layout
unfolding header
first_log_is layout = refl

-- the byte of another version in a checkpoint's header
pub renamed : (from to : Layout) (generation low greatest stripes body : ℕ) → slice_set (checkpoint_header from generation low greatest stripes body) 0 to.version ≡ checkpoint_header to generation low greatest stripes body
unfolding checkpoint_header
renamed from to generation low greatest stripes body = refl
