-- One entry or one section more.
use Rattle.std.proofs.Common.{◌≡◌, ◌≤◌, ℕ, ◌+◌, ◌*◌, max, List, [], ◌∷◌, ◌++◌, length, Some, refl, sym, ◌∙◌, ap, subst, arith, append_assoc, add-zero, length-append}
use Rattle.std.proofs.lemmas.List.{append-nil}
use Rattle.std.specs.Int.{w64, cast_unsigned}
use Rattle.std.specs.List.{AllByRecursion}
use Rattle.byteorder.specs.Endian.{big_bytes}
use Rattle.byteorder.specs.Numbers.{length-bytes_high_first}
use Rattle.map_types.specs.declared.texts.Value.{Value}
use Rattle.map_types.specs.declared.texts.Value.TheVariants.{Int, Text}
use Rattle.log_records.specs.Layout.{Layout, first_layout}
use Rattle.log_records.specs.Spelling.{IsText, IsValue, value_bytes}
use Rattle.store_layout.specs.Checkpoints.{Section, AreMarkedFrom, AreSections, IsSection, checkpoint_header, entries_bytes, entry_bytes, greatest_mark, marked_bytes, section_bytes, sections_bytes}

pub entries_push : (layout : Layout) (entries : List (List ℕ × Value)) (entry : List ℕ × Value)
    → entries_bytes layout (entries ++ entry ∷ []) ≡ entries_bytes layout entries ++ entry_bytes layout entry
entries_push layout [] entry = append-nil (entry_bytes layout entry)
entries_push layout (x ∷ entries) entry =
    ap (λ (l : List ℕ). entry_bytes layout x ++ l) (entries_push layout entries entry) ∙ sym (append_assoc (entry_bytes layout x) (entries_bytes layout entries) (entry_bytes layout entry))

pub sections_push : (layout : Layout) (sections : List Section) (x : Section)
    → sections_bytes layout (sections ++ x ∷ []) ≡ sections_bytes layout sections ++ section_bytes layout x
sections_push layout [] x = append-nil (section_bytes layout x)
sections_push layout (y ∷ sections) x =
    ap (λ (l : List ℕ). section_bytes layout y ++ l) (sections_push layout sections x) ∙ sym (append_assoc (section_bytes layout y) (sections_bytes layout sections) (section_bytes layout x))

pub greatest_push : (sections : List Section) (x : Section) → greatest_mark (sections ++ x ∷ []) ≡ max (greatest_mark sections) x.mark
greatest_push [] x = omega arith
greatest_push (y ∷ sections) x = ap (λ n. max y.mark n) (greatest_push sections x) ∙ omega arith

pub are_push : (layout : Layout) (stripes stripe : ℕ) (sections : List Section) (x : Section) → AreSections layout stripes stripe sections
    → IsSection layout stripes (stripe + length sections) x → AreSections layout stripes stripe (sections ++ x ∷ [])
are_push layout stripes stripe [] x are is = (subst (λ n. IsSection layout stripes n x) (add-zero stripe) is, tt)
are_push layout stripes stripe (y ∷ sections) x are is =
    (are.0, are_push layout stripes (stripe + 1) sections x are.1 (subst (λ n. IsSection layout stripes n x) (omega arith) is))

pub marks_push : (low : ℕ) (sections : List Section) (x : Section) → AreMarkedFrom low sections → low ≤ x.mark → AreMarkedFrom low (sections ++ x ∷ [])
marks_push low [] x all one = (one, tt)
marks_push low (y ∷ sections) x all one = (all.0, marks_push low sections x all.1 one)

pub length-checkpoint_header : (layout : Layout) (a b c d e : ℕ) → length (checkpoint_header layout a b c d e) ≡ 35
unfolding checkpoint_header
length-checkpoint_header layout a b c d e = refl

pub length-marked : (layout : Layout) (mark : ℕ) (entries : List (List ℕ × Value)) → length (marked_bytes layout mark entries) ≡ 12 + length (entries_bytes layout entries)
unfolding marked_bytes
length-marked layout mark entries =
    omega (
      arith,
      length-append (big_bytes 8 mark) (big_bytes 4 (length entries) ++ entries_bytes layout entries),
      length-append (big_bytes 4 (length entries)) (entries_bytes layout entries),
      length-bytes_high_first 8 mark,
      length-bytes_high_first 4 (length entries),
    )
