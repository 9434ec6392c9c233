-- A store that was just made.
use Rattle.std.proofs.Common.{◌≡◌, ◌≤◌, inl, ℕ, zero, suc, ◌+◌, ◌*◌, true, None, List, [], ◌∷◌, ◌++◌, length, map, refl, sym, ap, subst, ◌∙◌, arith}
use Rattle.std.proofs.lemmas.Bool.Decides.{nat_tests}
use Rattle.std.proofs.lemmas.List.{length-append}
use Rattle.std.specs.Ordering.{nat_cmp}
use Rattle.std.specs.Cmp.Lexicographic.{slice_cmp, nat_list_cmp_total}
use Rattle.std.specs.List.{AllByRecursion, flat_map, range_with_len}
use Rattle.std.specs.FinMap as finite
use Rattle.java_hash.specs.Stripes.{is_stripe_count}
use Rattle.map_types.specs.declared.texts.Value.{Value}
use Rattle.map_model.specs.Maps.{Map, Entries}
use Rattle.map_model.specs.Parts.{union_of}
use Rattle.map_model.proofs.MapLaws.{same_gets}
use Rattle.log_records.specs.Layout.{Layout}
use Rattle.store_layout.specs.Checkpoints.{Section, checkpoint_header, entries_bytes, section_bytes, marked_bytes, sections_bytes, greatest_mark, IsEntryOf, AreSections, AreMarkedFrom}
use Rattle.store_layout.specs.Opening.{empty_section, first_checkpoint}
use Rattle.store_layout.specs.OpeningLaws.{FirstIsWhole, FirstStands}

-- ---- nothing

abbrev nothing : Map
nothing = finite.empty

none_from_length : (es : Entries) → length es ≡ 0 → es ≡ []
none_from_length [] e = refl
none_from_length (x ∷ es) e = absurd (omega (arith, e))

pub no_entries : finite.entries nothing ≡ []
no_entries = none_from_length (finite.entries nothing) (sym (finite.len-entries nothing) ∙ finite.len-empty (slice_cmp nat_cmp) Value)

abbrev pub empties : ℕ → ℕ → List Section
empties from count = map (λ stripe. empty_section) (range_with_len from count)

many : (from count : ℕ) → length (empties from count) ≡ count
many from zero = refl
many from (suc count) = let rest = many (from + 1) count in omega (arith, rest)

pub section_size : (layout : Layout) → length (section_bytes layout empty_section) ≡ 12
unfolding marked_bytes
section_size layout =
    let size : length (entries_bytes layout (finite.entries nothing)) ≡ 0 = ap (λ (es : Entries). length (entries_bytes layout es)) no_entries in
    omega (arith, size)

size : (layout : Layout) (from count : ℕ) → length (sections_bytes layout (empties from count)) ≡ 12 * count
size layout from zero = refl
size layout from (suc count) =
    let rest = size layout (from + 1) count in
    let both = length-append (section_bytes layout empty_section) (sections_bytes layout (empties (from + 1) count)) in
    omega (arith, rest, both, section_size layout)

pub greatest : (from count : ℕ) → greatest_mark (empties from count) ≡ 0
greatest from zero = refl
greatest from (suc count) = let rest = greatest (from + 1) count in omega (arith, rest)

marked : (from count : ℕ) → AreMarkedFrom 0 (empties from count)
marked from zero = tt
marked from (suc count) = (omega arith, marked (from + 1) count)

pub sections : (layout : Layout) (stripes stripe from count : ℕ) → AreSections layout stripes stripe (empties from count)
sections layout stripes stripe from zero = tt
sections layout stripes stripe from (suc count) = (
  record {
    mark_fits = omega arith;
    count_fits = let none : length (finite.entries nothing) ≡ 0 = ap (λ (es : Entries). length es) no_entries in omega (arith, none);
    entries = subst (λ (es : Entries). AllByRecursion (IsEntryOf layout stripes stripe) es) (sym no_entries) tt;
  },
  sections layout stripes (stripe + 1) (from + 1) count,
)

few_stripes : (n : ℕ) → is_stripe_count n ≡ true → n ≤ 256
few_stripes n e = grind (arith, nat_tests)

pub first_is_whole : FirstIsWhole
unfolding checkpoint_header
first_is_whole layout stripes is =
    let bytes = size layout 0 stripes in
    let few = few_stripes stripes is in (
      record {
        generation_fits = omega arith;
        low_fits = omega arith;
        body_fits = omega (arith, bytes, few);
        stripes = is;
        one_each = many 0 stripes;
        sections = sections layout stripes 0 0 stripes;
        marks = marked 0 stripes;
      },
      omega (arith, bytes),
    )

no_entries_in : (from count : ℕ) → flat_map finite.entries (map (λ section. section.map) (empties from count)) ≡ []
no_entries_in from zero = refl
no_entries_in from (suc count) = ap (λ (es : Entries). es ++ flat_map finite.entries (map (λ section. section.map) (empties (from + 1) count))) no_entries ∙ no_entries_in (from + 1) count

-- the union of its sections
pub no_map : (stripes : ℕ) → union_of (map (λ section. section.map) (empties 0 stripes)) ≡ nothing
no_map stripes = same_gets _ _ (λ q.
    finite.get-from_entries nat_list_cmp_total (flat_map finite.entries (map (λ section. section.map) (empties 0 stripes))) q
    ∙ ap (λ (es : Entries). finite.find (slice_cmp nat_cmp) q es) (no_entries_in 0 stripes)
    ∙ sym (finite.get-empty (slice_cmp nat_cmp) q))

pub first_stands : FirstStands
first_stands contents stripes is unsealed closed = record {
  found = record { checkpoint = first_checkpoint stripes; first = []; second = None };
  holds = record {
    checkpoint = is;
    other = inl unsealed;
    logs = closed;
    reaches = let none = greatest 0 stripes in omega (arith, none);
  };
  prefix = refl;
  map = no_map stripes;
}
