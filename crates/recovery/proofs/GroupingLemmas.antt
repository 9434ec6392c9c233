-- Entries in lists by the stripes of their keys.
use Rattle.std.proofs.Common.{◌≡◌, ◌≢◌, ◌≤◌, ◌<◌, ℕ, zero, suc, ◌+◌, Bool, true, false, cond, is_some, Option, None, Some, List, [], ◌∷◌, ◌++◌, length, map, get_or, set, refl, sym, ap, ap₂, subst, ◌∙◌, arith}
use Rattle.std.proofs.lemmas.Bool.Decides.{nat_tests}
use Rattle.std.proofs.lemmas.List.{map-set, map-append, get_or-map, get_or-set_same, get_or-set_other, length-map, length-set}
use Rattle.std.proofs.lemmas.List.FromFn.{length-map-range_with_len}
use Rattle.std.proofs.lemmas.Simd.{map-map}
use Rattle.std.specs.List.{AllByRecursion, range_with_len}
use Rattle.std.specs.Cmp.Lexicographic.{nat_list_cmp_total}
use Rattle.std.specs.FinMap as finite
use Rattle.std.specs.Option.{option_or}
use Rattle.java_hash.specs.Stripes.{stripe_of}
use Rattle.map_types.specs.declared.texts.Value.{Value}
use Rattle.map_model.specs.Maps.{Map}
use Rattle.map_model.specs.Parts.{part_of, parts_of, is_in_stripe}
use Rattle.map_model.proofs.MapLaws.{ties, same_from_ties, same_gets, get-part_of, assign-part_of, part_of-assign_other}
use Rattle.bin_table.specs.Chains.{Entries, HasDistinctKeys, find_in}
use Rattle.bin_table.proofs.SortLaws.{distinct_sorted}
use Rattle.bin_table.proofs.TableLaws.{distinct-append, find-append}
use Rattle.log_records.specs.Layout.{Layout}
use Rattle.store_layout.specs.Checkpoints.{IsEntryOf, IsSection, AreSections}
use Rattle.checkpoint_file.specs.declared.loading.LoadedSection.{LoadedSection}
use Rattle.checkpoint_file.specs.Loads.{AreLoaded, AreRising, IsRising, section_of, sections_of}
use Rattle.recovery.specs.Counting.{entries_in}
use Rattle.recovery.specs.Dividing.{AreGroups, IsGroup}
use Rattle.recovery.proofs.DividingLemmas.{no_part, nothing}

-- ---- keys that are found

no_some : is_some {T = Value} None ≡ true → ⊥
no_some is = absurd (let e = is in cc)

-- a key that is found is one of the keys
found : (P : List ℕ → Type 0) (q : List ℕ) (es : Entries) → AllByRecursion (λ (e : List ℕ × Value). P e.0) es → is_some (find_in q es) ≡ true → P q
found P q [] all is = absurd (no_some is)
found P q (e ∷ es) all is =
    elim (ties q e.0) as (λ b. ties q e.0 ≡ b → is_some (cond b (Some e.1) (find_in q es)) ≡ true → P q) [
      | true ↦ λ same some. subst P (sym (same_from_ties q e.0 same)) all.0
      | false ↦ λ other some. found P q es all.1 some
    ] refl is

nowhere : (P : List ℕ → Type 0) (q : List ℕ) (es : Entries) → AllByRecursion (λ (e : List ℕ × Value). P e.0) es → (P q → ⊥) → find_in q es ≡ None
nowhere P q es all not =
    elim (find_in q es) as (λ o. (is_some o ≡ true → P q) → o ≡ None) [
      | None ↦ λ has. refl
      | Some v ↦ λ has. absurd (not (has refl))
    ] (found P q es all)

distinct_behind : (xs ys : Entries) → HasDistinctKeys (xs ++ ys) → HasDistinctKeys ys
distinct_behind [] ys one = one
distinct_behind (e ∷ xs) ys one = distinct_behind xs ys one.1

distinct_push : (es : Entries) (k : List ℕ) (v : Value) → HasDistinctKeys es → find_in k es ≡ None → HasDistinctKeys (es ++ (k, v) ∷ [])
distinct_push es k v one none = distinct-append es ((k, v) ∷ []) one (refl, tt) (record {
  at = λ q is. elim (ties q k) as (λ b. ties q k ≡ b → cond b (Some v) None ≡ None) [
    | true ↦ λ same. absurd (no_some (subst (λ (o : Option Value). is_some o ≡ true) (ap (λ x. find_in x es) (same_from_ties q k same) ∙ none) is))
    | false ↦ λ other. refl
  ] refl;
})

-- ---- one entry more

module _ (n : ℕ) (m : Map) (k : List ℕ) (v : Value) (absent : finite.get m k ≡ None) where
  without : (b : Bool) (o : Option Value) → o ≡ None → cond b o None ≡ None
  without true o none = none
  without false o none = refl

  -- the list of its key's stripe has it at the end
  own : (s : ℕ) (group : Entries) → is_in_stripe n s k ≡ true → IsGroup n s m group → IsGroup n s (finite.insert m k v) (group ++ (k, v) ∷ [])
  own s group is g =
      let none : find_in k group ≡ None =
      sym (finite.get-from_entries nat_list_cmp_total group k) ∙ ap (λ (x : Map). finite.get x k) g.same ∙ get-part_of n s m k ∙ without (is_in_stripe n s k) (finite.get m k) absent in
      record {
        distinct = distinct_push group k v g.distinct none;
        same = finite.from_entries_push nat_list_cmp_total (finite.slice_cmp-IsAntisymmetric finite.nat_cmp-IsAntisymmetric) group k v none
            ∙ ap (λ (x : Map). finite.insert x k v) g.same ∙ assign-part_of n s m k (Some v) is;
      }

  -- the others stay
  other : (s : ℕ) (group : Entries) → is_in_stripe n s k ≡ false → IsGroup n s m group → IsGroup n s (finite.insert m k v) group
  other s group not g = record { distinct = g.distinct; same = g.same ∙ sym (part_of-assign_other n s m k (Some v) not) }

  pub pushed : {V : Type 0} (items : V → Entries) (lists : List V) (i : ℕ) (d old new : V) → i ≡ stripe_of n k → i < n → length lists ≡ n → old ≡ get_or lists i d
      → items new ≡ items old ++ (k, v) ∷ [] → AreGroups n m (map items lists) → AreGroups n (finite.insert m k v) (map items (set lists i new))
  pushed items lists i d old new is within size there more are =
      let low : i < length lists = omega (arith, within, size) in
      let here : items old ≡ get_or (map items lists) i [] = ap items there ∙ sym (get_or-map items lists i d [] low) in
      let whole : map items (set lists i new) ≡ set (map items lists) i (items new) = map-set items lists i new in
      let many : length (map items lists) ≡ n = length-map lists items ∙ size in
      record {
        one_each = ap length whole ∙ length-set (map items lists) i (items new) ∙ many;
        each = λ s within'. elim (is_in_stripe n s k) as (λ b. is_in_stripe n s k ≡ b → IsGroup n s (finite.insert m k v) (get_or (map items (set lists i new)) s [])) [
          | true ↦ λ own_key.
              let same : s ≡ i = grind (arith, nat_tests) in
              let at : get_or (map items (set lists i new)) s [] ≡ items old ++ (k, v) ∷ [] =
              ap (λ l. get_or l s []) whole ∙ ap (λ j. get_or (set (map items lists) i (items new)) j []) same ∙ get_or-set_same (map items lists) i (items new) [] (omega (arith, within, many)) ∙ more in
              subst (IsGroup n s (finite.insert m k v)) (sym at)
              (own s (items old) own_key (subst (IsGroup n s m) (ap (λ j. get_or (map items lists) j []) same ∙ sym here) (are.each s within')))
          | false ↦ λ other_key.
              let apart : s ≢ i = λ e. grind (arith, nat_tests) in
              subst (IsGroup n s (finite.insert m k v)) (sym (ap (λ l. get_or l s []) whole ∙ get_or-set_other (map items lists) i s (items new) [] apart))
              (other s (get_or (map items lists) s []) other_key (are.each s within'))
        ] refl;
      }

-- ---- no entry

empty_at : {V : Type 0} (items : V → Entries) (lists : List V) (s : ℕ) → AllByRecursion (λ list. items list ≡ []) lists → get_or (map items lists) s [] ≡ []
empty_at items [] s all = refl
empty_at items (x ∷ lists) zero all = all.0
empty_at items (x ∷ lists) (suc s) all = empty_at items lists s all.1

pub blank_groups : {V : Type 0} (items : V → Entries) (n : ℕ) (lists : List V) → length lists ≡ n → AllByRecursion (λ list. items list ≡ []) lists → AreGroups n finite.empty (map items lists)
blank_groups items n lists size all = record {
  one_each = length-map lists items ∙ size;
  each = λ s within. subst (IsGroup n s nothing) (sym (empty_at items lists s all)) (record { distinct = tt; same = sym (no_part n s) });
}

-- ---- the parts of the groups

distinct_from : (n a : ℕ) (m : Map) (groups : List Entries) → ((i : ℕ) → i < length groups → IsGroup n (a + i) m (get_or groups i [])) → AllByRecursion HasDistinctKeys groups
distinct_from n a m [] each = tt
distinct_from n a m (g ∷ groups) each =
    ((each zero (omega arith)).distinct, distinct_from n (a + 1) m groups (λ i low. subst (λ j. IsGroup n j m (get_or groups i [])) (omega arith) (each (suc i) (omega (arith, low)))))

maps_from : (n a : ℕ) (m : Map) (groups : List Entries) → ((i : ℕ) → i < length groups → IsGroup n (a + i) m (get_or groups i [])) → map finite.from_entries groups ≡ map (λ s. part_of n s m) (range_with_len a (length groups))
maps_from n a m [] each = refl
maps_from n a m (g ∷ groups) each =
    ap₂ (λ (x : Map) (xs : List Map). x ∷ xs) ((each zero (omega arith)).same ∙ ap (λ s. part_of n s m) (omega arith))
    (maps_from n (a + 1) m groups (λ i low. subst (λ j. IsGroup n j m (get_or groups i [])) (omega arith) (each (suc i) (omega (arith, low)))))

each_from : (n : ℕ) (m : Map) (groups : List Entries) → AreGroups n m groups → (i : ℕ) → i < length groups → IsGroup n (0 + i) m (get_or groups i [])
each_from n m groups are i low = let many = are.one_each in subst (λ j. IsGroup n j m (get_or groups i [])) (omega arith) (are.each i (omega (arith, low, many)))

pub all_distinct : (n : ℕ) (m : Map) (groups : List Entries) → AreGroups n m groups → AllByRecursion HasDistinctKeys groups
all_distinct n m groups are = distinct_from n 0 m groups (each_from n m groups are)

pub all_maps : (n : ℕ) (m : Map) (groups : List Entries) → AreGroups n m groups → map finite.from_entries groups ≡ parts_of n m
all_maps n m groups are =
    maps_from n 0 m groups (each_from n m groups are) ∙ ap (λ k. map (λ s. part_of n s m) (range_with_len 0 k)) are.one_each

-- the list that comes next
pub distinct_in : {V : Type 0} (items : V → Entries) (before behind : List V) (list : V) → AllByRecursion HasDistinctKeys (map items (before ++ list ∷ behind)) → HasDistinctKeys (items list)
distinct_in items [] behind list all = all.0
distinct_in items (x ∷ before) behind list all = distinct_in items before behind list all.1

pub maps_push : {V P : Type 0} (map_in : P → Map) (items : V → Entries) (parts : List P) (part : P) (lists : List V) (list : V)
    → map map_in parts ≡ map (λ l. finite.from_entries (items l)) lists → map_in part ≡ finite.from_entries (items list)
    → map map_in (parts ++ part ∷ []) ≡ map (λ l. finite.from_entries (items l)) (lists ++ list ∷ [])
maps_push map_in items parts part lists list same here =
    map-append map_in parts (part ∷ []) ∙ ap₂ (λ (xs : List Map) (x : Map). xs ++ x ∷ []) same here
    ∙ sym (map-append (λ l. finite.from_entries (items l)) lists (list ∷ []))

-- the parts that were made of all lists are those of the map
pub made_of : {V P : Type 0} (map_in : P → Map) (items : V → Entries) (n : ℕ) (m : Map) (parts : List P) (lists : List V)
    → map map_in parts ≡ map (λ l. finite.from_entries (items l)) lists → AreGroups n m (map items lists) → map map_in parts ≡ parts_of n m
made_of map_in items n m parts lists same are = same ∙ sym (map-map finite.from_entries items lists) ∙ all_maps n m (map items lists) are

pub many_made : {P : Type 0} (map_in : P → Map) (n : ℕ) (m : Map) (parts : List P) → map map_in parts ≡ parts_of n m → length parts ≡ n
many_made map_in n m parts maps = sym (length-map parts map_in) ∙ ap length maps ∙ length-map-range_with_len (λ s. part_of n s m) 0 n

-- ---- entries behind others

pub groups_more : (n k : ℕ) → k ≡ n → (old new : List Entries) (es behind : Entries)
    → ((b : Entries) → HasDistinctKeys (es ++ b) → AreGroups k (finite.from_entries b) old → AreGroups k (finite.from_entries (es ++ b)) new)
    → HasDistinctKeys (es ++ behind) → AreGroups n (finite.from_entries behind) old → AreGroups n (finite.from_entries (es ++ behind)) new
groups_more n k e old new es behind made one are =
    subst (λ j. AreGroups j (finite.from_entries (es ++ behind)) new) e (made behind one (subst (λ j. AreGroups j (finite.from_entries behind) old) (sym e) are))

behind_sections : (before behind : List LoadedSection) → HasDistinctKeys (entries_in (before ++ behind)) → HasDistinctKeys (entries_in behind)
behind_sections [] behind one = one
behind_sections (read ∷ before) behind one = behind_sections before behind (distinct_behind read.entries.items (entries_in (before ++ behind)) one)

pub distinct_last : (all before behind : List LoadedSection) → all ≡ before ++ behind → HasDistinctKeys (entries_in all) → HasDistinctKeys (entries_in behind)
distinct_last all before behind split one = behind_sections before behind (subst (λ reads. HasDistinctKeys (entries_in reads)) split one)

-- ---- the entries of a checkpoint

rising_distinct : (read : LoadedSection) → IsRising read → HasDistinctKeys read.entries.items
rising_distinct read rising =
    subst HasDistinctKeys rising (distinct_sorted (finite.entries (section_of read).map) (finite.entries_sorted (section_of read).map))

own_keys : (layout : Layout) (n s : ℕ) (es : Entries) → AllByRecursion (IsEntryOf layout n s) es → AllByRecursion (λ (e : List ℕ × Value). stripe_of n e.0 ≡ s) es
own_keys layout n s [] all = tt
own_keys layout n s (e ∷ es) all = let here : IsEntryOf layout n s e = all.0 in (here.2, own_keys layout n s es all.1)

all_append : {X : Type 0} (P : X → Type 0) (xs ys : List X) → AllByRecursion P xs → AllByRecursion P ys → AllByRecursion P (xs ++ ys)
all_append P [] ys one two = two
all_append P (x ∷ xs) ys one two = (one.0, all_append P xs ys one.1 two)

all_weaken : {X : Type 0} (P Q : X → Type 0) (xs : List X) → ((x : X) → P x → Q x) → AllByRecursion P xs → AllByRecursion Q xs
all_weaken P Q [] weaker all = tt
all_weaken P Q (x ∷ xs) weaker all = (weaker x all.0, all_weaken P Q xs weaker all.1)

section_keys : (layout : Layout) (n s : ℕ) (read : LoadedSection) → IsSection layout n s (section_of read) → IsRising read → AllByRecursion (λ (e : List ℕ × Value). stripe_of n e.0 ≡ s) read.entries.items
section_keys layout n s read fits rising =
    subst (λ (es : Entries). AllByRecursion (λ (e : List ℕ × Value). stripe_of n e.0 ≡ s) es) rising (own_keys layout n s _ fits.entries)

later_keys : (layout : Layout) (n a : ℕ) (reads : List LoadedSection) → AreSections layout n a (sections_of reads) → AreRising reads → AllByRecursion (λ (e : List ℕ × Value). a ≤ stripe_of n e.0) (entries_in reads)
later_keys layout n a [] fit rising = tt
later_keys layout n a (read ∷ reads) fit rising =
    all_append _ read.entries.items (entries_in reads)
    (all_weaken (λ (e : List ℕ × Value). stripe_of n e.0 ≡ a) _ read.entries.items (λ e is. omega (arith, is)) (section_keys layout n a read fit.0 rising.0))
    (all_weaken (λ (e : List ℕ × Value). a + 1 ≤ stripe_of n e.0) _ (entries_in reads) (λ e low. omega (arith, low)) (later_keys layout n (a + 1) reads fit.1 rising.1))

pub distinct_entries : (layout : Layout) (n a : ℕ) (reads : List LoadedSection) → AreSections layout n a (sections_of reads) → AreRising reads → HasDistinctKeys (entries_in reads)
distinct_entries layout n a [] fit rising = tt
distinct_entries layout n a (read ∷ reads) fit rising =
    distinct-append read.entries.items (entries_in reads) (rising_distinct read rising.0) (distinct_entries layout n (a + 1) reads fit.1 rising.1) (record {
      at = λ q is. nowhere (λ k. a + 1 ≤ stripe_of n k) q (entries_in reads) (later_keys layout n (a + 1) reads fit.1 rising.1)
          (λ above. let here : stripe_of n q ≡ a = found (λ k. stripe_of n k ≡ a) q read.entries.items (section_keys layout n a read fit.0 rising.0) is in absurd (omega (arith, above, here)));
    })

-- ---- sections that are groups as they stand

abbrev entries_of : LoadedSection → Entries
entries_of read = read.entries.items

no_other : (o : Option Value) → option_or o None ≡ o
no_other None = refl
no_other (Some v) = refl

found_within : (layout : Layout) (n a : ℕ) (reads : List LoadedSection) → AreSections layout n a (sections_of reads) → AreRising reads → (q : List ℕ) (i : ℕ) → i < length reads
    → stripe_of n q ≡ a + i → find_in q (entries_in reads) ≡ find_in q (get_or (map entries_of reads) i [])
found_within layout n a [] fit rising q i low own = absurd (omega (arith, low))
found_within layout n a (read ∷ reads) fit rising q zero low own =
    find-append q read.entries.items (entries_in reads)
    ∙ ap (option_or (find_in q read.entries.items)) (nowhere (λ k. a + 1 ≤ stripe_of n k) q (entries_in reads) (later_keys layout n (a + 1) reads fit.1 rising.1) (λ above. omega (arith, above, own)))
    ∙ no_other (find_in q read.entries.items)
found_within layout n a (read ∷ reads) fit rising q (suc i) low own =
    find-append q read.entries.items (entries_in reads)
    ∙ ap (λ o. option_or o (find_in q (entries_in reads))) (nowhere (λ k. stripe_of n k ≡ a) q read.entries.items (section_keys layout n a read fit.0 rising.0) (λ here. omega (arith, here, own)))
    ∙ found_within layout n (a + 1) reads fit.1 rising.1 q i (omega (arith, low)) (omega (arith, own))

keys_at : (layout : Layout) (n a : ℕ) (reads : List LoadedSection) → AreSections layout n a (sections_of reads) → AreRising reads → (i : ℕ) → i < length reads
    → HasDistinctKeys (get_or (map entries_of reads) i []) × AllByRecursion (λ (e : List ℕ × Value). stripe_of n e.0 ≡ a + i) (get_or (map entries_of reads) i [])
keys_at layout n a [] fit rising i low = absurd (omega (arith, low))
keys_at layout n a (read ∷ reads) fit rising zero low =
    (rising_distinct read rising.0, all_weaken (λ (e : List ℕ × Value). stripe_of n e.0 ≡ a) _ read.entries.items (λ e is. omega (arith, is)) (section_keys layout n a read fit.0 rising.0))
keys_at layout n a (read ∷ reads) fit rising (suc i) low =
    let rest = keys_at layout n (a + 1) reads fit.1 rising.1 i (omega (arith, low)) in
    (rest.0, all_weaken (λ (e : List ℕ × Value). stripe_of n e.0 ≡ a + 1 + i) _ _ (λ e is. omega (arith, is)) rest.1)

-- with as many stripes each section is the list of its stripe
pub groups_as_they_stand : (layout : Layout) (n : ℕ) (reads : List LoadedSection) → AreLoaded layout n reads → length reads ≡ n → AreGroups n (finite.from_entries (entries_in reads)) (map entries_of reads)
groups_as_they_stand layout n reads loaded size = record {
  one_each = length-map reads entries_of ∙ size;
  each = λ s within.
      let low : s < length reads = omega (arith, within, size) in
      let keys = keys_at layout n 0 reads loaded.fit loaded.rising s low in
      let m : Map = finite.from_entries (entries_in reads) in
      let group : Entries = get_or (map entries_of reads) s [] in
      record {
        distinct = keys.0;
        same = same_gets _ _ (λ q.
            finite.get-from_entries nat_list_cmp_total group q
            ∙ elim (is_in_stripe n s q) as (λ b. is_in_stripe n s q ≡ b → find_in q group ≡ cond b (finite.get m q) None) [
              | true ↦ λ own.
                  let is : stripe_of n q ≡ 0 + s = grind (arith, nat_tests) in
                  sym (finite.get-from_entries nat_list_cmp_total (entries_in reads) q ∙ found_within layout n 0 reads loaded.fit loaded.rising q s low is)
              | false ↦ λ other.
                  nowhere (λ k. stripe_of n k ≡ 0 + s) q group keys.1 (λ is. let e : stripe_of n q ≡ s = omega (arith, is) in grind (arith, nat_tests))
            ] refl
            ∙ sym (get-part_of n s m q));
      };
}
