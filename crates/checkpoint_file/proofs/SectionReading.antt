-- Entries of a section, and sections of a body, one after another.
use Rattle.std.proofs.Common.{◌≡◌, ◌<◌, ◌^◌, ℕ, ◌+◌, List, [], ◌∷◌, ◌++◌, length, refl, sym, ap, subst, ◌∙◌, append_assoc, arith}
use Rattle.std.proofs.lemmas.List.{length-append, map-append, length-map}
use Rattle.std.specs.List.{AllByRecursion}
use Rattle.std.specs.List.Sorted.{IsStrictlySortedBy}
use Rattle.std.specs.FinMap as finite
use Rattle.byteorder.specs.Endian.{big_bytes}
use Rattle.byteorder.specs.Numbers.{length-bytes_high_first}
use Rattle.map_types.specs.declared.texts.Value.{Value}
use Rattle.map_model.proofs.EntryLaws.{entries-map_of}
use Rattle.log_records.specs.Layout.{Layout}
use Rattle.store_layout.specs.Checkpoints.{Section, IsEntryOf, IsSection, AreSections, entry_bytes, entries_bytes, marked_bytes, section_bytes, sections_bytes}
use Rattle.store_layout.specs.Faults.{AreEntries, IsFault, HasFault, no_head, bad_entry}
use Rattle.store_layout.proofs.CheckpointLemmas.{are_push, entries_push, sections_push}
use Rattle.checkpoint_file.specs.declared.loading.LoadedSection.{LoadedSection}
use Rattle.checkpoint_file.specs.declared.unread.Unread.{Unread}
use Rattle.checkpoint_file.specs.Loads.{section_of, sections_of, IsRising, AreRising, StandsAt, IsBehind, GoesOn, HasNoNext, MayFollow, IsNext, HasFewer, AreSoMany, IsLoaded, AreLoaded}
use Rattle.checkpoint_file.proofs.PlaceLemmas.{goes_first, goes_further}

abbrev Entry : Type 0
Entry = List ℕ × Value

-- how far the reading has come
pub come_to : (content bytes rest : List ℕ) (old new : Unread) → IsBehind old new → length rest ≡ old.left → GoesOn content bytes rest new → new.at ≡ old.at + length bytes
come_to content bytes rest old new behind size g =
    let same_end = behind.end in
    let whole : length rest ≡ length bytes + length g.left = ap (λ (l : List ℕ). length l) g.spelled ∙ length-append bytes g.left in
    let few = g.size in
    omega (arith, same_end, whole, few, size)

-- ---- entries

pub no_entry_bytes : (layout : Layout) (es : List Entry) → es ≡ [] → (content rest : List ℕ) (unread : Unread) → StandsAt content unread.at rest → length rest ≡ unread.left
    → GoesOn content (entries_bytes layout es) rest unread
no_entry_bytes layout es is content rest unread stands size =
    subst (λ (l : List Entry). GoesOn content (entries_bytes layout l) rest unread) (sym is) (record { left = rest; spelled = refl; stands = stands; size = size })

pub entry_bytes_more : (layout : Layout) (es : List Entry) (e : Entry) (used : ℕ) (content rest : List ℕ) (old new : Unread) → (g : GoesOn content (entries_bytes layout es) rest old)
    → IsNext layout e used g.left → new.at ≡ old.at + used → new.left + used ≡ old.left → (all : List Entry) → all ≡ es ++ e ∷ [] → GoesOn content (entries_bytes layout all) rest new
entry_bytes_more layout es e used content rest old new g next place fewer all is =
    let bytes = entry_bytes layout e in
    let size = next.size in
    let further = goes_further content content (entries_bytes layout es) bytes rest old new refl g
    (goes_first content g.left bytes next.others old new g.stands g.size next.spelled (omega (arith, place, size)) (omega (arith, fewer, size))) in
    subst (λ (l : List ℕ). GoesOn content l rest new) (sym (ap (entries_bytes layout) is ∙ entries_push layout es e)) further

module _ (layout : Layout) (stripes stripe : ℕ) where
  pub no_entries : (es : List Entry) → es ≡ [] → AreEntries layout stripes stripe es
  unfolding IsStrictlySortedBy
  no_entries es is = subst (λ (l : List Entry). AreEntries layout stripes stripe l) (sym is) (record { each = tt; rising = tt })

  pub entries_push_one : (es : List Entry) (e : Entry) (all : List Entry) → all ≡ es ++ e ∷ [] → AreEntries layout stripes stripe es → MayFollow layout stripes stripe es e
      → AreEntries layout stripes stripe all
  entries_push_one es e all is are follows = subst (λ (l : List Entry). AreEntries layout stripes stripe l) (sym is) (follows are)

  pub fewer_entries : (count offset : ℕ) (es : List Entry) (content rest : List ℕ) (old new : Unread) → IsBehind old new → length rest ≡ old.left
      → AreEntries layout stripes stripe es → (g : GoesOn content (entries_bytes layout es) rest new) → length es < count → (offset ≡ new.at) × HasNoNext layout stripes stripe es g.left
      → (distance : ℕ) × (offset ≡ old.at + distance) × HasFewer layout stripes stripe count rest distance
  fewer_entries count offset es content rest old new behind size are g few why = (
    length (entries_bytes layout es),
    why.0 ∙ come_to content (entries_bytes layout es) rest old new behind size g,
    record { before = es; are = are; others = g.left; spelled = g.spelled; fewer = few; none_next = why.1; place = refl },
  )

  -- ---- a section

  pub section_begins : (mark count : ℕ) (content rest others : List ℕ) (old new : Unread) → StandsAt content old.at rest → length rest ≡ old.left
      → rest ≡ (big_bytes 8 mark ++ big_bytes 4 count) ++ others → new.at ≡ old.at + 12 → new.left + 12 ≡ old.left → GoesOn content (big_bytes 8 mark ++ big_bytes 4 count) rest new
  section_begins mark count content rest others old new stands size spelled place fewer =
      let long : length (big_bytes 8 mark ++ big_bytes 4 count) ≡ 12 =
      omega (arith, length-append (big_bytes 8 mark) (big_bytes 4 count), length-bytes_high_first 8 mark, length-bytes_high_first 4 count) in
      goes_first content rest (big_bytes 8 mark ++ big_bytes 4 count) others old new stands size spelled (omega (arith, place, long)) (omega (arith, fewer, long))

  pub section_loaded : (read : LoadedSection) (count : ℕ) → read.mark < 2 ^ 64 → count < 2 ^ 32 → AreSoMany layout stripes stripe count read.entries.items → IsLoaded layout stripes stripe read
  section_loaded read count mark_fits count_fits found =
      let es : List Entry = read.entries.items in
      let rising : finite.entries (section_of read).map ≡ es = entries-map_of es found.are.rising in
      let many = found.so_many in
      record {
        fits = record {
          mark_fits = mark_fits;
          count_fits = subst (λ (l : List Entry). length l < 2 ^ 32) (sym rising) (omega (arith, many, count_fits));
          entries = subst (λ (l : List Entry). AllByRecursion (IsEntryOf layout stripes stripe) l) (sym rising) found.are.each;
        };
        rising = rising;
      }

  pub section_whole : (read : LoadedSection) (count : ℕ) (content there rest : List ℕ) (old new : Unread) → there ≡ content → AreSoMany layout stripes stripe count read.entries.items
      → (g : GoesOn content (big_bytes 8 read.mark ++ big_bytes 4 count) rest old) → GoesOn there (entries_bytes layout read.entries.items) g.left new
      → GoesOn content (section_bytes layout (section_of read)) rest new
  unfolding marked_bytes
  section_whole read count content there rest old new same found g behind =
      let es : List Entry = read.entries.items in
      let rising : finite.entries (section_of read).map ≡ es = entries-map_of es found.are.rising in
      let many = found.so_many in
      let head = big_bytes 8 read.mark ++ big_bytes 4 count in
      let further = goes_further content there head (entries_bytes layout es) rest old new same g behind in
      let bytes : head ++ entries_bytes layout es ≡ section_bytes layout (section_of read) =
      append_assoc (big_bytes 8 read.mark) (big_bytes 4 count) (entries_bytes layout es)
      ∙ ap (λ (n : ℕ). big_bytes 8 read.mark ++ (big_bytes 4 n ++ entries_bytes layout es)) (sym many)
      ∙ ap (λ (l : List Entry). marked_bytes layout read.mark l) (sym rising) in
      subst (λ (l : List ℕ). GoesOn content l rest new) bytes further

  -- a section whose mark and count don't fit
  pub no_section : stripe < stripes → (offset place : ℕ) (rest : List ℕ) → (offset ≡ place) × (length rest < 12) → (distance : ℕ) × (offset ≡ place + distance) × IsFault layout stripes stripe rest distance
  no_section below offset place rest why = (0, (let here = why.0 in omega (arith, here)), no_head below why.1 refl)

  -- one with an entry that may not be there
  pub bad_section : stripe < stripes → (mark count offset place next : ℕ) (rest others : List ℕ) → mark < 2 ^ 64 → count < 2 ^ 32 → rest ≡ (big_bytes 8 mark ++ big_bytes 4 count) ++ others → next ≡ place + 12
      → (distance : ℕ) × (offset ≡ next + distance) × HasFewer layout stripes stripe count others distance → (distance : ℕ) × (offset ≡ place + distance) × IsFault layout stripes stripe rest distance
  bad_section below mark count offset place next rest others mark_fits count_fits spelled next_is why =
      let few = why.2 in
      let here = why.1 in (
        12 + why.0,
        omega (arith, here, next_is),
        bad_entry below (record {
          mark = mark;
          count = count;
          mark_fits = mark_fits;
          count_fits = count_fits;
          before = few.before;
          are = few.are;
          rest = few.others;
          spelled = spelled ∙ append_assoc (big_bytes 8 mark) (big_bytes 4 count) others ∙ ap (λ (l : List ℕ). big_bytes 8 mark ++ (big_bytes 4 count ++ l)) few.spelled;
          fewer = few.fewer;
          none_next = few.none_next;
          place = ap (λ (n : ℕ). 12 + n) few.place;
        }),
      )

-- ---- sections

pub sections_more : (reads : List LoadedSection) (read : LoadedSection) → sections_of (reads ++ read ∷ []) ≡ sections_of reads ++ section_of read ∷ []
sections_more reads read = map-append (λ (r : LoadedSection). section_of r) reads (read ∷ [])

rising_push : (reads : List LoadedSection) (read : LoadedSection) → AreRising reads → IsRising read → AreRising (reads ++ read ∷ [])
rising_push [] read all one = (one, tt)
rising_push (x ∷ reads) read all one = (all.0, rising_push reads read all.1 one)

pub no_section_bytes : (layout : Layout) (reads : List LoadedSection) → reads ≡ [] → (content rest : List ℕ) (unread : Unread) → StandsAt content unread.at rest → length rest ≡ unread.left
    → GoesOn content (sections_bytes layout (sections_of reads)) rest unread
no_section_bytes layout reads is content rest unread stands size =
    subst (λ (l : List LoadedSection). GoesOn content (sections_bytes layout (sections_of l)) rest unread) (sym is) (record { left = rest; spelled = refl; stands = stands; size = size })

pub section_bytes_more : (layout : Layout) (reads : List LoadedSection) (read : LoadedSection) (content there rest : List ℕ) (old new : Unread) → there ≡ content
    → (g : GoesOn content (sections_bytes layout (sections_of reads)) rest old) → GoesOn there (section_bytes layout (section_of read)) g.left new
    → (all : List LoadedSection) → all ≡ reads ++ read ∷ [] → GoesOn content (sections_bytes layout (sections_of all)) rest new
section_bytes_more layout reads read content there rest old new same g next all is =
    let further = goes_further content there (sections_bytes layout (sections_of reads)) (section_bytes layout (section_of read)) rest old new same g next in
    let bytes = sections_push layout (sections_of reads) (section_of read) in
    subst (λ (l : List ℕ). GoesOn content l rest new) (sym (ap (λ (l : List LoadedSection). sections_bytes layout (sections_of l)) is ∙ ap (sections_bytes layout) (sections_more reads read) ∙ bytes)) further

module _ (layout : Layout) (stripes : ℕ) where
  pub no_sections : (reads : List LoadedSection) → reads ≡ [] → AreLoaded layout stripes reads
  no_sections reads is = subst (λ (l : List LoadedSection). AreLoaded layout stripes l) (sym is) (record { fit = tt; rising = tt })

  pub sections_step : (reads : List LoadedSection) (read : LoadedSection) (number : ℕ) → number ≡ length reads → AreLoaded layout stripes reads → IsLoaded layout stripes number read
      → (all : List LoadedSection) → all ≡ reads ++ read ∷ [] → AreLoaded layout stripes all
  sections_step reads read number count are next all is =
      let place : number ≡ 0 + length (sections_of reads) = omega (arith, count, length-map reads (λ (r : LoadedSection). section_of r)) in
      let fit = are_push layout stripes 0 (sections_of reads) (section_of read) are.fit (subst (λ n. IsSection layout stripes n (section_of read)) place next.fits) in
      subst (λ (l : List LoadedSection). AreLoaded layout stripes l) (sym is) (record {
        fit = subst (λ (l : List Section). AreSections layout stripes 0 l) (sym (sections_more reads read)) fit;
        rising = rising_push reads read are.rising next.rising;
      })

  -- behind these sections the next one has a fault
  pub sections_fault : (reads : List LoadedSection) (number offset : ℕ) (content rest : List ℕ) (old new : Unread) → number ≡ length reads → IsBehind old new → length rest ≡ old.left
      → AreLoaded layout stripes reads → (g : GoesOn content (sections_bytes layout (sections_of reads)) rest new)
      → (distance : ℕ) × (offset ≡ new.at + distance) × IsFault layout stripes number g.left distance
      → (distance : ℕ) × (offset ≡ old.at + distance) × HasFault layout stripes rest distance
  sections_fault reads number offset content rest old new count behind size are g why =
      let sections = sections_of reads in
      let here = come_to content (sections_bytes layout sections) rest old new behind size g in
      let there = why.1 in
      let place : number ≡ length sections = omega (arith, count, length-map reads (λ (r : LoadedSection). section_of r)) in (
        length (sections_bytes layout sections) + why.0,
        omega (arith, here, there),
        record {
          before = sections;
          are = are.fit;
          rest = g.left;
          spelled = g.spelled;
          distance = why.0;
          fault = subst (λ n. IsFault layout stripes n g.left why.0) place why.2;
          place = refl;
        },
      )
