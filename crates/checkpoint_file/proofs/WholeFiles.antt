-- What a file holds whose body was read, or what is wrong with it.
use Rattle.std.proofs.Common.{◌≡◌, ◌≢◌, ◌⊎◌, inl, inr, ◌≤◌, ◌<◌, ℕ, zero, suc, ◌+◌, true, not, cond, nat_lt, max, None, Some, List, [], ◌∷◌, ◌++◌, length, take, drop, get_or, refl, sym, ap, subst, ◌∙◌, arith}
use Rattle.std.proofs.lemmas.Bool.Decides.{nat_tests}
use Rattle.std.proofs.lemmas.List.{append-nil, length-drop, length-map, length-take-le, take-append-drop, take_more}
use Rattle.disk_model.specs.Calls.{Looks}
use Rattle.disk_model.specs.Files.{AllCoherent, Files, now}
use Rattle.disk_model.proofs.FileLemmas.{now_coherent}
use Rattle.java_hash.specs.Stripes.{is_stripe_count}
use Rattle.map_types.specs.declared.refusals.Refusal.{Refusal}
use Rattle.map_types.specs.declared.refusals.Refusal.TheVariants.{Damaged, Failed, NoMemory}
use Rattle.log_records.specs.Layout.{Layout, layout_of}
use Rattle.log_records.specs.Agreement.{IsBytes}
use Rattle.store_layout.specs.Checkpoints.{Section, AreMarkedFrom, AreSections, IsCheckpoint, greatest_mark, sections_bytes}
use Rattle.store_layout.specs.Failures.{IsFileRefused}
use Rattle.store_layout.specs.Faults.{HasFault, IsBadCheckpoint, bad_size, bad_section, bad_marks, body_in, body_length_in, greatest_in, low_in, left_over, size_fault, stripes_in, version_in}
use Rattle.store_layout.proofs.CheckpointLemmas.{greatest_push}
use Rattle.store_layout.proofs.CheckpointReading.{fields_make}
use Rattle.checkpoint_file.specs.declared.head.Head.{Head}
use Rattle.checkpoint_file.specs.declared.loading.LoadedSection.{LoadedSection}
use Rattle.checkpoint_file.specs.declared.loading.LoadedCheckpoint.{LoadedCheckpoint}
use Rattle.checkpoint_file.specs.declared.unread.Unread.{Unread}
use Rattle.checkpoint_file.specs.Heads.{HasFields, IsHead}
use Rattle.checkpoint_file.specs.Loads.{checkpoint_of, section_of, sections_of, StandsAt, IsBehind, GoesOn, AreLoaded, IsBodyOf, IsBodyAt, IsUnloadable, ForRest, RefusesIn, seen_in}
use Rattle.checkpoint_file.proofs.LookLemmas.{same_seen}
use Rattle.checkpoint_file.proofs.Versions.{layout_for_byte}
use Rattle.checkpoint_file.proofs.SectionReading.{come_to, sections_more}

-- ---- marks

pub greatest_more : (reads : List LoadedSection) (i : ℕ) (read : LoadedSection) → i < length reads → read ≡ get_or reads i read
    → greatest_mark (sections_of (take (i + 1) reads)) ≡ max (greatest_mark (sections_of (take i reads))) read.mark
greatest_more reads i read h is =
    ap (λ (l : List LoadedSection). greatest_mark (sections_of l)) (take_more reads i read h ∙ ap (λ (r : LoadedSection). take i reads ++ r ∷ []) (sym is))
    ∙ ap greatest_mark (sections_more (take i reads) read) ∙ greatest_push (sections_of (take i reads)) (section_of read)

pub mark_at : (low : ℕ) (reads : List LoadedSection) (i : ℕ) (d : LoadedSection) → i < length reads → AreMarkedFrom low (sections_of reads) → low ≤ (get_or reads i d).mark
mark_at low [] i d h all = absurd (omega (arith, h))
mark_at low (x ∷ reads) zero d h all = all.0
mark_at low (x ∷ reads) (suc i) d h all = mark_at low reads i d (omega (arith, h)) all.1

-- ---- the end of the body

module _ (layout : Layout) (stripes : ℕ) (reads : List LoadedSection) (content rest : List ℕ) (old new : Unread) where
  pub fills : AreLoaded layout stripes reads → length reads ≡ stripes → GoesOn content (sections_bytes layout (sections_of reads)) rest new → new.left ≡ 0 → IsBodyOf layout stripes reads rest
  fills are many g none = record {
    loaded = are;
    one_each = many;
    spelled = g.spelled ∙ ap (λ (l : List ℕ). sections_bytes layout (sections_of reads) ++ l) (nothing g.left (g.size ∙ none)) ∙ append-nil (sections_bytes layout (sections_of reads));
  }
    where
      nothing : (l : List ℕ) → length l ≡ 0 → l ≡ []
      nothing [] e = refl
      nothing (x ∷ l) e = absurd (omega (arith, e))

  pub is_left_over : (offset : ℕ) → AreLoaded layout stripes reads → length reads ≡ stripes → IsBehind old new → length rest ≡ old.left
      → GoesOn content (sections_bytes layout (sections_of reads)) rest new → 0 < new.left → offset ≡ new.at
      → (distance : ℕ) × (offset ≡ old.at + distance) × HasFault layout stripes rest distance
  is_left_over offset are many behind size g some here =
      let bytes = sections_bytes layout (sections_of reads) in
      let come = come_to content bytes rest old new behind size g in
      let left = g.size in (
        length bytes + 0,
        omega (arith, come, here),
        record {
          before = sections_of reads;
          are = are.fit;
          rest = g.left;
          spelled = g.spelled;
          distance = 0;
          fault = left_over (length-map reads (λ (r : LoadedSection). section_of r) ∙ many) (omega (arith, left, some)) refl;
          place = refl;
        },
      )

-- ---- where the body stands

pub body_past : (file : ℕ) (content : List ℕ) → is_stripe_count (stripes_in content) ≡ true → length content < 36 + body_length_in content → size_fault file content ≡ Some (Damaged file 28)
body_past file content stripes past =
    let short : nat_lt (length content) (36 + body_length_in content) ≡ true = grind (arith, nat_tests) in
    ap (λ b. cond (not b) (Some (Damaged file 26)) (cond (nat_lt (length content) (36 + body_length_in content)) (Some (Damaged file 28)) None)) stripes
    ∙ ap (λ b. cond b (Some (Damaged file 28)) None) short

body_stands : (content : List ℕ) (n : ℕ) → 36 + n ≤ length content → StandsAt content 36 (take n (drop 36 content))
body_stands content n inside = record {
  front = take 36 content;
  behind = drop n (drop 36 content);
  bytes = sym (take-append-drop 36 content) ∙ ap (λ (l : List ℕ). take 36 content ++ l) (sym (take-append-drop n (drop 36 content)));
  offset = length-take-le 36 content (omega (arith, inside));
}

-- what the body's place says is so of the bytes that the header names
pub of_body : (file : ℕ) (content : List ℕ) (head : Head) (unread : Unread) (P : List ℕ → Type 0) → HasFields head content → IsBodyAt file head unread → 36 + head.body_len ≤ length content
    → ((rest : List ℕ) → StandsAt content unread.at rest → length rest ≡ unread.left → P rest) → P (body_in content)
of_body file content head unread P fields place inside f =
    let same : head.body_len ≡ body_length_in content = fields.body in
    let left = place.left in
    let there = place.offset in
    let long : 36 + body_length_in content ≤ length content = omega (arith, same, inside) in
    f (body_in content) (subst (λ (n : ℕ). StandsAt content n (body_in content)) (sym there) (body_stands content (body_length_in content) long))
    (length-take-le (body_length_in content) (drop 36 content) (omega (arith, length-drop 36 content, long)) ∙ sym same ∙ sym left)

-- ---- the file

pub all_bytes : (states : List Files) (file : ℕ) → file < 4 → AllCoherent states → IsBytes (now states file).seen
all_bytes states file low all = (now_coherent states all file low).bytes

module _ (file : ℕ) (content : List ℕ) (head : Head) (is : IsHead head file content) (size : size_fault file content ≡ None) where
  pub bad_body : (stripes offset : ℕ) (refusal : Refusal) → stripes ≡ head.stripes → refusal ≡ Damaged file offset
      → (distance : ℕ) × (offset ≡ 36 + distance) × HasFault (layout_of head.version) stripes (body_in content) distance → IsBadCheckpoint (layout_of head.version) file content refusal
  bad_body stripes offset refusal count named why =
      bad_section why.0 size (subst (λ (n : ℕ). HasFault (layout_of head.version) n (body_in content) why.0) (count ∙ is.fields.stripes) why.2) (named ∙ ap (Damaged file) why.1)

  module _ (loaded : LoadedCheckpoint) (generation : loaded.generation ≡ head.generation) (low : loaded.low ≡ head.low) (stripes : loaded.stripes.count ≡ head.stripes)
      (body : IsBodyOf (layout_of head.version) loaded.stripes.count loaded.sections.items (body_in content)) where
    abbrev sections : List Section
    sections = sections_of loaded.sections.items

    named : loaded.stripes.count ≡ stripes_in content
    named = stripes ∙ is.fields.stripes

    are : AreSections (layout_of head.version) (stripes_in content) 0 sections
    are = subst (λ (n : ℕ). AreSections (layout_of head.version) n 0 sections) named body.loaded.fit

    many : length sections ≡ stripes_in content
    many = length-map loaded.sections.items (λ (r : LoadedSection). section_of r) ∙ body.one_each ∙ named

    pub has_bad_marks : (refusal : Refusal) → refusal ≡ Damaged file 18 → (greatest_mark sections ≢ head.greatest_mark) ⊎ (AreMarkedFrom head.low sections → ⊥)
        → IsBadCheckpoint (layout_of head.version) file content refusal
    has_bad_marks refusal refused wrong = bad_marks size (record { sections = sections; are = are; one_each = many; spelled = body.spelled; wrong = by wrong }) refused
      where
        by : (greatest_mark sections ≢ head.greatest_mark) ⊎ (AreMarkedFrom head.low sections → ⊥) → (greatest_mark sections ≢ greatest_in content) ⊎ (AreMarkedFrom (low_in content) sections → ⊥)
        by (inl other) = inl (λ e. other (e ∙ sym is.fields.greatest))
        by (inr never) = inr (λ all. never (subst (λ (n : ℕ). AreMarkedFrom n sections) (sym is.fields.low) all))

    pub is_checkpoint : IsBytes content → greatest_mark sections ≡ head.greatest_mark → AreMarkedFrom head.low sections → IsCheckpoint (layout_of head.version) (checkpoint_of loaded) content
    is_checkpoint bytes greatest marks =
        let made = fields_make (layout_of head.version) file content sections bytes is.opened is.faultless (sym is.version) size body.spelled many are (greatest ∙ is.fields.greatest)
        (subst (λ (n : ℕ). AreMarkedFrom n sections) is.fields.low marks) in
        subst (λ k. IsCheckpoint (layout_of head.version) k content)
        (λ i. record { generation = sym (generation ∙ is.fields.generation) i; low = sym (low ∙ is.fields.low) i; stripes = sym named i; sections = sections }) made

-- ---- refusals

-- whatever the reason, the file is damaged
pub place_refused : (file : ℕ) (Reason : ℕ → Type 0) (refusal : Refusal) → RefusesIn file Reason refusal → IsFileRefused file refusal
place_refused file Reason refusal (inl failed) = inl failed
place_refused file Reason refusal (inr (inl memory)) = inr (inl memory)
place_refused file Reason refusal (inr (inr damaged)) = inr (inr (inr (damaged.0, damaged.1)))

size_refused_by : (file : ℕ) (content : List ℕ) (head : Head) (H : Type 0) (refusal : Refusal) → (H → HasFields head content → size_fault file content ≡ Some refusal)
    → H → IsHead head file content → IsBadCheckpoint (layout_of head.version) file content refusal
size_refused_by file content head H refusal why honest is = bad_size (why honest is.fields)

pub size_refused : (file : ℕ) (content : List ℕ) (head : Head) (H : Type 0) (refusal : Refusal)
    → (refusal ≡ Failed) ⊎ ((refusal ≡ NoMemory) ⊎ (H → HasFields head content → size_fault file content ≡ Some refusal))
    → (refusal ≡ Failed) ⊎ ((refusal ≡ NoMemory) ⊎ (H → IsHead head file content → IsBadCheckpoint (layout_of head.version) file content refusal))
size_refused file content head H refusal (inl failed) = inl failed
size_refused file content head H refusal (inr (inl memory)) = inr (inl memory)
size_refused file content head H refusal (inr (inr why)) = inr (inr (size_refused_by file content head H refusal why))

module _ {D : Type 0} (states : D → List Files) (failures : D → ℕ) (honest : D → Type 0) where
  -- what holds of the body's place holds of the body
  pub of_file : (old mid : D) (file : ℕ) (head : Head) (unread : Unread) (P : List ℕ → Type 0) → Looks states failures honest 0 old mid → HasFields head (seen_in states old file)
      → IsBodyAt file head unread → 36 + head.body_len ≤ length (seen_in states old file) → ForRest states mid unread P → P (body_in (seen_in states old file))
  of_file old mid file head unread P look fields place inside f =
      let same = same_seen states failures honest old mid file unread.file place.file_is look in
      of_body file (seen_in states old file) head unread P fields place inside
      (λ rest stands size. f rest (subst (λ (c : List ℕ). StandsAt c unread.at rest) (sym same) stands) size)

  pub sections_refused : (old mid : D) (file : ℕ) (head : Head) (unread : Unread) (stripes : ℕ) (H : Type 0) (refusal : Refusal) → Looks states failures honest 0 old mid
      → stripes ≡ head.stripes → IsBodyAt file head unread → (H → HasFields head (seen_in states old file) → size_fault file (seen_in states old file) ≡ None)
      → (H → 36 + head.body_len ≤ length (seen_in states old file))
      → RefusesIn unread.file (λ offset. H → ForRest states mid unread (λ rest. (distance : ℕ) × (offset ≡ unread.at + distance) × HasFault (layout_of unread.version) stripes rest distance)) refusal
      → (refusal ≡ Failed) ⊎ ((refusal ≡ NoMemory) ⊎ (H → IsHead head file (seen_in states old file) → IsBadCheckpoint (layout_of head.version) file (seen_in states old file) refusal))
  sections_refused old mid file head unread stripes H refusal look count place size inside (inl failed) = inl failed
  sections_refused old mid file head unread stripes H refusal look count place size inside (inr (inl none)) = inr (inl none)
  sections_refused old mid file head unread stripes H refusal look count place size inside (inr (inr bad)) = inr (inr (λ h is.
      let fault = of_file old mid file head unread (λ rest. (distance : ℕ) × (bad.0 ≡ unread.at + distance) × HasFault (layout_of unread.version) stripes rest distance) look is.fields place (inside h) (bad.2 h) in
      bad_body file (seen_in states old file) head is (size h is.fields) stripes bad.0 refusal count (bad.1 ∙ ap (λ (n : ℕ). Damaged n bad.0) place.file_is)
      (fault.0, fault.1 ∙ ap (λ (n : ℕ). n + fault.0) place.offset, subst (λ v. HasFault (layout_of v) stripes (body_in (seen_in states old file)) fault.0) place.version_is fault.2)))

pub file_refused : (content there : List ℕ) (file : ℕ) (head : Head) (H : Type 0) (refusal : Refusal) → there ≡ content → (H → IsHead head file content)
    → (refusal ≡ Failed) ⊎ ((refusal ≡ NoMemory) ⊎ (H → IsHead head file there → IsBadCheckpoint (layout_of head.version) file there refusal))
    → (refusal ≡ Failed) ⊎ ((refusal ≡ NoMemory) ⊎ (H → IsUnloadable file content refusal))
file_refused content there file head H refusal same is (inl failed) = inl failed
file_refused content there file head H refusal same is (inr (inl none)) = inr (inl none)
file_refused content there file head H refusal same is (inr (inr why)) = inr (inr (λ h.
    let here = is h in
    let bad = subst (λ (c : List ℕ). IsBadCheckpoint (layout_of head.version) file c refusal) same (why h (subst (λ (c : List ℕ). IsHead head file c) (sym same) here)) in
    inr (here.opened, here.faultless, subst (λ layout. IsBadCheckpoint layout file content refusal) (sym (layout_for_byte head.version (version_in content) here.version)) bad)))
