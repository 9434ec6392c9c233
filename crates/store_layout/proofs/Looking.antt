-- Of any bytes it can be told whether something well-formed stands at their front: entries and records.
use Rattle.std.proofs.Common.{◌≡◌, ◌⊎◌, inl, inr, ◌<◌, ℕ, zero, suc, Bool, true, false, ◌==◌, List, [], ◌∷◌, ◌++◌, length, Some, Result, Ok, Err, refl, sym, ap, subst, ◌∙◌, append_assoc, arith}
use Rattle.std.proofs.lemmas.Bool.{eqb-true, eqb-false}
use Rattle.std.proofs.lemmas.List.{append-nil}
use Rattle.std.specs.Prelude.{T}
use Rattle.std.specs.List.{AllByRecursion}
use Rattle.std.specs.Ordering.{nat_cmp}
use Rattle.std.specs.Cmp.Lexicographic.{slice_cmp}
use Rattle.std.specs.FinMap as finite
use Rattle.java_hash.specs.Stripes.{stripe_of}
use Rattle.map_types.specs.declared.refusals.Refusal.{Refusal}
use Rattle.map_types.specs.declared.texts.Value.{Value}
use Rattle.map_types.specs.declared.commands.Command.{Command}
use Rattle.map_model.proofs.EntryLaws.{sorted_from_rising}
use Rattle.log_records.specs.Layout.{Layout, IsLayout}
use Rattle.log_records.specs.Spelling.{IsText, IsValue, IsCommand, key_bytes, value_bytes, record_bytes}
use Rattle.log_records.specs.Reading.{key_at, some_value_at, record_at, both_at}
use Rattle.log_records.specs.Agreement.{IsBytes, Agrees}
use Rattle.log_records.proofs.Agreeing.{both_agree}
use Rattle.log_records.proofs.Fields.{key_agrees, some_value_agrees}
use Rattle.log_records.proofs.Records.{record_agrees}
use Rattle.store_layout.specs.Logs.{records_bytes}
use Rattle.store_layout.specs.Checkpoints.{entry_bytes, entries_bytes, IsEntryOf}
use Rattle.store_layout.specs.Faults.{AreEntries}
use Rattle.store_layout.proofs.EntryRows.{rising_from_sorted, same_spelled}

-- ---- one thing

-- something well-formed stands at the front
pub record Front {A : Type 0} (bytes_of : A → List ℕ) (Fits : A → Type 0) (bytes : List ℕ) : Type 0 where
  pub item : A
  pub rest : List ℕ
  pub spelled : bytes ≡ bytes_of item ++ rest
  pub rest_fits : IsBytes rest
  pub fits : Fits item

abbrev pub Nothing : {A : Type 0} → (A → List ℕ) → (A → Type 0) → List ℕ → Type 0
Nothing {A = A} bytes_of Fits bytes = (item : A) (rest : List ℕ) → Fits item → bytes ≡ bytes_of item ++ rest → ⊥

pub look : {A : Type 0} (read : List ℕ → Result (A × List ℕ) Refusal) (bytes_of : A → List ℕ) (Fits : A → Type 0) → Agrees read bytes_of Fits
    → (bytes : List ℕ) → IsBytes bytes → Front bytes_of Fits bytes ⊎ Nothing bytes_of Fits bytes
look {A = A} read bytes_of Fits agrees bytes fits = by (read bytes) refl
  where
    by : (r : Result (A × List ℕ) Refusal) → read bytes ≡ r → Front bytes_of Fits bytes ⊎ Nothing bytes_of Fits bytes
    by (Ok x) e =
        let t = agrees.takes bytes x.0 x.1 fits e in
        inl (record { item = x.0; rest = x.1; spelled = t.0.parts; rest_fits = t.0.rest_fits; fits = t.1 })
    by (Err r) e = inr (λ item rest good is. let clash = sym (ap read is ∙ agrees.again item rest good) ∙ e in absurd cc)

-- ---- entries

abbrev pub IsWellFormed : Layout → List ℕ × Value → Type 0
IsWellFormed layout entry = IsText layout.key_limit entry.0 × IsValue entry.1

entry_agrees : (layout : Layout) → IsLayout layout → Agrees (both_at (key_at layout) some_value_at) (entry_bytes layout) (IsWellFormed layout)
entry_agrees layout room = both_agree (key_at layout) some_value_at (key_bytes layout) (λ v. value_bytes (Some v)) (IsText layout.key_limit) IsValue (key_agrees layout room) some_value_agrees

pub all_push : {A : Type 0} (P : A → Type 0) (xs : List A) (x : A) → AllByRecursion P xs → P x → AllByRecursion P (xs ++ x ∷ [])
all_push P [] x all p = (p, tt)
all_push P (y ∷ xs) x all p = (all.0, all_push P xs x all.1 p)

pub all_last : {A : Type 0} (P : A → Type 0) (xs : List A) (x : A) → AllByRecursion P (xs ++ x ∷ []) → P x
all_last P [] x all = all.0
all_last P (y ∷ xs) x all = all_last P xs x all.1

module _ (layout : Layout) (room : IsLayout layout) (stripes stripe : ℕ) where
  may_follow : (before : List (List ℕ × Value)) (e : List ℕ × Value) → AreEntries layout stripes stripe before → IsWellFormed layout e
      → AreEntries layout stripes stripe (before ++ e ∷ []) ⊎ (AreEntries layout stripes stripe (before ++ e ∷ []) → ⊥)
  may_follow before e are good = by (stripe_of stripes e.0 == stripe) (finite.is_sorted (slice_cmp nat_cmp) (before ++ e ∷ [])) refl refl
    where
      by : (x y : Bool) → (stripe_of stripes e.0 == stripe) ≡ x → finite.is_sorted (slice_cmp nat_cmp) (before ++ e ∷ []) ≡ y
          → AreEntries layout stripes stripe (before ++ e ∷ []) ⊎ (AreEntries layout stripes stripe (before ++ e ∷ []) → ⊥)
      by false y p q = inr (λ all. eqb-false _ _ p (all_last (IsEntryOf layout stripes stripe) before e all.each).2)
      by true false p q = inr (λ all. subst T q (sorted_from_rising (before ++ e ∷ []) all.rising))
      by true true p q = inl (record {
        each = all_push (IsEntryOf layout stripes stripe) before e are.each (good.0, good.1, eqb-true _ _ p);
        rising = rising_from_sorted (before ++ e ∷ []) (subst T (sym q) tt);
      })

  -- behind these entries stand so many more, or fewer, and then none that may come next
  pub record More (before : List (List ℕ × Value)) (bytes : List ℕ) : Type 0 where
    pub more : List (List ℕ × Value)
    pub rest : List ℕ
    pub are : AreEntries layout stripes stripe (before ++ more)
    pub spelled : bytes ≡ entries_bytes layout more ++ rest
    pub rest_fits : IsBytes rest

  abbrev pub NoneNext : List (List ℕ × Value) → List ℕ → Type 0
  NoneNext before rest = (entry : List ℕ × Value) (others : List ℕ) → rest ≡ entry_bytes layout entry ++ others → AreEntries layout stripes stripe (before ++ entry ∷ []) → ⊥

  abbrev pub ReadEntries : ℕ → List (List ℕ × Value) → List ℕ → Type 0
  ReadEntries left before bytes =
      ((m : More before bytes) × (length m.more ≡ left)) ⊎ ((m : More before bytes) × (length m.more < left) × NoneNext (before ++ m.more) m.rest)

  stuck : (left : ℕ) (before : List (List ℕ × Value)) (bytes : List ℕ) → IsBytes bytes → AreEntries layout stripes stripe before → NoneNext before bytes → ReadEntries (suc left) before bytes
  stuck left before bytes fits are none =
      let same : before ++ [] ≡ before = append-nil before in
      inr (record { more = []; rest = bytes; are = subst (AreEntries layout stripes stripe) (sym same) are; spelled = refl; rest_fits = fits }, omega arith, subst (λ (l : List (List ℕ × Value)). NoneNext l bytes) (sym same) none)

  joined : (before more : List (List ℕ × Value)) (e : List ℕ × Value) → (before ++ e ∷ []) ++ more ≡ before ++ (e ∷ more)
  joined before more e = append_assoc before (e ∷ []) more

  further : (before : List (List ℕ × Value)) (e : List ℕ × Value) (bytes rest : List ℕ) → bytes ≡ entry_bytes layout e ++ rest → More (before ++ e ∷ []) rest → More before bytes
  further before e bytes rest is m = record {
    more = e ∷ m.more;
    rest = m.rest;
    are = subst (AreEntries layout stripes stripe) (joined before m.more e) m.are;
    spelled = is ∙ ap (λ (l : List ℕ). entry_bytes layout e ++ l) m.spelled ∙ sym (append_assoc (entry_bytes layout e) (entries_bytes layout m.more) m.rest);
    rest_fits = m.rest_fits;
  }

  pub read_entries : (left : ℕ) (before : List (List ℕ × Value)) (bytes : List ℕ) → IsBytes bytes → AreEntries layout stripes stripe before → ReadEntries left before bytes
  unfolding further
  read_entries zero before bytes fits are =
      inl (record { more = []; rest = bytes; are = subst (AreEntries layout stripes stripe) (sym (append-nil before)) are; spelled = refl; rest_fits = fits }, refl)
  read_entries (suc left) before bytes fits are =
      elim (look (both_at (key_at layout) some_value_at) (entry_bytes layout) (IsWellFormed layout) (entry_agrees layout room) bytes fits) as (λ _. ReadEntries (suc left) before bytes) [
        | inr none ↦ stuck left before bytes fits are (λ entry others is all.
            let last = all_last (IsEntryOf layout stripes stripe) before entry all.each in none entry others (last.0, last.1) is)
        | inl front ↦ elim (may_follow before front.item are front.fits) as (λ _. ReadEntries (suc left) before bytes) [
          | inr never ↦ stuck left before bytes fits are (λ entry others is all.
              let last = all_last (IsEntryOf layout stripes stripe) before entry all.each in
              let same = same_spelled (both_at (key_at layout) some_value_at) (entry_bytes layout) (IsWellFormed layout) (entry_agrees layout room) entry front.item others front.rest (last.0, last.1) front.fits (sym is ∙ front.spelled) in
              never (subst (λ (e : List ℕ × Value). AreEntries layout stripes stripe (before ++ e ∷ [])) same.0 all))
          | inl next ↦ elim (read_entries left (before ++ front.item ∷ []) front.rest front.rest_fits next) as (λ _. ReadEntries (suc left) before bytes) [
            | inl all ↦ inl (further before front.item bytes front.rest front.spelled all.0, let size = all.1 in omega (arith, size))
            | inr few ↦ inr (
              further before front.item bytes front.rest front.spelled few.0,
              (let size = few.1 in omega (arith, size)),
              subst (λ (l : List (List ℕ × Value)). NoneNext l few.0.rest) (joined before few.0.more front.item) few.2,
            )
          ]
        ]
      ]

-- ---- records

module _ (layout : Layout) (room : IsLayout layout) where
  -- so many records stand at the front
  pub record Rows (count : ℕ) (bytes : List ℕ) : Type 0 where
    pub commands : List Command
    pub rest : List ℕ
    pub so_many : length commands ≡ count
    pub well_formed : AllByRecursion (IsCommand layout) commands
    pub spelled : bytes ≡ records_bytes layout commands ++ rest
    pub rest_fits : IsBytes rest

  abbrev pub NoRows : ℕ → List ℕ → Type 0
  NoRows count bytes = (commands : List Command) (rest : List ℕ) → length commands ≡ count → AllByRecursion (IsCommand layout) commands → bytes ≡ records_bytes layout commands ++ rest → ⊥

  pub read_records : (count : ℕ) (bytes : List ℕ) → IsBytes bytes → Rows count bytes ⊎ NoRows count bytes
  read_records zero bytes fits = inl (record { commands = []; rest = bytes; so_many = refl; well_formed = tt; spelled = refl; rest_fits = fits })
  read_records (suc count) bytes fits =
      elim (look (record_at layout) (record_bytes layout) (IsCommand layout) (record_agrees layout room) bytes fits) as (λ _. Rows (suc count) bytes ⊎ NoRows (suc count) bytes) [
        | inr none ↦ inr (λ commands. first_missing commands none)
        | inl front ↦ elim (read_records count front.rest front.rest_fits) as (λ _. Rows (suc count) bytes ⊎ NoRows (suc count) bytes) [
          | inl rows ↦ inl (record {
            commands = front.item ∷ rows.commands;
            rest = rows.rest;
            so_many = let size = rows.so_many in omega (arith, size);
            well_formed = (front.fits, rows.well_formed);
            spelled = front.spelled ∙ ap (λ (l : List ℕ). record_bytes layout front.item ++ l) rows.spelled ∙ sym (append_assoc (record_bytes layout front.item) (records_bytes layout rows.commands) rows.rest);
            rest_fits = rows.rest_fits;
          })
          | inr none ↦ inr (λ commands. others_missing commands front none)
        ]
      ]
    where
      first_missing : (commands : List Command) → Nothing (record_bytes layout) (IsCommand layout) bytes → (rest : List ℕ) → length commands ≡ suc count → AllByRecursion (IsCommand layout) commands
          → bytes ≡ records_bytes layout commands ++ rest → ⊥
      first_missing [] none rest size all is = omega (arith, size)
      first_missing (c ∷ commands) none rest size all is = none c (records_bytes layout commands ++ rest) all.0 (is ∙ append_assoc (record_bytes layout c) (records_bytes layout commands) rest)

      others_missing : (commands : List Command) (front : Front (record_bytes layout) (IsCommand layout) bytes) → NoRows count front.rest → (rest : List ℕ) → length commands ≡ suc count
          → AllByRecursion (IsCommand layout) commands → bytes ≡ records_bytes layout commands ++ rest → ⊥
      others_missing [] front none rest size all is = omega (arith, size)
      others_missing (c ∷ commands) front none rest size all is =
          let same = same_spelled (record_at layout) (record_bytes layout) (IsCommand layout) (record_agrees layout room) front.item c front.rest (records_bytes layout commands ++ rest) front.fits all.0
          (sym front.spelled ∙ is ∙ append_assoc (record_bytes layout c) (records_bytes layout commands) rest) in
          none commands rest (omega (arith, size)) all.1 same.1
