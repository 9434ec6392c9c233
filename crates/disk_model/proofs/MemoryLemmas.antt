-- What the files in memory keep, from one event to the next.
use Rattle.std.proofs.Common.{◌≡◌, ℕ, zero, suc, ◌+◌, ◌<◌, ⊎_elim, List, [], ◌∷◌, length, get_or, set, refl, sym, ◌∙◌, ap, subst, arith, get_or-set_same, get_or-set_other, length-set}
use Rattle.std.proofs.lemmas.Bool.{cases_eq}
use Rattle.disk_model.specs.Files.{File, Files, AreBytes, IsCoherent, AllCoherent, now, reached, written, synced, at_rest, with_file}
use Rattle.disk_model.specs.KeptFiles.{IsKept, AreKept}
use Rattle.disk_model.specs.Events.{Event, tore, wrote, synced_file, states_of}
use Rattle.disk_model.specs.Fills.{pending_before, pending_below, length_left, byte_left, bytes_by, after_stop}
use Rattle.disk_model.specs.declared.fill.Fill.{Fill}
use Rattle.disk_model.specs.declared.kept.Kept.{Kept}
use Rattle.disk_model.proofs.FileLemmas.{with_same, with_other, now_coherent, coherent_with, coherent_written, coherent_at_rest}

pub kept_with : (kept : List Kept) (files : Files) (number : ℕ) (one : Kept) (file : File) → number < 4 → AreKept kept files → IsKept one file
    → AreKept (set kept number one) (with_file number file files)
kept_with kept files number one file low are is = record {
  count = length-set kept number one ∙ are.count;
  each = λ n other below. ⊎_elim {C = IsKept (get_or (set kept number one) n other) (with_file number file files n)}
      (λ same.
      let inside : number < length kept = omega (arith, are.count) in
      let first = get_or-set_same kept number one other inside in
      subst (λ (k : ℕ). IsKept (get_or (set kept number one) k other) (with_file number file files k)) (sym same)
      (subst (λ (k : Kept). IsKept k (with_file number file files number)) (sym first) (subst (λ (f : File). IsKept one f) (sym (with_same number file files)) is)))
      (λ differs.
      subst (λ (k : Kept). IsKept k (with_file number file files n)) (sym (get_or-set_other kept number n one other differs))
      (subst (λ (f : File). IsKept (get_or kept n other) f) (sym (with_other number file files n differs)) (are.each n other below)))
      (cases_eq n number);
}

-- what the disk's ghost fields say
pub record Holds (kept : List Kept) (events : List Event) : Type 0 where
  pub are : AreKept kept (now (states_of events))
  pub coherent : AllCoherent (states_of events)

-- an event after which one file is this
one_changed : (kept : List Kept) (events : List Event) (event : Event) (number : ℕ) (one : Kept) (file : File) → number < 4 → Holds kept events
    → now (states_of (event ∷ events)) ≡ with_file number file (now (states_of events)) → IsKept one file → IsCoherent file
    → Holds (set kept number one) (event ∷ events)
one_changed kept events event number one file low holds is_next is is_coherent = record {
  are = subst (λ (s : Files). AreKept (set kept number one) s) (sym is_next) (kept_with kept (now (states_of events)) number one file low holds.are is);
  coherent = (
    subst (λ (s : Files). (n : ℕ) → n < 4 → IsCoherent (s n)) (sym is_next) (coherent_with number file (now (states_of events)) (now_coherent (states_of events) holds.coherent) is_coherent),
    holds.coherent,
  );
}

module _ (kept : List Kept) (events : List Event) (number : ℕ) (one : Kept) (low : number < 4) (holds : Holds kept events) where
  abbrev pub old_file : File
  old_file = now (states_of events) number

  pub was_coherent : IsCoherent old_file
  was_coherent = now_coherent (states_of events) holds.coherent number low

  -- a failed write, noted with what is kept after it
  pub tore_seen : (at : ℕ) (bytes seen : List ℕ) (events' : List Event) → IsKept one (reached at bytes seen old_file)
      → ((other : Kept) → events' ≡ tore number at bytes (get_or (set kept number one) number other).seen.items ∷ events) → events' ≡ tore number at bytes seen ∷ events
  tore_seen at bytes seen events' is noted =
      let inside : number < length kept = omega (arith, holds.are.count) in
      noted one ∙ ap (λ (k : Kept). tore number at bytes k.seen.items ∷ events) (get_or-set_same kept number one one inside) ∙ ap (λ (l : List ℕ). tore number at bytes l ∷ events) is.seen

  pub tore_holds : (at : ℕ) (bytes seen : List ℕ) (events' : List Event) → IsKept one (reached at bytes seen old_file) → IsCoherent (reached at bytes seen old_file)
      → events' ≡ tore number at bytes seen ∷ events → Holds (set kept number one) events'
  tore_holds at bytes seen events' is is_coherent noted =
      subst (λ (es : List Event). Holds (set kept number one) es) (sym noted) (one_changed kept events (tore number at bytes seen) number one (reached at bytes seen old_file) low holds refl is is_coherent)

  pub wrote_holds : (at : ℕ) (bytes : List ℕ) (events' : List Event) → IsKept one (written at bytes old_file) → events' ≡ wrote number at bytes ∷ events → Holds (set kept number one) events'
  wrote_holds at bytes events' is noted =
      let are = subst (λ (l : List ℕ). AreBytes l) is.seen one.bytes in
      subst (λ (es : List Event). Holds (set kept number one) es) (sym noted)
      (one_changed kept events (wrote number at bytes) number one (written at bytes old_file) low holds refl is (coherent_written at bytes old_file was_coherent are))

  pub synced_holds : (events' : List Event) → IsKept one (synced old_file) → events' ≡ synced_file number ∷ events → Holds (set kept number one) events'
  synced_holds events' is noted =
      subst (λ (es : List Event). Holds (set kept number one) es) (sym noted)
      (one_changed kept events (synced_file number) number one (synced old_file) low holds refl is (coherent_at_rest old_file.seen was_coherent.bytes))

  -- a file that still keeps the same
  pub same_kept : IsKept one old_file → AreKept (set kept number one) (now (states_of events))
  same_kept is = record {
    count = length-set kept number one ∙ holds.are.count;
    each = λ n other below. ⊎_elim {C = IsKept (get_or (set kept number one) n other) (now (states_of events) n)}
        (λ same.
        let inside : number < length kept = omega (arith, holds.are.count) in
        subst (λ (k : ℕ). IsKept (get_or (set kept number one) k other) (now (states_of events) k)) (sym same)
        (subst (λ (k : Kept). IsKept k old_file) (sym (get_or-set_same kept number one other inside)) is))
        (λ differs. subst (λ (k : Kept). IsKept k (now (states_of events) n)) (sym (get_or-set_other kept number n one other differs)) (holds.are.each n other below))
        (cases_eq n number);
  }

pub kept_bytes : (kept : List Kept) (files : Files) → AreKept kept files → (n : ℕ) → n < 4 → AreBytes (files n).seen
kept_bytes [] files are n low = absurd (omega (arith, are.count))
kept_bytes (k ∷ kept) files are n low =
    let it = are.each n k low in
    subst (λ (l : List ℕ). AreBytes l) it.seen (get_or (k ∷ kept) n k).bytes

pub four_kept : (a b c d : Kept) (files : Files) → IsKept a (files 0) → IsKept b (files 1) → IsKept c (files 2) → IsKept d (files 3) → AreKept (a ∷ b ∷ c ∷ d ∷ []) files
four_kept a b c d files is_a is_b is_c is_d = record { count = refl; each = each }
  where
    each : (n : ℕ) (other : Kept) → n < 4 → IsKept (get_or (a ∷ b ∷ c ∷ d ∷ []) n other) (files n)
    each zero other low = is_a
    each (suc zero) other low = is_b
    each (suc (suc zero)) other low = is_c
    each (suc (suc (suc zero))) other low = is_d
    each (suc (suc (suc (suc n)))) other low = absurd (omega arith)

pub one_left : (k : Kept) (fill : Fill) (files : Files) (number before : ℕ) (items : List ℕ) → before ≡ pending_before files number
    → items ≡ bytes_by (length_left fill number (files number)) (λ i. byte_left fill (before + pending_below (files number) i) (files number) i)
    → IsKept k (at_rest items) → IsKept k (after_stop fill files number)
one_left k fill files number before items counted left is =
    let f = λ (b : ℕ). bytes_by (length_left fill number (files number)) (λ i. byte_left fill (b + pending_below (files number) i) (files number) i) in
    subst (λ (l : List ℕ). IsKept k (at_rest l)) (left ∙ ap f counted) is
