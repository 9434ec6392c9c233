-- The words at the start.
use Rattle.std.proofs.Common.{ℕ, ◌≡◌, ◌≢◌, ◌+◌, ◌-◌, ◌<◌, ◌++◌, List, [], ◌∷◌, Bool, true, false, cond, Option, Some, None, length, get_or, map, replicate, refl, arith, sym, ◌∙◌, ap, subst, inl, inr, length-append}
use Rattle.std.specs.List.{flat_map, range_with_len}
use Rattle.std.specs.FinMap as finite
use Rattle.std.specs.Ordering.{nat_cmp}
use Rattle.std.specs.Cmp.Lexicographic.{slice_cmp}
use Rattle.map_types.specs.declared.texts.Value.{Value}
use Rattle.std.proofs.lemmas.List.{get_or-replicate, length-replicate, get_or_append_left, get_or-append_right, get_or-map, nil_from_length}
use Rattle.std.proofs.lemmas.List.Elements.{All-nil, All-head, All-tail, All-push, All-replicate}
use Rattle.std.proofs.lemmas.List.Folds.{sum_by-replicate}
use Rattle.std.proofs.lemmas.List.FromFn.{get_or-map-range_with_len}
use Rattle.std.proofs.lemmas.List.Sums.{sum_by-append}
use Rattle.std.proofs.Math.Seq.{get_or-append_seam}
use Rattle.std.proofs.lemmas.Bool.{cases_lt, cases_eq, eq-eqb, ne_eqb}
use Rattle.map_model.specs.Maps.{Map}
use Rattle.map_model.specs.Parts.{part_of, is_in_stripe, union_of, parts_of}
use Rattle.map_model.proofs.MapLaws.{same_gets, get-part_of}
use Rattle.atomic_methods.specs.PartState.{PartState}
use Rattle.ticket_order.specs.declared.record.Opening.{Opening}
use Rattle.ticket_order.specs.declared.record.Record.{Record}
use Rattle.ticket_order.specs.Records.{newcomer, keeper_at_start, enrolling}
use Rattle.one_history.specs.declared.book.Book.{Book}
use Rattle.one_history.specs.declared.book.KeeperEffects.{KeeperEffects}
use Rattle.one_history.specs.declared.slot.Slot.{Slot}
use Rattle.one_history.specs.declared.slot.Slot.TheVariants.{Home, HeldBy}
use Rattle.one_history.specs.Interleaving.{words_after, AreFound, steps_by}
use Rattle.one_history.specs.Turns.{record_of, words_of, maps_of, opening_of, started, at_start}
use Rattle.one_history.specs.OneHistory.{Knows, IsOneHistory, HoldsStripe, AreLaid, AreParts, changes_by, changes_in, stripe_in}
use Rattle.one_history.specs.SharedWords.{slot_of, holder_in, Lies, draws_left, IsKept, IsPlaced, ArePlaced, AreEmpty, empty_part, no_part}
use Rattle.one_history.proofs.Fronts.{front_refl}
use Rattle.one_history.proofs.Interleavings.{none_made}

-- one more part at home
pub placed_push : (first : ℕ) (parts : List PartState) (slots : List Slot) (p : PartState) (x : Slot) → ArePlaced first parts slots → IsPlaced first p x → ArePlaced first (parts ++ p ∷ []) (slots ++ x ∷ [])
placed_push first parts slots p x k here = record {
  count = (let n : length slots ≡ length parts = k.count in omega (arith, length-append slots (x ∷ []), length-append parts (p ∷ [])));
  each = λ i lt.
      let n : length slots ≡ length parts = k.count in
      elim (cases_lt i (length parts)) [
        | inl l ↦
            let at : get_or (parts ++ p ∷ []) i no_part ≡ get_or parts i no_part = get_or_append_left parts (p ∷ []) no_part i l in
            let at' : slot_of i (slots ++ x ∷ []) ≡ slot_of i slots = get_or_append_left slots (x ∷ []) (HeldBy 0) i (omega arith) in
            subst (λ y. IsPlaced first (get_or (parts ++ p ∷ []) i no_part) y) (sym at') (subst (λ q. IsPlaced first q (slot_of i slots)) (sym at) (k.each i l))
        | inr l ↦
            let e : i ≡ length parts = omega (arith, length-append parts (p ∷ [])) in
            let at : get_or (parts ++ p ∷ []) i no_part ≡ p = rw (e, get_or-append_seam parts p [] no_part) in
            let e' : i ≡ length slots = omega arith in
            let at' : slot_of i (slots ++ x ∷ []) ≡ x = rw (e', get_or-append_seam slots x [] (HeldBy 0)) in
            subst (λ y. IsPlaced first (get_or (parts ++ p ∷ []) i no_part) y) (sym at') (subst (λ q. IsPlaced first q x) (sym at) here)
      ];
}

-- the records at the start
abbrev worker : Opening → ℕ → Record
worker o n = enrolling (newcomer o) n

abbrev pub keeper : Opening → ℕ → Record
keeper o n = enrolling (keeper_at_start o) n

worker_at : (o : Opening) (stripes n j : ℕ) → j < n → record_of j (started o stripes n) ≡ worker o (n + 1)
worker_at o stripes n j lt =
    get_or_append_left (replicate n (worker o (n + 1))) (keeper o (n + 1) ∷ []) (newcomer o) j (omega (arith, length-replicate n (worker o (n + 1))))
    ∙ get_or-replicate n j (worker o (n + 1)) (newcomer o) lt

pub keeper_at : (o : Opening) (stripes n : ℕ) → record_of n (started o stripes n) ≡ keeper o (n + 1)
keeper_at o stripes n =
    let zero_left : n - n ≡ 0 = omega arith in
    get_or-append_right (replicate n (worker o (n + 1))) (keeper o (n + 1) ∷ []) n n (newcomer o) (length-replicate n (worker o (n + 1))) (omega arith)
    ∙ ap (λ i. get_or (keeper o (n + 1) ∷ []) i (newcomer o)) zero_left

pub count_at_start : (o : Opening) (stripes n : ℕ) → length (started o stripes n).passes ≡ n + 1
count_at_start o stripes n = omega (arith, length-append (replicate n (worker o (n + 1))) (keeper o (n + 1) ∷ []), length-replicate n (worker o (n + 1)))

knows_worker : (o : Opening) (stripes n j : ℕ) (k : KeeperEffects) → j ≢ k.keeper → Knows o stripes [] [] k j (worker o (n + 1))
unfolding changes_by changes_in
knows_worker o stripes n j k ne = record {
  opening = refl;
  front = front_refl [];
  changes = refl;
  calls = tt;
  order = tt;
  seen = All-nil _;
  sections = tt;
  keeper = sym (ne_eqb j k.keeper ne);
  done = (refl, refl, refl);
  held = λ d e. absurd (let no : None ≡ Some d = e in cc);
}

knows_keeper : (o : Opening) (stripes n : ℕ) → Knows o stripes [] [] (record { keeper = n; taken = []; durable = o.first; failed = false }) n (keeper o (n + 1))
unfolding changes_by changes_in
knows_keeper o stripes n = record {
  opening = refl;
  front = front_refl [];
  changes = refl;
  calls = tt;
  order = tt;
  seen = All-nil _;
  sections = tt;
  keeper = sym (eq-eqb n n refl);
  done = (refl, refl, refl);
  held = λ d e. absurd (let no : None ≡ Some d = e in cc);
}

-- no step was made
none_stepped : (o : Opening) (n j : ℕ) → (get_or (replicate n (worker o (n + 1)) ++ keeper o (n + 1) ∷ []) j (newcomer o)).steps ≡ []
none_stepped o n j =
    let none : (v : Record) → Type 0 = λ v. v.steps ≡ [] in
    none_made (replicate n (worker o (n + 1)) ++ keeper o (n + 1) ∷ []) (newcomer o) j refl (All-push none (replicate n (worker o (n + 1))) (keeper o (n + 1)) (All-replicate none n (worker o (n + 1)) refl) refl)

one_at_start : (o : Opening) (stripes n : ℕ) → IsOneHistory (started o stripes n)
unfolding words_after AreFound steps_by
one_at_start o stripes n = record {
  authors = refl;
  by_passes = All-nil _;
  keeper = omega (arith, count_at_start o stripes n);
  begun = omega arith;
  reached = omega arith;
  passes = λ j lt. elim (cases_eq j n) [
    | inl e ↦ subst (λ i. Knows o stripes [] [] (record { keeper = n; taken = []; durable = o.first; failed = false }) i (record_of i (started o stripes n))) (sym e) (subst (Knows o stripes [] [] (record { keeper = n; taken = []; durable = o.first; failed = false }) n) (sym (keeper_at o stripes n)) (knows_keeper o stripes n))
    | inr ne ↦ subst (Knows o stripes [] [] (record { keeper = n; taken = []; durable = o.first; failed = false }) j) (sym (worker_at o stripes n j (omega (arith, count_at_start o stripes n)))) (knows_worker o stripes n j (record { keeper = n; taken = []; durable = o.first; failed = false }) ne)
  ];
  steps = none_stepped o n;
  found = tt;
  words = record { tickets = omega arith; durable = refl; failed = refl; lasts = λ i lt. omega arith };
  within = All-nil _;
}

-- no stripe is held
held_by_none : (o : Opening) (stripes n i : ℕ) → (words_of (started o stripes n)).holders i ≡ None
unfolding words_after
held_by_none o stripes n i = refl

placed_free : (first : ℕ) (p : PartState) (x : Slot) → IsPlaced first p x → holder_in x ≡ None
placed_free first p (Home content) at = refl
placed_free first p (HeldBy j) at = absurd at

-- at the start no pass holds a stripe
none_held : (o : Opening) (stripes n i j : ℕ) → HoldsStripe (started o stripes n) j i → ⊥
none_held o stripes n i j x =
    let none : stripe_in (record_of j (started o stripes n)).holding ≡ None = elim (cases_eq j n) [
      | inl e ↦ ap (λ l. stripe_in (record_of l (started o stripes n)).holding) e ∙ ap (λ (r : Record). stripe_in r.holding) (keeper_at o stripes n)
      | inr ne ↦ ap (λ (r : Record). stripe_in r.holding) (worker_at o stripes n j (let lt : j < length (started o stripes n).passes = x.within in omega (arith, count_at_start o stripes n)))
    ] in
    let no : None ≡ Some i = sym none ∙ x.has in
    cc

part_at : (n i : ℕ) (parts : List PartState) → AreParts n parts → length parts ≡ n → i < n → part_of n i (union_of (maps_of parts)) ≡ (get_or parts i no_part).map
part_at n i parts are count lt =
    sym (get_or-map-range_with_len (λ s. part_of n s (union_of (maps_of parts))) 0 n i i finite.empty lt (omega arith))
    ∙ (ap (λ (ms : List Map). get_or ms i finite.empty) (sym are.own) ∙ get_or-map (λ (p : PartState). p.map) parts i no_part finite.empty (omega arith))

pub kept_at_start : (n first limit workers : ℕ) (parts : List PartState) (slots : List Slot) → length parts ≡ n → AreParts n parts → ArePlaced first parts slots → workers < 65536 → IsKept n first first false slots (at_start first parts limit workers)
kept_at_start n first limit workers parts slots count are placed few =
    let o : Opening = opening_of first parts limit in
    let b : Book = at_start first parts limit workers in
    let lies : (i : ℕ) (x : Slot) → i < n → IsPlaced first (get_or parts i no_part) x → Lies b i x =
    λ i. elim [
      | Home content ↦ λ lt p. record {
        part_is = ap (λ m. part_of m i (union_of (maps_of parts))) count ∙ (part_at n i parts are count lt ∙ ap (λ (q : PartState). q.map) (sym p.0));
        outbox_is = sym p.1;
        last_is = omega (arith, p.2);
      }
      | HeldBy j ↦ λ lt p. absurd p
    ] in
    record {
      stripes_are = count;
      sized = placed.count ∙ count;
      counted = omega arith;
      durable_is = refl;
      failed_is = refl;
      few = omega (arith, count_at_start o (length parts) workers);
      room = inl (omega (arith, sum_by-append draws_left (replicate workers (worker o (workers + 1))) (keeper o (workers + 1) ∷ []), sum_by-replicate draws_left workers (worker o (workers + 1))));
      one = one_at_start o (length parts) workers;
      each_slot = λ i lt. lies i (slot_of i slots) (omega arith) (placed.each i lt);
      carried = λ i j x. absurd (none_held o (length parts) workers i j x);
      holders = λ i lt. held_by_none o (length parts) workers i ∙ sym (placed_free first (get_or parts i no_part) (slot_of i slots) (placed.each i lt));
    }

-- empty parts
none_either : (x : Bool) (o : Option Value) → o ≡ None → cond x o None ≡ o
none_either true o e = refl
none_either false o e = sym e

part_of-empty : (n s : ℕ) → part_of n s finite.empty ≡ finite.empty
part_of-empty n s = same_gets (part_of n s finite.empty) finite.empty (λ q. get-part_of n s finite.empty q ∙ none_either (is_in_stripe n s q) (finite.get finite.empty q) (finite.get-empty (slice_cmp nat_cmp) q))

entries-empty : (m : Map) → m ≡ finite.empty → finite.entries m ≡ []
entries-empty m e = ap (λ (x : Map). finite.entries x) e ∙ nil_from_length _ (sym (finite.len-entries _) ∙ finite.len-empty (slice_cmp nat_cmp) Value)

no_entries : (n : ℕ) (parts : List PartState) → AreEmpty n parts → flat_map finite.entries (maps_of parts) ≡ []
no_entries n [] e = refl
no_entries n (p ∷ parts) e =
    ap (λ es. es ++ flat_map finite.entries (maps_of parts)) (entries-empty p.map (ap (λ (q : PartState). q.map) (All-head (λ (q : PartState). q ≡ empty_part n) p parts e)))
    ∙ no_entries n parts (All-tail (λ (q : PartState). q ≡ empty_part n) p parts e)

pub empty_union : {n : ℕ} (parts : List PartState) → AreEmpty n parts → union_of (maps_of parts) ≡ finite.empty
empty_union {n = n} parts e = ap finite.from_entries (no_entries n parts e)

empty_parts : (n a : ℕ) (parts : List PartState) → AreEmpty n parts → maps_of parts ≡ map (λ s. part_of n s finite.empty) (range_with_len a (length parts))
empty_parts n a [] e = refl
empty_parts n a (p ∷ parts) e =
    ap (λ m. m ∷ maps_of parts) (ap (λ (q : PartState). q.map) (All-head (λ (q : PartState). q ≡ empty_part n) p parts e) ∙ sym (part_of-empty n a))
    ∙ ap (λ (ms : List Map). part_of n a finite.empty ∷ ms) (empty_parts n (a + 1) parts (All-tail (λ (q : PartState). q ≡ empty_part n) p parts e))

empty_are_laid : (n : ℕ) (parts : List PartState) → AreEmpty n parts → AreLaid n parts
empty_are_laid n [] e = tt
empty_are_laid n (p ∷ parts) e = (
  ap (λ (q : PartState). q.growth.stripes) (All-head (λ (q : PartState). q ≡ empty_part n) p parts e),
  empty_are_laid n parts (All-tail (λ (q : PartState). q ≡ empty_part n) p parts e),
)

pub empty_are_parts : (n : ℕ) (parts : List PartState) → length parts ≡ n → AreEmpty n parts → AreParts n parts
empty_are_parts n parts count e =
    let all : maps_of parts ≡ parts_of n finite.empty = empty_parts n 0 parts e ∙ ap (λ l. map (λ s. part_of n s finite.empty) (range_with_len 0 l)) count in
    record {
      own = all ∙ ap (λ m. parts_of n m) (sym (empty_union parts e));
      laid = empty_are_laid n parts e;
    }

pub empty_start : (n limit workers : ℕ) (parts : List PartState) → length parts ≡ n → AreEmpty n parts → at_start 0 parts limit workers ≡ started (record { first = 0; map = finite.empty; key_limit = limit }) n workers
empty_start n limit workers parts count e = ap (λ (m : Map). started (record { first = 0; map = m; key_limit = limit }) (length parts) workers) (empty_union parts e) ∙ ap (λ l. started (record { first = 0; map = finite.empty; key_limit = limit }) l workers) count
