-- The map that sections and a log give, when both are of one history.
use Rattle.std.proofs.Common.{◌≡◌, ℕ, zero, suc, ◌+◌, ◌-◌, ◌≤◌, ◌<◌, max, Bool, true, false, cond, None, List, [], ◌∷◌, ◌++◌, length, take, drop, map, nat_le, refl, sym, ◌∙◌, ap, ap₂, subst, arith, append_assoc, length-drop, take-append-drop}
use Rattle.std.proofs.lemmas.Bool.{ne_eqb, eqb-true}
use Rattle.std.proofs.lemmas.Bool.Decides.{nat_tests}
use Rattle.std.proofs.lemmas.List.{drop_all, drop-drop, take_at, take-append-le}
use Rattle.std.specs.Cmp.Lexicographic.{nat_list_cmp_total}
use Rattle.std.specs.List.{flat_map}
use Rattle.std.specs.FinMap as finite
use Rattle.java_hash.specs.Stripes.{stripe_of}
use Rattle.java_hash.proofs.StripeLaws.{stripe_of_within}
use Rattle.map_types.specs.declared.texts.Value.{Value}
use Rattle.map_types.specs.declared.commands.Command.{Command}
use Rattle.map_model.specs.Maps.{Map}
use Rattle.map_model.specs.Parts.{part_of, is_in_stripe, commands_of, union_of}
use Rattle.map_model.specs.Steps.{map_after}
use Rattle.map_model.specs.Histories.{History, fold_to}
use Rattle.map_model.proofs.MapLaws.{same_gets, get-part_of}
use Rattle.map_model.proofs.FoldLaws.{map_after-append, part_of-map_after}
use Rattle.map_model.proofs.UnionLaws.{or_else, find_in, find-append, or_else-none}
use Rattle.store_layout.specs.Checkpoints.{Section}
use Rattle.store_layout.specs.SectionsAndLog.{mark_of, counts, counted, restored, AreParts, AreMarks, IsLogOf}

-- ---- the commands that count, stripe by stripe

drop_past : (k : ℕ) (c : Command) (cs : List Command) → 0 < k → drop k (c ∷ cs) ≡ drop (k - 1) cs
drop_past zero c cs more = absurd (omega (arith, more))
drop_past (suc k) c cs more = ap (λ i. drop i cs) (omega arith)

drop_none : (k : ℕ) (cs : List Command) → k ≡ 0 → drop k cs ≡ cs
drop_none k cs is = ap (λ i. drop i cs) is

commands_own : (n s : ℕ) (c : Command) (cs : List Command) → is_in_stripe n s c.key ≡ true → commands_of n s (c ∷ cs) ≡ c ∷ commands_of n s cs
commands_own n s c cs own = ap (λ b. cond b (c ∷ commands_of n s cs) (commands_of n s cs)) own

commands_other : (n s : ℕ) (c : Command) (cs : List Command) → is_in_stripe n s c.key ≡ false → commands_of n s (c ∷ cs) ≡ commands_of n s cs
commands_other n s c cs other = ap (λ b. cond b (c ∷ commands_of n s cs) (commands_of n s cs)) other

module _ (n : ℕ) (xs : List Section) (s : ℕ) where
  -- from here on the stripe's commands are those from its mark on
  abbrev Left : ℕ → List Command → List Command → Type 0
  Left t cs ds = commands_of n s ds ≡ commands_of n s (drop (mark_of xs s - t) cs)

  -- a command of another stripe
  passed_by : (t : ℕ) (c : Command) (cs ds : List Command) → is_in_stripe n s c.key ≡ false → Left (t + 1) cs ds → Left t (c ∷ cs) ds
  passed_by t c cs ds other rest =
      rest ∙ elim (nat_le (mark_of xs s) t) as (λ b. nat_le (mark_of xs s) t ≡ b → commands_of n s (drop (mark_of xs s - (t + 1)) cs) ≡ commands_of n s (drop (mark_of xs s - t) (c ∷ cs))) [
        | true ↦ λ le.
            ap (commands_of n s) (drop_none (mark_of xs s - (t + 1)) cs (grind (arith, nat_tests)))
            ∙ sym (ap (commands_of n s) (drop_none (mark_of xs s - t) (c ∷ cs) (grind (arith, nat_tests))) ∙ commands_other n s c cs other)
        | false ↦ λ gt.
            ap (λ i. commands_of n s (drop i cs)) (omega arith)
            ∙ sym (ap (commands_of n s) (drop_past (mark_of xs s - t) c cs (grind (arith, nat_tests))))
      ] refl

  one_more : (t : ℕ) (c : Command) (cs ds : List Command) (own counting : Bool) → is_in_stripe n s c.key ≡ own → counts n xs t c ≡ counting
      → Left (t + 1) cs ds → Left t (c ∷ cs) (cond counting (c ∷ ds) ds)
  one_more t c cs ds true true own le rest =
      let at : stripe_of n c.key ≡ s = eqb-true _ _ own in
      let low : nat_le (mark_of xs s) t ≡ true = subst (λ i. nat_le (mark_of xs i) t ≡ true) at le in
      commands_own n s c ds own
      ∙ ap (λ (l : List Command). c ∷ l) (rest ∙ ap (commands_of n s) (drop_none (mark_of xs s - (t + 1)) cs (grind (arith, nat_tests))))
      ∙ sym (ap (commands_of n s) (drop_none (mark_of xs s - t) (c ∷ cs) (grind (arith, nat_tests))) ∙ commands_own n s c cs own)
  one_more t c cs ds true false own gt rest =
      let at : stripe_of n c.key ≡ s = eqb-true _ _ own in
      let high : nat_le (mark_of xs s) t ≡ false = subst (λ i. nat_le (mark_of xs i) t ≡ false) at gt in
      rest ∙ ap (λ i. commands_of n s (drop i cs)) (omega arith)
      ∙ sym (ap (commands_of n s) (drop_past (mark_of xs s - t) c cs (grind (arith, nat_tests))))
  one_more t c cs ds false true other le rest = commands_other n s c ds other ∙ passed_by t c cs ds other rest
  one_more t c cs ds false false other gt rest = passed_by t c cs ds other rest

  pub counted_left : (t : ℕ) (cs : List Command) → Left t cs (counted n xs t cs)
  counted_left t [] = ap (commands_of n s) (sym (drop_all (mark_of xs s - t) [] (omega arith)))
  counted_left t (c ∷ cs) = one_more t c cs (counted n xs (t + 1) cs) (is_in_stripe n s c.key) (counts n xs t c) refl refl (counted_left (t + 1) cs)

-- ---- the union of the sections

abbrev maps_of : List Section → List Map
maps_of sections = map (λ section. section.map) sections

module _ (h : History) (n : ℕ) where
  entries_in : List Section → List (List ℕ × Value)
  entries_in xs = flat_map finite.entries (maps_of xs)

  find-more : (at : ℕ) (x : Section) (xs : List Section) (q : List ℕ) → x.map ≡ part_of n at (fold_to h x.mark)
      → find_in q (entries_in (x ∷ xs)) ≡ or_else (cond (is_in_stripe n at q) (finite.get (fold_to h x.mark) q) None) (find_in q (entries_in xs))
  unfolding entries_in find_in
  find-more at x xs q is =
      find-append q (finite.entries x.map) (entries_in xs)
      ∙ ap (λ o. or_else o (find_in q (entries_in xs))) (sym (finite.get-entries x.map q) ∙ ap (λ m. finite.get m q) is ∙ get-part_of n at (fold_to h x.mark) q)

  none_below : (at : ℕ) (xs : List Section) (q : List ℕ) → AreParts h n at xs → stripe_of n q < at → find_in q (entries_in xs) ≡ None
  unfolding entries_in find_in
  none_below at [] q parts low = refl
  none_below at (x ∷ xs) q parts low =
      find-more at x xs q parts.0
      ∙ ap₂ or_else (ap (λ b. cond b (finite.get (fold_to h x.mark) q) None) (ne_eqb (stripe_of n q) at (λ e. omega (arith, e, low)))) (none_below (at + 1) xs q parts.1 (omega (arith, low)))

  found : (at i : ℕ) (xs : List Section) (q : List ℕ) → AreParts h n at xs → stripe_of n q ≡ at + i → i < length xs → find_in q (entries_in xs) ≡ finite.get (fold_to h (mark_of xs i)) q
  unfolding entries_in find_in
  found at i [] q parts is high = absurd (omega (arith, high))
  found at zero (x ∷ xs) q parts is high =
      let own : is_in_stripe n at q ≡ true = grind (arith, nat_tests) in
      find-more at x xs q parts.0
      ∙ ap₂ or_else (ap (λ b. cond b (finite.get (fold_to h x.mark) q) None) own) (none_below (at + 1) xs q parts.1 (omega (arith, is)))
      ∙ or_else-none (finite.get (fold_to h x.mark) q)
  found at (suc i) (x ∷ xs) q parts is high =
      find-more at x xs q parts.0
      ∙ ap (λ b. or_else (cond b (finite.get (fold_to h x.mark) q) None) (find_in q (entries_in xs))) (ne_eqb (stripe_of n q) at (λ e. omega (arith, e, is)))
      ∙ found (at + 1) i xs q parts.1 (omega (arith, is)) (omega (arith, high))

  -- the part of the union of the sections
  pub part_of-union : (xs : List Section) (s : ℕ) → AreParts h n 0 xs → ((q : List ℕ) → stripe_of n q < length xs)
      → part_of n s (union_of (maps_of xs)) ≡ part_of n s (fold_to h (mark_of xs s))
  unfolding entries_in find_in
  part_of-union xs s parts within = same_gets _ _ (λ q.
      get-part_of n s (union_of (maps_of xs)) q
      ∙ elim (is_in_stripe n s q) as (λ b. is_in_stripe n s q ≡ b → cond b (finite.get (union_of (maps_of xs)) q) None ≡ finite.get (part_of n s (fold_to h (mark_of xs s))) q) [
        | true ↦ λ own.
            let is : stripe_of n q ≡ s = eqb-true _ _ own in
            finite.get-from_entries nat_list_cmp_total (flat_map finite.entries (maps_of xs)) q
            ∙ found 0 (stripe_of n q) xs q parts (omega arith) (within q)
            ∙ ap (λ i. finite.get (fold_to h (mark_of xs i)) q) is
            ∙ sym (get-part_of n s (fold_to h (mark_of xs s)) q ∙ ap (λ b. cond b (finite.get (fold_to h (mark_of xs s)) q) None) own)
        | false ↦ λ other. sym (get-part_of n s (fold_to h (mark_of xs s)) q ∙ ap (λ b. cond b (finite.get (fold_to h (mark_of xs s)) q) None) other)
      ] refl)

-- maps with the same parts are equal
same_parts : (n : ℕ) (a b : Map) → ((q : List ℕ) → part_of n (stripe_of n q) a ≡ part_of n (stripe_of n q) b) → a ≡ b
same_parts n a b same = same_gets a b (λ q.
    let own : is_in_stripe n (stripe_of n q) q ≡ true = grind (arith, nat_tests) in
    let at : (m : Map) → finite.get (part_of n (stripe_of n q) m) q ≡ finite.get m q = λ m. get-part_of n (stripe_of n q) m q ∙ ap (λ b. cond b (finite.get m q) None) own in
    sym (at a) ∙ ap (λ m. finite.get m q) (same q) ∙ at b)

-- ---- the history from a mark on

pub take_past : (front back : List Command) (i j : ℕ) → i ≡ length front + j → take i (front ++ back) ≡ front ++ take j back
take_past [] back i j is = ap (λ m. take m back) (omega (arith, is))
take_past (x ∷ front) back zero j is = absurd (omega (arith, is))
take_past (x ∷ front) back (suc i) j is = ap (λ (l : List Command). x ∷ l) (take_past front back i j (omega (arith, is)))

-- from a mark on, the log brings the map to its end
pub fold_on : (h : History) (low q : ℕ) (log : List Command) → IsLogOf h low log → h.first ≤ q → low ≤ q → q ≤ low + length log
    → fold_to h (low + length log) ≡ map_after (fold_to h q) (drop (q - low) log)
fold_on h low q log of past_first past_low short =
    let mid = drop (h.first - low) log in
    let j = q - (h.first + length of.front) in
    let size : length mid ≡ low + length log - max h.first low = omega (arith, length-drop (h.first - low) log, of.reaches) in
    let here : take (q - h.first) h.commands ≡ of.front ++ take j mid =
    ap (λ (l : List Command). take (q - h.first) l) of.commands
    ∙ take_past of.front (mid ++ of.back) (q - h.first) j (omega (arith, of.place))
    ∙ ap (λ (l : List Command). of.front ++ l) (take-append-le j mid of.back (omega (arith, size, of.place))) in
    let end : take (low + length log - h.first) h.commands ≡ of.front ++ mid =
    ap (λ (l : List Command). take (low + length log - h.first) l) of.commands
    ∙ take_past of.front (mid ++ of.back) (low + length log - h.first) (length mid) (omega (arith, of.place, size, of.reaches))
    ∙ ap (λ (l : List Command). of.front ++ l) (take_at mid of.back (length mid) refl) in
    let rest : drop j mid ≡ drop (q - low) log = drop-drop j (h.first - low) log ∙ ap (λ i. drop i log) (omega (arith, of.place)) in
    ap (map_after h.opening) (end ∙ ap (λ (l : List Command). of.front ++ l) (sym (take-append-drop j mid) ∙ ap (λ (l : List Command). take j mid ++ l) rest) ∙ sym (append_assoc of.front (take j mid) (drop (q - low) log)) ∙ ap (λ (l : List Command). l ++ drop (q - low) log) (sym here))
    ∙ map_after-append h.opening (take (q - h.first) h.commands) (drop (q - low) log)

pub mark_between : (low high i : ℕ) (xs : List Section) → AreMarks low high xs → i < length xs → (low ≤ mark_of xs i) × (mark_of xs i ≤ high)
mark_between low high i [] marks within = absurd (omega (arith, within))
mark_between low high zero (x ∷ xs) marks within = (marks.0, marks.1)
mark_between low high (suc i) (x ∷ xs) marks within = mark_between low high i xs marks.2 (omega (arith, within))

-- every key's stripe has a section
pub has_section : (n : ℕ) (xs : List Section) → length xs ≡ n → 0 < n → (q : List ℕ) → stripe_of n q < length xs
has_section n xs long some q = let h : stripe_of n q < n = stripe_of_within n q some in omega (arith, h, long)

-- Sections that are parts at their marks, and a log of the same history that reaches the marks, give the map where the log ends.
pub restored_is_fold : (h : History) (n low : ℕ) (xs : List Section) (log : List Command) → AreParts h n 0 xs → AreMarks (max h.first low) (low + length log) xs
    → IsLogOf h low log → ((q : List ℕ) → stripe_of n q < length xs) → restored n xs low log ≡ fold_to h (low + length log)
restored_is_fold h n low xs log parts marks of within = same_parts n _ _ (λ q.
    let s = stripe_of n q in
    let mark = mark_of xs s in
    let between = mark_between (max h.first low) (low + length log) s xs marks (within q) in
    part_of-map_after n s (union_of (maps_of xs)) (counted n xs low log)
    ∙ ap₂ map_after (part_of-union h n xs s parts within) (counted_left n xs s low log)
    ∙ sym (part_of-map_after n s (fold_to h mark) (drop (mark - low) log))
    ∙ ap (part_of n s) (sym (fold_on h low mark log of (omega (arith, between.0)) (omega (arith, between.0)) between.1)))
