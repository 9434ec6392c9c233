-- How a log, a history and sections grow.
use Rattle.std.proofs.Common.{◌≡◌, ℕ, zero, suc, ◌+◌, ◌-◌, ◌≤◌, ◌<◌, max, Bool, true, false, cond, List, [], ◌∷◌, ◌++◌, length, take, drop, map, refl, sym, ◌∙◌, ap, arith, append_assoc, length-append, length-drop, take-append-drop}
use Rattle.std.proofs.lemmas.Bool.Decides.{nat_tests}
use Rattle.std.proofs.lemmas.List.{drop_all, take_at, take-append-le}
use Rattle.java_hash.specs.Stripes.{stripe_of}
use Rattle.map_types.specs.declared.commands.Command.{Command}
use Rattle.map_model.specs.Parts.{part_of, union_of}
use Rattle.map_model.specs.Steps.{map_after}
use Rattle.map_model.specs.Histories.{History, fold_to}
use Rattle.map_model.proofs.FoldLaws.{map_after-append}
use Rattle.store_layout.specs.Checkpoints.{Section}
use Rattle.store_layout.specs.SectionsAndLog.{counts, counted, restored, AreMarks, IsNextOf}
use Rattle.store_layout.specs.Laws.{PartsAndLogRestore, RestoringGoesOn, RestoringStays, OpeningRestores, LogsBegin, LogsAreOpened, LogsGoOn, LogsStay, NextStays, PartsStay, PartsGoOn, MarksGoOn, MarksWiden}
use Rattle.store_layout.proofs.Restoring.{restored_is_fold, mark_between, has_section, take_past}

-- ---- marks

pub marks_widen : MarksWiden
marks_widen low high lower higher [] l h marks = tt
marks_widen low high lower higher (x ∷ xs) l h marks = (omega (arith, l, marks.0), omega (arith, h, marks.1), marks_widen low high lower higher xs l h marks.2)

pub marks_push : MarksGoOn
marks_push low high [] x marks l h = (l, h, tt)
marks_push low high (y ∷ xs) x marks l h = (marks.0, marks.1, marks_push low high xs x marks.2 l h)

-- ---- more commands

pub counted-append : (n : ℕ) (xs : List Section) (t : ℕ) (cs ds : List Command) → counted n xs t (cs ++ ds) ≡ counted n xs t cs ++ counted n xs (t + length cs) ds
counted-append n xs t [] ds = ap (λ i. counted n xs i ds) (omega arith)
counted-append n xs t (c ∷ cs) ds =
    let rest : counted n xs (t + 1) (cs ++ ds) ≡ counted n xs (t + 1) cs ++ counted n xs (t + length (c ∷ cs)) ds =
    counted-append n xs (t + 1) cs ds ∙ ap (λ i. counted n xs (t + 1) cs ++ counted n xs i ds) (omega arith) in
    ap (λ (l : List Command). cond (counts n xs t c) (c ∷ l) l) rest ∙ either (counts n xs t c) c (counted n xs (t + 1) cs) (counted n xs (t + length (c ∷ cs)) ds)
  where
    either : (b : Bool) (c : Command) (l r : List Command) → cond b (c ∷ (l ++ r)) (l ++ r) ≡ cond b (c ∷ l) l ++ r
    either true c l r = refl
    either false c l r = refl

-- past all marks each command counts
pub counted_past : (n : ℕ) (xs : List Section) (t : ℕ) (cs : List Command) → AreMarks 0 t xs → ((q : List ℕ) → stripe_of n q < length xs) → counted n xs t cs ≡ cs
counted_past n xs t [] marks within = refl
counted_past n xs t (c ∷ cs) marks within =
    let low = (mark_between 0 t (stripe_of n c.key) xs marks (within c.key)).1 in
    let is : counts n xs t c ≡ true = grind (arith, nat_tests, low) in
    ap (λ b. cond b (c ∷ counted n xs (t + 1) cs) (counted n xs (t + 1) cs)) is
    ∙ ap (λ (l : List Command). c ∷ l) (counted_past n xs (t + 1) cs (marks_widen 0 t 0 (t + 1) xs (omega arith) (omega arith) marks) within)

pub fold_next : (h : History) (t : ℕ) (new : List Command) → IsNextOf h t new → fold_to h (t + length new) ≡ map_after (fold_to h t) new
fold_next h t new next =
    let here : take (t - h.first) h.commands ≡ next.front =
    ap (λ (l : List Command). take (t - h.first) l) next.commands ∙ take_at next.front (new ++ next.back) (t - h.first) (omega (arith, next.place)) in
    let end : take (t + length new - h.first) h.commands ≡ next.front ++ new =
    ap (λ (l : List Command). take (t + length new - h.first) l) next.commands
    ∙ take_past next.front (new ++ next.back) (t + length new - h.first) (length new) (omega (arith, next.place))
    ∙ ap (λ (l : List Command). next.front ++ l) (take_at new next.back (length new) refl) in
    ap (map_after h.opening) (end ∙ ap (λ (l : List Command). l ++ new) (sym here)) ∙ map_after-append h.opening (take (t - h.first) h.commands) new

-- ---- what sections and log give

pub restores : PartsAndLogRestore
restores h n low xs log parts marks long some of = record {
  same = restored_is_fold h n low xs log parts marks of (has_section n xs long some);
  marks = marks_widen (max h.first low) (low + length log) low (low + length log) xs (omega arith) (omega arith) marks;
  from_first = of.reaches;
  within =
      let size : length (drop (h.first - low) log) ≡ length log - (h.first - low) = length-drop (h.first - low) log in
      let all : length h.commands ≡ length of.front + (length (drop (h.first - low) log) + length of.back) =
      ap (λ (l : List Command). length l) of.commands ∙ length-append of.front (drop (h.first - low) log ++ of.back) ∙ ap (λ i. length of.front + i) (length-append (drop (h.first - low) log) of.back) in
      omega (arith, size, all, of.place, of.reaches);
  one_each = long;
  some = some;
}

pub restores_on : RestoringGoesOn
restores_on h n low xs log new stand next =
    let size : length (log ++ new) ≡ length log + length new = length-append log new in
    let within = has_section n xs stand.one_each stand.some in
    let past : counted n xs (low + length log) new ≡ new = counted_past n xs (low + length log) new (marks_widen low (low + length log) 0 (low + length log) xs (omega arith) (omega arith) stand.marks) within in
    let m = union_of (map (λ section. section.map) xs) in
    let all : length h.commands ≡ length next.front + (length new + length next.back) =
    ap (λ (l : List Command). length l) next.commands ∙ length-append next.front (new ++ next.back) ∙ ap (λ i. length next.front + i) (length-append new next.back) in
    record {
      same = ap (map_after m) (counted-append n xs low log new ∙ ap (λ (l : List Command). counted n xs low log ++ l) past)
          ∙ map_after-append m (counted n xs low log) new
          ∙ ap (λ m'. map_after m' new) stand.same
          ∙ sym (fold_next h (low + length log) new next)
          ∙ ap (fold_to h) (omega (arith, size));
      marks = marks_widen low (low + length log) low (low + length (log ++ new)) xs (omega arith) (omega (arith, size)) stand.marks;
      from_first = omega (arith, size, stand.from_first);
      within = omega (arith, size, all, next.place);
      one_each = stand.one_each;
      some = stand.some;
    }

pub restores_grown : RestoringStays
restores_grown h n low xs log more stand =
    let size : length (h.commands ++ more) ≡ length h.commands + length more = length-append h.commands more in
    record {
      same = stand.same ∙ ap (map_after h.opening) (sym (take-append-le (low + length log - h.first) h.commands more (omega (arith, stand.within, stand.from_first))));
      marks = stand.marks;
      from_first = stand.from_first;
      within = omega (arith, size, stand.within);
      one_each = stand.one_each;
      some = stand.some;
    }

pub restores_opened : OpeningRestores
restores_opened n low xs log marks long some = record {
  same = ap (map_after (restored n xs low log)) (sym (take_none (low + length log - (low + length log))));
  marks = marks;
  from_first = omega arith;
  within = omega arith;
  one_each = long;
  some = some;
}
  where
    take_none : (i : ℕ) → take {A = Command} i [] ≡ []
    take_none zero = refl
    take_none (suc i) = refl

-- ---- logs

pub log_begun : LogsBegin
log_begun h low past within = record {
  front = take (low - h.first) h.commands;
  back = drop (low - h.first) h.commands;
  commands = sym (take-append-drop (low - h.first) h.commands) ∙ ap (λ (l : List Command). take (low - h.first) h.commands ++ (l ++ drop (low - h.first) h.commands)) (sym (drop_all (h.first - low) [] (omega arith)));
  place = omega (arith, length-take_of (low - h.first) h.commands (omega (arith, within)), past);
  reaches = omega (arith, past);
}
  where
    length-take_of : (i : ℕ) (cs : List Command) → i ≤ length cs → length (take i cs) ≡ i
    length-take_of i cs short = omega (arith, ap length (take-append-drop i cs), length-append (take i cs) (drop i cs), length-drop i cs, short)

pub log_opened : LogsAreOpened
log_opened h low log end = record {
  front = [];
  back = h.commands;
  commands = ap (λ (l : List Command). l ++ h.commands) (sym (drop_all (h.first - low) log (omega (arith, end))));
  place = omega (arith, end);
  reaches = omega (arith, end);
}

pub log_on : LogsGoOn
log_on h low log new of next =
    let mid = drop (h.first - low) log in
    let size : length mid ≡ low + length log - max h.first low = omega (arith, length-drop (h.first - low) log, of.reaches) in
    let same : of.front ++ mid ≡ next.front =
    sym (take_at (of.front ++ mid) of.back (length next.front) (omega (arith, length-append of.front mid, size, of.place, next.place, of.reaches)))
    ∙ ap (λ (l : List Command). take (length next.front) l) (append_assoc of.front mid of.back ∙ sym of.commands ∙ next.commands) ∙ take_at next.front (new ++ next.back) (length next.front) refl in
    let longer : drop (h.first - low) (log ++ new) ≡ mid ++ new = drop_append (h.first - low) log new (omega (arith, of.reaches)) in
    record {
      front = of.front;
      back = next.back;
      commands = next.commands ∙ ap (λ (l : List Command). l ++ (new ++ next.back)) (sym same) ∙ append_assoc of.front mid (new ++ next.back)
          ∙ ap (λ (l : List Command). of.front ++ l) (sym (append_assoc mid new next.back) ∙ ap (λ (l : List Command). l ++ next.back) (sym longer));
      place = of.place;
      reaches = omega (arith, of.reaches, length-append log new);
    }
  where
    drop_append : (i : ℕ) (xs ys : List Command) → i ≤ length xs → drop i (xs ++ ys) ≡ drop i xs ++ ys
    drop_append zero xs ys short = refl
    drop_append (suc i) [] ys short = absurd (omega (arith, short))
    drop_append (suc i) (x ∷ xs) ys short = drop_append i xs ys (omega (arith, short))

behind : (front mid back more : List Command) → (front ++ (mid ++ back)) ++ more ≡ front ++ (mid ++ (back ++ more))
behind front mid back more = append_assoc front (mid ++ back) more ∙ ap (λ (l : List Command). front ++ l) (append_assoc mid back more)

pub log_stays : LogsStay
log_stays h low log more of = record {
  front = of.front;
  back = of.back ++ more;
  commands = ap (λ (l : List Command). l ++ more) of.commands ∙ behind of.front (drop (h.first - low) log) of.back more;
  place = of.place;
  reaches = of.reaches;
}

pub next_stays : NextStays
next_stays h ticket new more next = record {
  front = next.front;
  back = next.back ++ more;
  commands = ap (λ (l : List Command). l ++ more) next.commands ∙ behind next.front new next.back more;
  place = next.place;
}

-- ---- parts

pub parts_grown : PartsStay
parts_grown h n at [] more marks parts = tt
parts_grown h n at (x ∷ xs) more marks parts = (
  parts.0 ∙ ap (λ cs. part_of n at (map_after h.opening cs)) (sym (take-append-le (x.mark - h.first) h.commands more (omega (arith, marks.0, marks.1)))),
  parts_grown h n (at + 1) xs more marks.2 parts.1,
)

pub parts_push : PartsGoOn
parts_push h n at [] x parts is = (is ∙ ap (λ s. part_of n s (fold_to h x.mark)) (omega arith), tt)
parts_push h n at (y ∷ xs) x parts is = (parts.0, parts_push h n (at + 1) xs x parts.1 (is ∙ ap (λ s. part_of n s (fold_to h x.mark)) (omega arith)))
