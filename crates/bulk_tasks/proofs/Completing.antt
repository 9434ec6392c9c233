-- What the steps of a whole view come to.
use Rattle.std.proofs.Common.{◌≡◌, ℕ, ◌+◌, ◌≤◌, List, [], ◌∷◌, ◌++◌, length, fold, map, max, Result, Ok, Err, IfOk, IfErr, refl, sym, ap, subst, ◌∙◌, arith, append_assoc}
use Rattle.std.proofs.lemmas.List.{length-map}
use Rattle.map_types.specs.declared.refusals.Refusal.{Refusal}
use Rattle.map_types.specs.declared.refusals.Refusal.TheVariants as refusal
use Rattle.map_model.specs.Maps.{Map}
use Rattle.map_model.specs.Parts.{union_of}
use Rattle.map_model.specs.Histories.{History, fold_to}
use Rattle.view_walk.specs.declared.walk.Captured.{Captured}
use Rattle.ticket_order.specs.declared.record.Record.{Record}
use Rattle.ticket_order.specs.declared.record.Section.{Section}
use Rattle.ticket_order.specs.declared.record.StepMade.{StepMade}
use Rattle.ticket_order.specs.declared.record.StepMade.TheVariants.{Saw}
use Rattle.ticket_order.specs.Legality.{history_of}
use Rattle.flusher.specs.Fitting.{IsBeside}
use Rattle.durable_map.specs.Durable.{EndsDurable, EndsFailed}
use Rattle.durable_map.proofs.Growing.{fails_behind}
use Rattle.view_walk.specs.Walking as walking
use Rattle.view_walk.specs.Walking.{greatest_mark, Gains, IsDone, IsFailed, IsStarved, Refuses}
use Rattle.view_walk.specs.Viewing as viewing
use Rattle.view_walk.specs.Viewing.{Shows}
use Rattle.bulk_tasks.specs.ViewState.{ViewState}
use Rattle.bulk_tasks.specs.Parts.{AreParts, marks_of, parts_from}
use Rattle.bulk_tasks.specs.Laws.{maps_of}
use Rattle.bulk_tasks.specs.Completing.{AnswersView, AreInTurn, Captures, CompletesView, greatest_of, Rising, view_of}
use Rattle.bulk_tasks.proofs.Walked.{views_are_parts}

-- ---- the marks of the sections

abbrev pub marks : List Section → List ℕ
marks xs = map (λ (x : Section). x.mark) xs

rising_marks : (low : ℕ) (xs : List Section) (high : ℕ) → walking.Rising low xs high → Rising low (marks xs) high
rising_marks low [] high r = r
rising_marks low (x ∷ xs) high r = (r.0, rising_marks x.mark xs high r.1)

in_turn : (i : ℕ) (xs : List Section) → walking.AreInTurn i xs → AreInTurn i (marks xs) xs
in_turn i [] s = tt
in_turn i (x ∷ xs) s = (s.0, refl, in_turn (i + 1) xs s.1)

greatest_from : (a : ℕ) (xs : List Section) → fold (λ (q : ℕ) (x : Section). max q x.mark) a xs ≡ fold max a (marks xs)
greatest_from a [] = refl
greatest_from a (x ∷ xs) = greatest_from (max a x.mark) xs

greatest_is : (xs : List Section) → greatest_mark xs ≡ greatest_of (marks xs)
greatest_is xs = greatest_from 0 xs

how_many : (xs : List Section) → length (marks xs) ≡ length xs
how_many xs = length-map xs (λ (x : Section). x.mark)

-- the maps at the marks
maps_at : (h : History) (xs : List Section) → maps_of h xs ≡ map (fold_to h) (marks xs)
maps_at h [] = refl
maps_at h (x ∷ xs) = ap (λ (ms : List Map). fold_to h x.mark ∷ ms) (maps_at h xs)

-- what was captured has the marks of the sections
marks_shown : (zs : List Captured) (xs : List Section) → Shows zs xs → marks_of zs ≡ marks xs
marks_shown [] [] s = refl
marks_shown [] (x ∷ xs) s = absurd s
marks_shown (z ∷ zs) [] s = absurd s
marks_shown (z ∷ zs) (x ∷ xs) s = ap (λ (q : ℕ). q ∷ marks_of zs) s.0 ∙ ap (λ (qs : List ℕ). x.mark ∷ qs) (marks_shown zs xs s.2)

-- ---- what the record gained

captures : (n : ℕ) (b : Record) (xs : List Section) (w : Record) → Gains n b xs w → Captures n b (marks xs) w
captures n b xs w g = record { sections = xs; grew = g.sections_are; in_turn = in_turn 0 xs g.in_turn; legal = g.legal; rising = rising_marks _ xs _ g.rising }

beside : (n : ℕ) (b : Record) (xs : List Section) (w : Record) → Gains n b xs w → IsBeside b w
beside n b xs w g = record { opening = g.opening; keeper = g.keeper; taken = g.taken; published = g.published; failed = g.failed; seen = record { more = g.more; is = g.seen_is }; made = g.made; steps = g.steps_are }

ends_durable : (n : ℕ) (b : Record) (xs : List Section) (w : Record) → IsDone n b xs w → EndsDurable b (greatest_of (marks xs)) w
ends_durable n b xs w d =
    let at = d.durable in
    let made = at.all.gains.made in
    let last = Saw at.since.durable ∷ [] in record {
      before = made;
      durable = at.since.durable;
      steps = ap (λ (r : Record). r.steps) at.since.sees.is ∙ (ap (λ (l : List StepMade). l ++ last) at.all.gains.steps_are ∙ append_assoc b.steps made last);
      reached = subst (λ (q : ℕ). q ≤ at.since.durable) (greatest_is xs) at.since.reached;
    }

ends_failed : (n : ℕ) (b : Record) (xs : List Section) (w : Record) → IsFailed n b xs w → EndsFailed b (greatest_of (marks xs)) w
ends_failed n b xs w k =
    let at = k.failed in
    let failed = fails_behind b at.between w (greatest_mark xs) at.all.gains.made at.all.gains.steps_are at.since in
    subst (λ (q : ℕ). EndsFailed b q w) (greatest_is xs) failed

-- ---- how a view ends

-- the view of these sections
pub record IsViewOf (n : ℕ) (xs : List Section) (w : Record) (view : ViewState) : Type 0 where
  pub marks_are : view.marks ≡ marks xs
  pub map_is : view.map ≡ union_of (parts_from n 0 (maps_of (history_of w) xs))

answers : (n : ℕ) (b : Record) (xs : List Section) (w : Record) (view : ViewState) → IsDone n b xs w → IsViewOf n xs w view → AnswersView n b view w
answers n b xs w view d is = record {
  captures = subst (λ (qs : List ℕ). Captures n b qs w) (sym is.marks_are) (captures n b xs w d.all.gains);
  whole = ap length is.marks_are ∙ (how_many xs ∙ d.all.whole);
  map_is = is.map_is
      ∙ (ap (λ (ms : List Map). union_of (parts_from n 0 ms)) (maps_at (history_of w) xs)
      ∙ ap (λ (qs : List ℕ). view_of n (history_of w) qs) (sym is.marks_are));
  durable = subst (λ (qs : List ℕ). EndsDurable b (greatest_of qs) w) (sym is.marks_are) (ends_durable n b xs w d);
}

pub done : (n : ℕ) (b : Record) (xs : List Section) (w : Record) (view : ViewState) → IsDone n b xs w → IsViewOf n xs w view → CompletesView n b (Ok view) w
done n b xs w view d is = record { beside = beside n b xs w d.all.gains; calls = d.all.gains.calls; adds = answers n b xs w view d is }

-- all was captured, but there was no memory for what is made of it
pub too_many : (n : ℕ) (b : Record) (xs : List Section) (w : Record) → IsDone n b xs w → CompletesView n b (Err refusal.NoMemory) w
too_many n b xs w d = record {
  beside = beside n b xs w d.all.gains;
  calls = d.all.gains.calls;
  adds = record { marks = marks xs; captures = captures n b xs w d.all.gains; within = omega (arith, how_many xs, d.all.whole) };
}

starved : (n : ℕ) (b : Record) (xs : List Section) (w : Record) → IsStarved n b xs w → CompletesView n b (Err refusal.NoMemory) w
starved n b xs w k = record {
  beside = beside n b xs w k.gains;
  calls = k.gains.calls;
  adds = record { marks = marks xs; captures = captures n b xs w k.gains; within = omega (arith, how_many xs, k.within) };
}

failed : (n : ℕ) (b : Record) (xs : List Section) (w : Record) → IsFailed n b xs w → CompletesView n b (Err refusal.Failed) w
failed n b xs w k = record {
  beside = beside n b xs w k.all.gains;
  calls = k.all.gains.calls;
  adds = record { marks = marks xs; captures = captures n b xs w k.all.gains; whole = how_many xs ∙ k.all.whole; failed = ends_failed n b xs w k };
}

-- a view that was refused
pub refused : (n : ℕ) (b : Record) (xs : List Section) (e : Refusal) (w : Record) → Refuses n b xs e w → CompletesView n b (Err e) w
refused n b xs refusal.NoMemory w k = starved n b xs w k
refused n b xs refusal.Failed w k = failed n b xs w k
refused n b xs e w k = absurd k

-- a view of all that was copied, or none
adds : (n : ℕ) (b : Record) (zs : List Captured) (xs : List Section) (w : Record) → Shows zs xs → IsDone n b xs w → (result : Result ViewState Refusal) → IfOk result (λ view. view.marks ≡ marks_of zs)
    → IfOk result (λ view. view.map ≡ union_of (parts_from n 0 (maps_of (history_of w) xs))) → IfErr result (λ e. e ≡ refusal.NoMemory) → CompletesView n b result w
adds n b zs xs w s d (Ok view) marked united none = done n b xs w view d (record { marks_are = marked ∙ marks_shown zs xs s; map_is = united })
adds n b zs xs w s d (Err e) marked united none = subst (λ (r : Refusal). CompletesView n b (Err r) w) (sym none) (too_many n b xs w d)

pub completes : (n : ℕ) (b : Record) (zs : List Captured) (w : Record) (d : viewing.IsDone n b zs w) (result : Result ViewState Refusal) → IfOk result (λ view. view.marks ≡ marks_of zs)
    → ((k : ℕ) (ms : List Map) → AreParts k 0 zs ms → IfOk result (λ view. view.map ≡ union_of (parts_from k 0 ms))) → IfErr result (λ e. e ≡ refusal.NoMemory) → CompletesView n b result w
completes n b zs w d result marked united none =
    let v = d.views in
    adds n b zs v.sections w v.shows (record { all = v.all; durable = d.durable }) result marked (united n (maps_of (history_of w) v.sections) (views_are_parts n b w zs v)) none
