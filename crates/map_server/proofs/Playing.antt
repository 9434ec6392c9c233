-- A script is played again where steps are taken back, and each time it has fewer events that may fit.
use Rattle.std.proofs.Common.{◌≡◌, ◌<◌, ◌≤◌, ◌+◌, ◌⊎◌, ℕ, zero, suc, Bool, true, false, cond, ◌&&◌, List, [], ◌∷◌, length, take, drop, Option, Some, None, refl, sym, ap, ◌∙◌, subst, inl, inr, ⊎_elim, arith}
use Rattle.std.specs.Prelude.{slice_get, if◌then◌else◌, is_some, MatchBool}
use Rattle.std.specs.List.{AllByRecursion, fold}
use Rattle.std.proofs.lemmas.Bool.{cases_lt, false≢true}
use Rattle.std.proofs.lemmas.Option.{none-some, same_Some, slice_get_past, slice_get_within}
use Rattle.sim_rules.specs.declared.event.Event.{Event}
use Rattle.sim_rules.specs.declared.event.Event.TheVariants as event
use Rattle.sim_rules.specs.declared.outcome.Outcome.{Outcome}
use Rattle.sim_rules.specs.declared.outcome.Outcome.TheVariants as outcome
use Rattle.sim_rules.specs.Cases.{HappensWith}
use Rattle.sim_rules.specs.Fitting.{fits_inside, fits_outside, fits_with, is_worker}
use Rattle.sim_rules.specs.Machine.{Machine}
use Rattle.sim_rules.specs.Runs.{Happens, IsRun, IsRunFrom, LeadsTo, Row, rows_of, rows_onto}
use Rattle.sim_rules.specs.World.{Life, World, is_walking, job_of, old_start, start}
use Rattle.sim_rules.proofs.RunLaws.{runs_begin}
use Rattle.sim_script.specs.declared.line.Form.{Form}
use Rattle.sim_script.specs.declared.script.Span.{Span}
use Rattle.sim_script.specs.Spans.{IsTakenBack, TakesBack, behind_line, is_release, is_skipped, is_stray, of_line, or_later, stray_steps, told_by}

-- ---- how many events may fit

-- an event that isn't a step of a worker that there isn't
abbrev pub may_fit : Event → Bool
may_fit (event.Step worker) = is_worker worker
may_fit e = true

-- how many there are
abbrev pub left : List Event → ℕ
left [] = 0
left (e ∷ events) = cond (may_fit e) (1 + left events) (left events)

Same : List Event → List Event → ℕ → Type 0
Same old new place = (slice_get new place ≡ slice_get old place) ⊎ (slice_get new place ≡ Some (event.Step 64))

grown : (b : Bool) (m n : ℕ) → m ≤ n → cond b (1 + m) m ≤ cond b (1 + n) n
grown true m n l = omega (arith, l)
grown false m n l = l

more_by : (b : Bool) (m n : ℕ) → m ≤ n → m ≤ cond b (1 + n) n
more_by true m n l = omega (arith, l)
more_by false m n l = l

one : (e f : Event) (m n : ℕ) → (Some f ≡ Some e) ⊎ (Some f ≡ Some (event.Step 64)) → m ≤ n → cond (may_fit f) (1 + m) m ≤ cond (may_fit e) (1 + n) n
one e f m n (inl same) l = subst (λ x. cond (may_fit x) (1 + m) m ≤ cond (may_fit e) (1 + n) n) (sym (same_Some f e same)) (grown (may_fit e) m n l)
one e f m n (inr nobody) l =
    subst (λ x. cond (may_fit x) (1 + m) m ≤ cond (may_fit e) (1 + n) n) (sym (same_Some f (event.Step 64) nobody)) (more_by (may_fit e) m n l)

no_more : (old new : List Event) → length new ≡ length old → ((place : ℕ) → Same old new place) → left new ≤ left old
unfolding Same
no_more [] [] same each = omega arith
no_more [] (f ∷ new) same each = absurd (omega (arith, same))
no_more (e ∷ old) [] same each = absurd (omega (arith, same))
no_more (e ∷ old) (f ∷ new) same each = one e f (left new) (left old) (each 0) (no_more old new (omega (arith, same)) (λ place. each (suc place)))

less : (b : Bool) (m n : ℕ) → b ≡ true → m ≤ n → m < cond b (1 + n) n
less true m n is l = omega (arith, l)
less false m n is l = absurd (false≢true is)

less_behind : (b c : Bool) (m n : ℕ) → cond b (1 + m) m ≤ cond c (1 + m) m → m < n → cond b (1 + m) m < cond c (1 + n) n
less_behind true true m n l h = omega (arith, h)
less_behind true false m n l h = absurd (omega (arith, l))
less_behind false true m n l h = omega (arith, h)
less_behind false false m n l h = h

-- one of them is taken back
fewer : (old new : List Event) (place : ℕ) (e : Event) → length new ≡ length old → ((i : ℕ) → Same old new i)
    → slice_get old place ≡ Some e → may_fit e ≡ true → slice_get new place ≡ Some (event.Step 64) → left new < left old
unfolding Same
fewer [] new place e same each was fit is = absurd (none-some e was)
fewer (d ∷ old) [] place e same each was fit is = absurd (omega (arith, same))
fewer (d ∷ old) (f ∷ new) zero e same each was fit is =
    let fit' : may_fit d ≡ true = ap may_fit (same_Some d e was) ∙ fit in
    subst (λ x. cond (may_fit x) (1 + left new) (left new) < cond (may_fit d) (1 + left old) (left old)) (sym (same_Some f (event.Step 64) is))
    (less (may_fit d) (left new) (left old) fit' (no_more old new (omega (arith, same)) (λ i. each (suc i))))
fewer (d ∷ old) (f ∷ new) (suc place) e same each was fit is =
    less_behind (may_fit f) (may_fit d) (left new) (left old) (one d f (left new) (left new) (each 0) (omega arith))
    (fewer old new place e (omega (arith, same)) (λ i. each (suc i)) was fit is)

-- ---- a step of a worker that there isn't is skipped

not_outside : (e : Event) → may_fit e ≡ false → fits_outside e ≡ false
not_outside (event.Step worker) unfit = refl
not_outside e unfit = absurd (false≢true (sym unfit))

not_inside : (l : Life) (e : Event) → may_fit e ≡ false → fits_inside l e ≡ false
not_inside l (event.Step worker) unfit = subst (λ b. (b && is_walking (job_of l worker)) ≡ false) (sym unfit) refl
not_inside l e unfit = absurd (false≢true (sym unfit))

not_fitting : (life : Option Life) (e : Event) → may_fit e ≡ false → fits_with life e ≡ false
not_fitting None e unfit = not_outside e unfit
not_fitting (Some l) e unfit = not_inside l e unfit

abbrev SkipsNobody : Row → Type 0
SkipsNobody row = may_fit row.0 ≡ false → is_skipped row.1 ≡ true

skips_nobody : (w w' : World) (row : Row) → Happens w row w' → SkipsNobody row
skips_nobody w w' row happens unfit =
    ap is_skipped
    (subst (λ b. MatchBool b (HappensWith w w.life happens.found row.0 row.1) (row.1 ≡ outcome.Skipped)) (not_fitting w.life row.0 unfit) happens.meets)

all_skip : (from : World) (rows : List Row) (w : World) (a : Machine) → LeadsTo from rows w a → AllByRecursion SkipsNobody rows
unfolding LeadsTo
all_skip from [] w a leads = tt
all_skip from (row ∷ rows) w a (w0, a0, leads, happens, moves, keeps) = (skips_nobody w0 w row happens, all_skip from rows w0 a0 leads)

all_before : (rows : List Row) (events : List Event) (outcomes : List Outcome) → AllByRecursion SkipsNobody (rows_onto rows events outcomes) → AllByRecursion SkipsNobody rows
unfolding rows_onto
all_before rows [] outcomes all = all
all_before rows (e ∷ events) [] all = all
all_before rows (e ∷ events) (x ∷ outcomes) all = (all_before ((e, x) ∷ rows) events outcomes all).1

row_at : (rows : List Row) (events : List Event) (outcomes : List Outcome) (place : ℕ) (x : Outcome) → length outcomes ≡ length events
    → AllByRecursion SkipsNobody (rows_onto rows events outcomes) → slice_get outcomes place ≡ Some x → (e : Event) × (slice_get events place ≡ Some e) × SkipsNobody (e, x)
unfolding rows_onto
row_at rows [] [] place x same all is = absurd (none-some x is)
row_at rows [] (y ∷ outcomes) place x same all is = absurd (omega (arith, same))
row_at rows (e ∷ events) [] place x same all is = absurd (none-some x is)
row_at rows (e ∷ events) (y ∷ outcomes) zero x same all is = (e, refl, subst (λ z. SkipsNobody (e, z)) (same_Some y x is) (all_before ((e, y) ∷ rows) events outcomes all).0)
row_at rows (e ∷ events) (y ∷ outcomes) (suc place) x same all is = row_at ((e, y) ∷ rows) events outcomes place x (omega (arith, same)) all is

yes_else : (b skipped : Bool) → (b ≡ false → skipped ≡ true) → skipped ≡ false → b ≡ true
yes_else true skipped h unfit = refl
yes_else false skipped h unfit = absurd (false≢true (sym unfit ∙ h refl))

-- the event at this place may fit
abbrev MayFitAt : List Event → ℕ → Type 0
MayFitAt events place = (e : Event) × (slice_get events place ≡ Some e) × (may_fit e ≡ true)

-- an event whose outcome isn't skipped may fit
fitted_from : (from : World) (events : List Event) (outcomes : List Outcome) → IsRunFrom from events outcomes → (place : ℕ) (x : Outcome) → slice_get outcomes place ≡ Some x → is_skipped x ≡ false
    → MayFitAt events place
fitted_from from events outcomes run place x is made =
    let row = row_at [] events outcomes place x run.one_each (all_skip from (rows_of events outcomes) run.world run.machine run.leads) is in
    (row.0, row.1, yes_else (may_fit row.0) (is_skipped x) row.2 made)

-- and so may an Old before them
behind_old : (events : List Event) (outcomes : List Outcome) → IsRunFrom old_start events outcomes → (place : ℕ) (x : Outcome) → slice_get (outcome.Old ∷ outcomes) place ≡ Some x → is_skipped x ≡ false
    → MayFitAt (event.Old ∷ events) place
behind_old events outcomes run zero x is made = (event.Old, refl, refl)
behind_old events outcomes run (suc place) x is made = fitted_from old_start events outcomes run place x is made

fitted_by : (events : List Event) (outcomes : List Outcome) → IsRunFrom start events outcomes
    ⊎ ((more : List Event) × (others : List Outcome) × (events ≡ event.Old ∷ more) × (outcomes ≡ outcome.Old ∷ others) × IsRunFrom old_start more others)
    → (place : ℕ) (x : Outcome) → slice_get outcomes place ≡ Some x → is_skipped x ≡ false → MayFitAt events place
fitted_by events outcomes (inl run) place x is made = fitted_from start events outcomes run place x is made
fitted_by events outcomes (inr (more, others, same, told, run)) place x is made =
    subst (λ es. MayFitAt es place) (sym same) (behind_old more others run place x (subst (λ xs. slice_get xs place ≡ Some x) told is) made)

fitted : (events : List Event) (outcomes : List Outcome) → IsRun events outcomes → (place : ℕ) (x : Outcome) → slice_get outcomes place ≡ Some x → is_skipped x ≡ false → MayFitAt events place
fitted events outcomes run place x is made = fitted_by events outcomes (runs_begin events outcomes run) place x is made

-- ---- of a stray release some step isn't skipped

abbrev Made : List Outcome → ℕ → Type 0
Made outcomes place = (x : Outcome) × (slice_get outcomes place ≡ Some x) × (is_skipped x ≡ false)

told_first : (x : Outcome) (outcomes : List Outcome) (before : Option Outcome) (skipped : Bool) → is_skipped x ≡ skipped
    → (is_some (or_later before x) ≡ true) ⊎ ((place : ℕ) × Made outcomes place) → (is_some before ≡ true) ⊎ ((place : ℕ) × Made (x ∷ outcomes) place)
told_first x outcomes before true is (inl some) = inl (subst (λ b. is_some (if b then before else Some x) ≡ true) is some)
told_first x outcomes before false is (inl some) = inr (0, (x, refl, is))
told_first x outcomes before skipped is (inr made) = inr (suc made.0, made.1)

told : (outcomes : List Outcome) (before : Option Outcome) → is_some (fold or_later before outcomes) ≡ true → (is_some before ≡ true) ⊎ ((place : ℕ) × Made outcomes place)
told [] before some = inl some
told (x ∷ outcomes) before some = told_first x outcomes before (is_skipped x) refl (told outcomes (or_later before x) some)

both : (a b : Bool) → (a && b) ≡ true → (a ≡ true) × (b ≡ true)
both true b h = (refl, h)
both false b h = absurd (false≢true h)

behind_skipped : (x : Outcome) (outcomes : List Outcome) → is_skipped x ≡ true → (is_some (or_later None x) ≡ true) ⊎ ((place : ℕ) × Made outcomes place) → (place : ℕ) × Made outcomes place
behind_skipped x outcomes is (inl some) = absurd (false≢true (subst (λ b. is_some (if b then None else Some x) ≡ true) is some))
behind_skipped x outcomes is (inr made) = made

stray_line : (form : Form) (outcomes : List Outcome) → is_stray form outcomes ≡ true → (place : ℕ) × Made outcomes (suc place)
stray_line form [] h = absurd (false≢true (both false false (both (is_release form) false h).1).0)
stray_line form (x ∷ outcomes) h =
    let parts = both (is_skipped x) (is_some (told_by (x ∷ outcomes))) (both (is_release form) (is_skipped x && is_some (told_by (x ∷ outcomes))) h).1 in
    behind_skipped x outcomes parts.0 (told outcomes (or_later None x) parts.1)

in_front : (n : ℕ) (outcomes : List Outcome) (place : ℕ) (x : Outcome) → slice_get (take n outcomes) place ≡ Some x → slice_get outcomes place ≡ Some x
in_front zero outcomes place x is = absurd (none-some x is)
in_front (suc n) [] place x is = is
in_front (suc n) (y ∷ outcomes) zero x is = is
in_front (suc n) (y ∷ outcomes) (suc place) x is = in_front n outcomes place x is

behind_front : (n : ℕ) (outcomes : List Outcome) (place : ℕ) (x : Outcome) (j : ℕ) → slice_get (drop n outcomes) place ≡ Some x → j ≡ length (take n outcomes) + place → slice_get outcomes j ≡ Some x
behind_front zero outcomes place x j is e = let at : place ≡ j = omega (arith, e) in subst (λ i. slice_get outcomes i ≡ Some x) at is
behind_front (suc n) [] place x j is e = absurd (none-some x is)
behind_front (suc n) (y ∷ outcomes) place x j is e =
    let at : suc (length (take n outcomes) + place) ≡ j = omega (arith, e) in
    subst (λ i. slice_get (y ∷ outcomes) i ≡ Some x) at (behind_front n outcomes place x (length (take n outcomes) + place) is refl)

-- one that isn't skipped, from the one place up to the other
record MadeBetween (steps : ℕ × ℕ) (at : ℕ) (outcomes : List Outcome) : Type 0 where
  place : ℕ
  made : Made outcomes place
  from : steps.0 ≤ at + place
  to : at + place < steps.1

either : (at : ℕ) (span : Span) (outcomes : List Outcome) (others : Option (ℕ × ℕ)) (steps : ℕ × ℕ)
    → (others ≡ Some steps → MadeBetween steps (at + length (of_line span outcomes)) (behind_line span outcomes)) → (b : Bool) → is_stray span.form (of_line span outcomes) ≡ b
    → (if b then Some (at + 1, at + length (of_line span outcomes)) else others) ≡ Some steps → MadeBetween steps at outcomes
either at span outcomes others steps rest true is h =
    let found = stray_line span.form (of_line span outcomes) is in
    let x = found.1.0 in
    let within : suc found.0 < length (of_line span outcomes) = slice_get_within (of_line span outcomes) (suc found.0) x found.1.1 in
    let same : (at + 1, at + length (of_line span outcomes)) ≡ steps = same_Some _ _ h in
    record {
      place = suc found.0;
      made = (x, in_front span.events outcomes (suc found.0) x found.1.1, found.1.2);
      from = subst (λ (s : ℕ × ℕ). s.0 ≤ at + suc found.0) same (omega arith);
      to = subst (λ (s : ℕ × ℕ). at + suc found.0 < s.1) same (omega (arith, within));
    }
either at span outcomes others steps rest false is h =
    let found = rest h in
    record {
      place = length (of_line span outcomes) + found.place;
      made = (found.made.0, behind_front span.events outcomes found.place found.made.0 _ found.made.1 refl, found.made.2);
      from = omega (arith, found.from);
      to = omega (arith, found.to);
    }

stray_made : (at : ℕ) (spans : List Span) (outcomes : List Outcome) (steps : ℕ × ℕ) → stray_steps at spans outcomes ≡ Some steps → MadeBetween steps at outcomes
stray_made at [] outcomes steps h = absurd (none-some steps h)
stray_made at (span ∷ spans) outcomes steps h =
    either at span outcomes _ steps (stray_made (at + length (of_line span outcomes)) spans (behind_line span outcomes) steps) _ refl h

-- ---- what is taken back, and when nothing is

same_at : (first behind : ℕ) (old new : List Event) → IsTakenBack first behind old new → (place : ℕ) → Same old new place
unfolding Same
same_at first behind old new t place =
    let past_end : length old ≤ place → Same old new place =
    λ past. inl (slice_get_past new place (omega (arith, past, t.count)) ∙ sym (slice_get_past old place past)) in
    let between : first ≤ place → place < behind → Same old new place =
    λ low high. ⊎_elim (λ within. inr (t.nobody place low high within)) past_end (cases_lt place (length old)) in
    ⊎_elim (λ low. inl (t.before place low)) (λ high. ⊎_elim (between high) (λ past. inl (t.after place past)) (cases_lt place behind)) (cases_lt place first)

fewer_left : (spans : List Span) (events next : List Event) (outcomes : List Outcome) → IsRun events outcomes
    → (found : Option (ℕ × ℕ)) → stray_steps 0 spans outcomes ≡ found → TakesBack found events next true → left next < left events
fewer_left spans events next outcomes run None is t = absurd (false≢true (sym t.0))
fewer_left spans events next outcomes run (Some steps) is t =
    let found = stray_made 0 spans outcomes steps is in
    let was = fitted events outcomes run found.place found.made.0 found.made.1 found.made.2 in
    let nobody = t.1.nobody found.place (omega (arith, found.from)) (omega (arith, found.to)) (slice_get_within events found.place was.0 was.1) in
    fewer events next found.place was.0 t.1.count (same_at steps.0 steps.1 events next t.1) was.1 was.2 nobody

-- what was taken back, by the outcomes that were looked at
pub shown_by : (spans spans' : List Span) (looked outcomes : List Outcome) (old new : List Event) (is_taken : Bool) → spans ≡ spans' → looked ≡ outcomes
    → TakesBack (stray_steps 0 spans looked) old new is_taken → TakesBack (stray_steps 0 spans' outcomes) old new is_taken
shown_by spans spans' looked outcomes old new is_taken same seen t =
    subst (λ o. TakesBack (stray_steps 0 spans' o) old new is_taken) seen (subst (λ ss. TakesBack (stray_steps 0 ss looked) old new is_taken) same t)

-- fewer events are left that may fit
pub taken : (spans : List Span) (events next : List Event) (outcomes : List Outcome) → IsRun events outcomes → TakesBack (stray_steps 0 spans outcomes) events next true
    → left next < left events
taken spans events next outcomes run t = fewer_left spans events next outcomes run (stray_steps 0 spans outcomes) refl t

pub not_taken : (found : Option (ℕ × ℕ)) (old new : List Event) → TakesBack found old new false → found ≡ None
not_taken None old new t = refl
not_taken (Some steps) old new t = absurd (false≢true t.0)
