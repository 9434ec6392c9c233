-- Rows in which no reply is released keep what a run keeps.
use Rattle.std.proofs.Common.{◌≡◌, ◌≤◌, ℕ, ◌+◌, Bool, true, false, ◌&&◌, nat_le, List, [], ◌∷◌, ◌++◌, length, Option, None, Some, refl, sym, ap, subst, arith}
use Rattle.std.proofs.lemmas.Bool.Decides.{nat_tests}
use Rattle.std.specs.FinMap as finite
use Rattle.std.specs.List.{AllByRecursion}
use Rattle.map_types.specs.declared.commands.Command.{Command}
use Rattle.map_model.specs.Maps.{Map}
use Rattle.map_model.specs.Histories.{fold_to}
use Rattle.ticket_order.specs.declared.record.Call.{Call}
use Rattle.disk_model.specs.Files.{Contents, Files, Leaves}
use Rattle.store_layout.specs.Examples.{a, number}
use Rattle.store_layout.specs.Opening.{Opened, StandsFor}
use Rattle.sim_rules.specs.declared.event.Event.{Event}
use Rattle.sim_rules.specs.declared.event.Event.TheVariants as event
use Rattle.sim_rules.specs.declared.outcome.Outcome.{Outcome}
use Rattle.sim_rules.specs.declared.outcome.Outcome.TheVariants as outcome
use Rattle.sim_rules.specs.Machine.{Move, Calls, Releases, Stops, Opens, whole}
use Rattle.sim_rules.specs.World.{World, Life, count, seen_of}
use Rattle.sim_rules.specs.After.{after}
use Rattle.sim_rules.specs.Runs.{Row, OpensWell, least_of, most_of, move_of_step, staged_in, stopped_in}
use Rattle.sim_rules.specs.Sound.{AnswersLegally, AreAbove, IsSound, IsSoundInside, IsSoundWith, ReleasesLegal, Stays, durable_or, released_by, released_with}
use Rattle.sim_rules.specs.Examples.{AllMeet, after_rows, put_a}
use Rattle.sim_rules.proofs.LifeGoing.{life_goes_on}
use Rattle.sim_rules.proofs.OpeningRun.{none_above}
use Rattle.sim_rules.proofs.StillFiles.{is_still, row_still}
use Rattle.sim_rules.proofs.UnwrittenExample.{onto}

-- ---- rows in which no reply is released

unfoldable pub is_living : Option Life → ℕ → Bool
is_living None most = false
is_living (Some l) most = nat_le l.durable most

unfoldable pub is_quiet : Option Move → Bool
is_quiet (Some (Releases call)) = false
is_quiet move = true

unfoldable pub is_plain : World → Event → Outcome → Bool
is_plain w e (outcome.Stepped m end) = is_quiet (move_of_step w e m end)
is_plain w e x = true

pub first_true : (a b : Bool) → a && b ≡ true → a ≡ true
first_true true b is = refl
first_true false b is = is

pub second_true : (a b : Bool) → a && b ≡ true → b ≡ true
second_true a b is = grind (arith, nat_tests)

IsFalse : Bool → Type 0
IsFalse false = Unit {0}
IsFalse true = ⊥

pub not_both : false ≡ true → ⊥
unfolding IsFalse
not_both is = subst IsFalse is tt

pub living_life : (life : Option Life) (most : ℕ) → is_living life most ≡ true → (l : Life) × (life ≡ Some l) × (l.durable ≤ most)
unfolding is_living
living_life None most is = absurd (not_both is)
living_life (Some l) most is = (l, refl, (let low : l.durable ≤ most = grind (arith, nat_tests) in low))

quiet_releases : (history : List Command) (move : Option Move) (released : List Call) → is_quiet move ≡ true → ReleasesLegal history move × (released_with move released ≡ released)
unfolding is_quiet
quiet_releases history None released is = (tt, refl)
quiet_releases history (Some (Calls c)) released is = (tt, refl)
quiet_releases history (Some (Releases call)) released is = absurd (not_both is)
quiet_releases history (Some (Stops p)) released is = (tt, refl)
quiet_releases history (Some (Opens p m)) released is = (tt, refl)

plain_answers : (w : World) (e : Event) (x : Outcome) (released : List Call) → is_plain w e x ≡ true → AnswersLegally w e x × (released_by w e x released ≡ released)
unfolding is_plain
plain_answers w e (outcome.Stepped m end) released is = quiet_releases w.history (move_of_step w e m end) released is
plain_answers w e x released is = (tt, refl)

-- What the files stand for now, in a life.
pub record Now (w : World) (durable : ℕ) : Type 0 where
  pub left : (contents : Contents) → Leaves w.files contents → AreAbove w durable contents
  pub read : AreAbove w durable (seen_of w.files)

unfoldable pub durable_in : Option Life → ℕ
durable_in None = 0
durable_in (Some l) = l.durable

-- after each row
unfoldable pub AllNow : Opened → World → List Row → Type 0
AllNow found w [] = Unit {0}
AllNow found w (row ∷ rows) = Now (after w found row.0 row.1) (durable_in (after w found row.0 row.1).life) × AllNow found (after w found row.0 row.1) rows

pub all_now_on : (found : Opened) (first second : List Row) (w : World) → AllNow found w first → AllNow found (after_rows found w first) second → AllNow found w (first ++ second)
unfolding AllNow
all_now_on found [] second w one other = other
all_now_on found (row ∷ first) second w one other = (one.0, all_now_on found first second (after w found row.0 row.1) one.1 other)

-- no row of these is a stop
unfoldable pub no_stop : Event → Bool
no_stop (event.Stop within fill) = false
no_stop e = true

not_stopped : (e : Event) (x : Outcome) (files : Files) → no_stop e ≡ true → stopped_in (e, x) files ≡ files
unfolding no_stop
not_stopped (event.Stop within fill) x files is = absurd (not_both is)
not_stopped e x files is = refl

-- ---- rows that leave the files, before anything is committed

unfoldable pub is_new : Option Life → Bool
is_new None = false
is_new (Some l) = nat_le l.committed 0 && nat_le l.durable 0

unfoldable pub are_new : Opened → World → List Row → Bool
are_new found w [] = true
are_new found w (row ∷ rows) = is_still row.0 && (is_new (after w found row.0 row.1).life && are_new found (after w found row.0 row.1) rows)

new_life : (life : Option Life) → is_new life ≡ true → (least_of life ≡ 0) × (durable_in life ≡ 0)
unfolding is_new durable_in
new_life None is = absurd (not_both is)
new_life (Some l) is =
    let low : l.committed ≤ 0 = grind (arith, nat_tests, first_true (nat_le l.committed 0) (nat_le l.durable 0) is) in
    let durable : l.durable ≤ 0 = grind (arith, nat_tests, second_true (nat_le l.committed 0) (nat_le l.durable 0) is) in
    (omega (arith, low), omega (arith, durable))

-- the files stand for nothing, whatever a stop leaves of them
pub record StandForNone (files : Files) : Type 0 where
  pub left : (contents : Contents) → Leaves files contents → StandsFor contents 0 finite.empty
  pub read : StandsFor (seen_of files) 0 finite.empty

pub none_now : (w : World) (contents : Contents) → is_new w.life ≡ true → StandsFor contents 0 finite.empty → AreAbove w (durable_in w.life) contents
none_now w contents is stands =
    let low = new_life w.life is in
    subst (λ (n : ℕ). AreAbove w n contents) (sym low.1) (none_above w contents low.0 stands)

pub now_new : (w : World) → is_new w.life ≡ true → StandForNone w.files → Now w (durable_in w.life)
now_new w is none = record { left = λ contents leaves. none_now w contents is (none.left contents leaves); read = none_now w (seen_of w.files) is none.read }

pub all_new : (found : Opened) (rows : List Row) (w : World) → StandForNone w.files → are_new found w rows ≡ true → AllNow found w rows
unfolding are_new AllNow
all_new found [] w none is = tt
all_new found (row ∷ rows) w none is =
    let w' : World = after w found row.0 row.1 in
    let still = first_true (is_still row.0) (is_new w'.life && are_new found w' rows) is in
    let others = second_true (is_still row.0) (is_new w'.life && are_new found w' rows) is in
    let none' : StandForNone w'.files = subst StandForNone (sym (row_still w found row.0 row.1 still)) none in
    (now_new w' (first_true (is_new w'.life) (are_new found w' rows) others) none', all_new found rows w' none' (second_true (is_new w'.life) (are_new found w' rows) others))

-- ---- once the change stands

-- what becomes of the empty map by it
abbrev pub with_five : Map
with_five = finite.from_entries ((a, number 5) ∷ [])

unfoldable pub is_late : Option Life → Bool
is_late None = false
is_late (Some l) = nat_le l.committed 1 && (nat_le l.durable 1 && nat_le 1 (l.committed + staged_in l.log))

-- contents that stand for the change are a front of a history that has it alone
five_above : (w : World) (durable : ℕ) (contents : Contents) → w.history ≡ put_a ∷ [] → durable ≤ 1 → least_of w.life ≤ 1 → 1 ≤ most_of w.history w.life → StandsFor contents 1 with_five → AreAbove w durable contents
five_above w durable contents history low least most stands = record {
  front = record {
    count = 1;
    stands = subst (λ (h : List Command). StandsFor contents 1 (fold_to (whole h) 1)) (sym history) stands;
    from_first = omega arith;
    within = omega (arith, ap (λ (h : List Command). length h) history);
    from_least = least;
    to_most = most;
  };
  above = low;
}

late_life : (history : List Command) (life : Option Life) → is_late life ≡ true → (durable_in life ≤ 1) × (least_of life ≤ 1) × (1 ≤ most_of history life)
unfolding is_late durable_in
late_life history None is = absurd (not_both is)
late_life history (Some l) is =
    let rest = nat_le l.durable 1 && nat_le 1 (l.committed + staged_in l.log) in
    let low : l.committed ≤ 1 = grind (arith, nat_tests, first_true (nat_le l.committed 1) rest is) in
    let others = second_true (nat_le l.committed 1) rest is in
    let durable : l.durable ≤ 1 = grind (arith, nat_tests, first_true (nat_le l.durable 1) (nat_le 1 (l.committed + staged_in l.log)) others) in
    let most : 1 ≤ l.committed + staged_in l.log = grind (arith, nat_tests, second_true (nat_le l.durable 1) (nat_le 1 (l.committed + staged_in l.log)) others) in
    (durable, low, most)

-- the files stand for the change, whatever a stop leaves of them
pub record StandForFive (files : Files) : Type 0 where
  pub left : (contents : Contents) → Leaves files contents → StandsFor contents 1 with_five
  pub read : StandsFor (seen_of files) 1 with_five

pub five_now : (w : World) (contents : Contents) → w.history ≡ put_a ∷ [] → is_late w.life ≡ true → StandsFor contents 1 with_five → AreAbove w (durable_in w.life) contents
five_now w contents history is stands =
    let late = late_life w.history w.life is in
    five_above w (durable_in w.life) contents history late.0 late.1 late.2 stands

pub now_late : (w : World) → w.history ≡ put_a ∷ [] → is_late w.life ≡ true → StandForFive w.files → Now w (durable_in w.life)
now_late w history is five = record { left = λ contents leaves. five_now w contents history is (five.left contents leaves); read = five_now w (seen_of w.files) history is five.read }

-- ---- what was kept before plain rows is kept behind them

unfoldable pub are_plain : Opened → World → List Row → Bool
are_plain found w [] = true
are_plain found w (row ∷ rows) =
    is_living w.life (count w) && (no_stop row.0 && (is_plain w row.0 row.1 && (is_living (after w found row.0 row.1).life (count (after w found row.0 row.1)) && are_plain found (after w found row.0 row.1) rows)))

same_durable : (life : Option Life) (least most : ℕ) → is_living life most ≡ true → durable_in life ≡ durable_or life least
unfolding is_living durable_in
same_durable None least most is = absurd (not_both is)
same_durable (Some l) least most is = refl

pub rows_keep : (from : World) (found : Opened) (rows before : List Row) (w : World) (least : ℕ) (released : List Call) → IsSound from before w least released → Now w (durable_in w.life) → AllMeet found w rows → AllNow found w rows
    → are_plain found w rows ≡ true → (most : ℕ) × IsSound from (onto before rows) (after_rows found w rows) most released
unfolding are_plain onto AllNow durable_in
rows_keep from found [] before w least released sound now meets all plain = (least, sound)
rows_keep from found (row ∷ rows) before w least released sound now meets all plain =
    let w' : World = after w found row.0 row.1 in
    let rest1 = is_plain w row.0 row.1 && (is_living w'.life (count w') && are_plain found w' rows) in
    let life = living_life w.life (count w) (first_true (is_living w.life (count w)) (no_stop row.0 && rest1) plain) in
    let others = second_true (is_living w.life (count w)) (no_stop row.0 && rest1) plain in
    let unstopped = first_true (no_stop row.0) rest1 others in
    let quiet = second_true (no_stop row.0) rest1 others in
    let answers = plain_answers w row.0 row.1 released (first_true (is_plain w row.0 row.1) (is_living w'.life (count w') && are_plain found w' rows) quiet) in
    let last = second_true (is_plain w row.0 row.1) (is_living w'.life (count w') && are_plain found w' rows) quiet in
    let lives = first_true (is_living w'.life (count w')) (are_plain found w' rows) last in
    let inside : IsSoundInside from before w life.0.durable released = subst (λ (y : Option Life). IsSoundWith y from before w least released) life.1 sound in
    let then : Now w' (durable_or w'.life life.0.durable) = subst (λ (n : ℕ). Now w' n) (same_durable w'.life life.0.durable (count w') lives) all.0 in
    let here : Now w life.0.durable = subst (λ (y : Option Life). Now w (durable_in y)) life.1 now in
    let stays : Stays w life.0.durable row w' (durable_or w'.life life.0.durable) = record {
      within = λ contents leaves. here.left contents (subst (λ (f : Files). Leaves f contents) (not_stopped row.0 row.1 w.files unstopped) leaves);
      left = then.left;
      read = then.read;
    } in
    rows_keep from found rows (row ∷ before) w' life.0.durable released
    (subst (λ (calls : List Call). IsSound from (row ∷ before) w' life.0.durable calls) answers.1
    (life_goes_on from before w life.0 released life.0.durable row.0 row.1 w' life.1 inside (record { found = found; meets = meets.0; world = refl }) stays answers.0 (omega arith) life.2))
    all.0 meets.1 all.1 (second_true (is_living w'.life (count w')) (are_plain found w' rows) last)

-- ---- the events and the outcomes of rows

unfoldable pub is_unrefused : Outcome → Bool
is_unrefused (outcome.NotOpened calls reason) = false
is_unrefused x = true

unfoldable pub are_unrefused : List Row → Bool
are_unrefused [] = true
are_unrefused (row ∷ rows) = is_unrefused row.1 && are_unrefused rows

opens_well : (e : Event) (x : Outcome) → is_unrefused x ≡ true → OpensWell (e, x)
unfolding is_unrefused
opens_well (event.Open stripes fails_at) (outcome.NotOpened calls reason) is = absurd (not_both is)
opens_well e x is = tt

pub all_open_well : (rows : List Row) → are_unrefused rows ≡ true → AllByRecursion OpensWell rows
unfolding are_unrefused
all_open_well [] is = tt
all_open_well (row ∷ rows) is = (opens_well row.0 row.1 (first_true (is_unrefused row.1) (are_unrefused rows) is), all_open_well rows (second_true (is_unrefused row.1) (are_unrefused rows) is))
