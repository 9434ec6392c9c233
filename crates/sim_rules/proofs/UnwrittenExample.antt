-- A commit of which nothing is written is no run.
use Rattle.std.proofs.Common.{◌≡◌, ℕ, ◌+◌, if◌then◌else◌, Bool, true, false, List, [], ◌∷◌, ◌++◌, map, Option, None, Some, refl, ap, ◌∙◌, subst, arith}
use Rattle.std.specs.FinMap as finite
use Rattle.std.specs.Global.{Vec}
use Rattle.std.specs.Str.{chars}
use Rattle.java_hash.specs.declared.stripe_count.StripeCount.{StripeCount}
use Rattle.java_hash.specs.Hash.{hash_of, weighted_sum}
use Rattle.java_hash.specs.Stripes.{stripe_of}
use Rattle.java_hash.specs.Units.{units_of}
use Rattle.map_model.specs.Histories.{fold_to}
use Rattle.store_layout.specs.Logs.{frame, header, new_version}
use Rattle.store_layout.specs.Opening.{Opened, StandsFor, prefix_of}
use Rattle.store_layout.specs.OpeningLaws.{FirstIsWhole, FirstStands, OneStanding}
use Rattle.sim_rules.specs.declared.event.Event.{Event}
use Rattle.sim_rules.specs.declared.event.Event.TheVariants as event
use Rattle.sim_rules.specs.declared.outcome.MapEntry.{MapEntry}
use Rattle.sim_rules.specs.declared.outcome.Outcome.{Outcome}
use Rattle.sim_rules.specs.declared.outcome.Outcome.TheVariants as outcome
use Rattle.sim_rules.specs.Machine.{Machine, whole}
use Rattle.sim_rules.specs.World.{World, Life, begun_by, seen_of, start}
use Rattle.sim_rules.specs.After.{after, after_with, synced_below}
use Rattle.sim_rules.specs.Runs.{AreKept, Row, LeadsTo, least_of, rows_onto}
use Rattle.sim_rules.specs.Examples.{UnwrittenIsNoRun, after_rows, new_store, opened_rows, staged_rows, unwritten_rows}
use Rattle.sim_rules.proofs.FileLaws.{first_closed, first_sealed}

-- ---- rows that lead back

is_opening : Event → Bool
is_opening (event.Open stripes fails_at) = true
is_opening e = false

none_opens : List Row → Bool
none_opens [] = true
none_opens (row ∷ rows) = if is_opening row.0 then false else none_opens rows

-- behind these rows, the newest first
unfoldable pub onto : List Row → List Row → List Row
onto before [] = before
onto before (row ∷ rows) = onto (row ∷ before) rows

pub rows_again : (rows before : List Row) → rows_onto before (map (λ (row : Row). row.0) rows) (map (λ (row : Row). row.1) rows) ≡ onto before rows
unfolding rows_onto onto
rows_again [] before = refl
rows_again (row ∷ rows) before = rows_again rows (row ∷ before)

-- what an opening found decides its own row alone
with_any : (w : World) (life : Option Life) (found other : Opened) (e : Event) (x : Outcome) → is_opening e ≡ false → after_with w life found e x ≡ after_with w life other e x
unfolding is_opening
with_any w (Some l) found other e x is = refl
with_any w None found other (event.Open stripes fails_at) x is = absurd (let no : true ≡ false = is in cc)
with_any w None found other e x is = refl

same_after : (w : World) (found other : Opened) (e : Event) (x : Outcome) → is_opening e ≡ false → after w found e x ≡ after w other e x
unfolding after
same_after w found other e outcome.Skipped is = refl
same_after w found other e x is = with_any w w.life found other e x is

-- The rows before lead to a world from which these rows come to the last one.
record LeadsBack (from : World) (before rows : List Row) (w : World) : Type 0 where
  world : World
  machine : Machine
  leads : LeadsTo from before world machine
  comes : w ≡ after_rows new_store world rows

not_opening : (b c : Bool) → (if b then false else c) ≡ true → (b ≡ false) × (c ≡ true)
not_opening true c is = absurd (let no : false ≡ true = is in cc)
not_opening false c is = (refl, is)

leads_back : (from : World) (rows before : List Row) (w : World) (a : Machine) → none_opens rows ≡ true → LeadsTo from (onto before rows) w a → LeadsBack from before rows w
unfolding onto none_opens LeadsTo
leads_back from [] before w a none leads = record { world = w; machine = a; leads = leads; comes = refl }
leads_back from (row ∷ rows) before w a none leads =
    let first = not_opening (is_opening row.0) (none_opens rows) none in
    let back = leads_back from rows (row ∷ before) w a first.1 leads in
    let last = back.leads in
    record {
      world = last.0;
      machine = last.1;
      leads = last.2;
      comes = back.comes ∙ ap (λ (v : World). after_rows new_store v rows) (last.3.world ∙ same_after last.0 last.3.found new_store row.0 row.1 first.0);
    }

-- what is read at the end is kept
kept : (from : World) (rows : List Row) (row : Row) (w : World) (a : Machine) → LeadsTo from (row ∷ rows) w a → AreKept w a (seen_of w.files)
unfolding LeadsTo
kept from rows row w a leads = leads.5.read

-- ---- the example

opened_with : ℕ → Opened → World
opened_with stripes found = record { files = synced_below 4 start.files; history = []; life = Some (begun_by stripes (seen_of start.files) found) }

at_end : ℕ → Opened → World
at_end stripes found = after_rows new_store (opened_with stripes found) (staged_rows ++ unwritten_rows)

-- one command more is committed than the opening found
one_committed : (stripes : ℕ) (found : Opened) → least_of (at_end stripes found).life ≡ prefix_of found + 1
unfolding at_end opened_with after begun_by start stripe_of hash_of weighted_sum units_of chars frame header
one_committed stripes found = refl

module _ (whole_laws : FirstIsWhole) (stands : FirstStands) (one : OneStanding) where
  none_written : (stripes : ℕ) (found : Opened) → StandsFor (seen_of (at_end stripes found).files) 0 finite.empty
  unfolding at_end opened_with after begun_by start stripe_of hash_of weighted_sum units_of chars frame header
  none_written stripes found = stands (seen_of (at_end stripes found).files) 16 (first_sealed new_version whole_laws) refl (first_closed new_version)

  never_kept : (stripes : ℕ) (found : Opened) (w : World) (a : Machine) → w ≡ at_end stripes found → AreKept w a (seen_of w.files) → ⊥
  never_kept stripes found w a is keeps =
      let front = (subst (λ (v : World). AreKept v a (seen_of v.files)) is keeps).front in
      let same = one (seen_of (at_end stripes found).files) front.count 0 (fold_to (whole (at_end stripes found).history) front.count) finite.empty front.stands (none_written stripes found) in
      omega (arith, same.0, front.from_least, one_committed stripes found)

  first_life : (stripes : StripeCount) (calls : ℕ) (entries : Vec MapEntry) (found : Opened) → after start found (event.Open stripes None) (outcome.Opened calls 0 entries) ≡ opened_with stripes.count found
  unfolding after start opened_with
  first_life stripes calls entries found = refl

  opens_so : (stripes : StripeCount) (calls : ℕ) (entries : Vec MapEntry) (w : World) (a : Machine) → LeadsTo start ((event.Open stripes None, outcome.Opened calls 0 entries) ∷ []) w a
      → (found : Opened) × (w ≡ opened_with stripes.count found)
  unfolding LeadsTo after opened_with
  opens_so stripes calls entries w a leads =
      let e : Event = event.Open stripes None in
      let x : Outcome = outcome.Opened calls 0 entries in
      let begins : leads.0 ≡ start = leads.2.0 in
      let found = leads.3.found in
      (found, leads.3.world ∙ ap (λ (v : World). after v found e x) begins ∙ first_life stripes calls entries found)

  pub unwritten_is_no_run : UnwrittenIsNoRun
  unfolding onto none_opens is_opening at_end
  unwritten_is_no_run stripes calls entries run =
      let rows = opened_rows stripes calls entries (staged_rows ++ unwritten_rows) in
      let leads : LeadsTo start (onto [] rows) run.world run.machine = subst (λ (rs : List Row). LeadsTo start rs run.world run.machine) (rows_again rows []) run.leads in
      let back = leads_back start (staged_rows ++ unwritten_rows) ((event.Open stripes None, outcome.Opened calls 0 entries) ∷ []) run.world run.machine refl leads in
      let opening = opens_so stripes calls entries back.world back.machine back.leads in
      never_kept stripes.count opening.0 run.world run.machine
      (back.comes ∙ ap (λ (v : World). after_rows new_store v (staged_rows ++ unwritten_rows)) opening.1)
      (kept start _ _ run.world run.machine leads)
