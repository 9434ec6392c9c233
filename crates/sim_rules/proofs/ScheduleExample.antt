-- The whole example is a run.
use Rattle.std.proofs.Common.{◌≡◌, ◌⊎◌, inl, inr, ℕ, true, false, List, [], ◌∷◌, ◌++◌, map, take, Option, None, Some, refl, sym, ap, ap₂, ◌∙◌, subst, arith}
use Rattle.std.proofs.lemmas.List.{length-map}
use Rattle.std.specs.FinMap as finite
use Rattle.std.specs.Global.{Vec}
use Rattle.std.specs.List.{AllByRecursion}
use Rattle.std.specs.Cmp.Lexicographic.{slice_cmp}
use Rattle.std.specs.Ordering.{nat_cmp}
use Rattle.std.specs.Str.{chars}
use Rattle.java_hash.specs.declared.stripe_count.StripeCount.{StripeCount}
use Rattle.java_hash.specs.Hash.{hash_of, weighted_sum}
use Rattle.java_hash.specs.Stripes.{stripe_of}
use Rattle.java_hash.specs.Units.{units_of}
use Rattle.map_types.specs.declared.commands.Reply.TheVariants.{Was}
use Rattle.map_types.specs.declared.texts.Value.{Value}
use Rattle.ticket_order.specs.declared.record.Call.{Call}
use Rattle.disk_model.specs.Files.{Contents, File, Files, MayLeave, at_rest, byte_at, synced, written as overwritten_file}
use Rattle.store_layout.specs.Checkpoints.{is_sealed}
use Rattle.store_layout.specs.Examples.{a}
use Rattle.store_layout.specs.FirstFiles.{first_log, new_contents}
use Rattle.store_layout.specs.Logs.{frame, header, new_version}
use Rattle.store_layout.specs.Opening.{IsCheckpointIn, IsClosedIn, Opened, StandsFor, first_checkpoint}
use Rattle.store_layout.specs.OpeningLaws.{FirstIsWhole, FirstStands, OneStanding}
use Rattle.sim_rules.specs.declared.event.Event.TheVariants as event
use Rattle.sim_rules.specs.declared.outcome.End.TheVariants as ends
use Rattle.sim_rules.specs.declared.outcome.Made.TheVariants as made
use Rattle.sim_rules.specs.declared.outcome.MapEntry.{MapEntry}
use Rattle.sim_rules.specs.declared.outcome.Outcome.TheVariants as outcome
use Rattle.sim_rules.specs.World.{World, Life, begun_by, count, seen_of, start}
use Rattle.sim_rules.specs.After.{after}
use Rattle.sim_rules.specs.Runs.{Row, IsRun, OpensWell}
use Rattle.sim_rules.specs.Sound.{AnswersLegally, AreAbove, IsSound, IsSoundInside, IsSoundWith, Stays, durable_or, released_by}
use Rattle.sim_rules.specs.Examples.{AllMeet, ScheduleIsRun, after_rows, frame_bytes, new_store, opened, put_a, released_rows, schedule_rows, staged_rows}
use Rattle.sim_rules.specs.Examples.{withheld_rows, written_rows}
use Rattle.sim_rules.proofs.CommitExamples.{change_is_released, staged, withheld, written}
use Rattle.sim_rules.proofs.FileLaws.{first_closed, first_sealed}
use Rattle.sim_rules.proofs.LeftExamples.{left_of_gate, same_or_not, shut_once_synced, shut_while_written, stays_at_rest}
use Rattle.sim_rules.proofs.LifeGoing.{life_goes_on}
use Rattle.sim_rules.proofs.OpeningRun.{opened_sound as first_opened_sound}
use Rattle.sim_rules.proofs.PlainRows.{AllNow, Now, StandForFive, StandForNone, all_new, all_now_on, all_open_well, are_new, are_plain, are_unrefused, durable_in, five_now, is_late, is_living, is_new, is_plain, is_quiet, is_unrefused, living_life, no_stop, none_now, now_late, now_new, rows_keep}
use Rattle.sim_rules.proofs.RunLaws.{sound_is_run}
use Rattle.sim_rules.proofs.StillFiles.{is_still}
use Rattle.sim_rules.proofs.StopExamples.{gated, log_file, log_with_five, open_stands, shut_stands}
use Rattle.sim_rules.proofs.UnwrittenExample.{onto, rows_again}

seen_written : (overwritten_file 18 frame_bytes (at_rest first_log)).seen ≡ log_with_five 0
unfolding frame header
seen_written = refl

seen_synced : (log_file frame_bytes).seen ≡ log_with_five 0
unfolding frame header log_file
seen_synced = refl

seen_gated : (gated frame_bytes (165 ∷ [])).seen ≡ log_with_five 165
unfolding frame header log_file gated
seen_gated = refl

-- files with a new checkpoint and a log that is closed behind no batch
module _ (whole : FirstIsWhole) (stands : FirstStands) (one : OneStanding) where
  none_left : (contents : Contents) → contents 0 ≡ new_contents 16 0 → contents 1 ≡ [] → IsClosedIn 0 0 [] (contents 2) → StandsFor contents 0 finite.empty
  unfolding start
  none_left contents first second third =
      stands contents 16 (subst (λ (content : List ℕ). IsCheckpointIn (first_checkpoint 16) content) (sym first) (first_sealed new_version whole)) (ap is_sealed second) third

  fresh : StandForNone opened.files
  unfolding start begun_by
  fresh = record {
    left = λ contents leaves. none_left contents (stays_at_rest (new_contents 16 0) (contents 0) (leaves 0 (omega arith))) (stays_at_rest [] (contents 1) (leaves 1 (omega arith)))
        (subst (λ (content : List ℕ). IsClosedIn 0 0 [] content) (sym (stays_at_rest first_log (contents 2) (leaves 2 (omega arith)))) (first_closed new_version));
    read = none_left (seen_of opened.files) refl refl (first_closed new_version);
  }

  -- with the frame written, and not synced
  writing : (bytes : Vec ℕ) → bytes.items ≡ frame_bytes → (files : Files) → files 0 ≡ at_rest (new_contents 16 0) → files 1 ≡ at_rest [] → files 2 ≡ overwritten_file 18 bytes.items (at_rest first_log) → StandForNone files
  writing bytes is files first second third = record {
    left = λ contents leaves. none_left contents
        (stays_at_rest (new_contents 16 0) (contents 0) (subst (λ (f : File). MayLeave f (contents 0)) first (leaves 0 (omega arith))))
        (stays_at_rest [] (contents 1) (subst (λ (f : File). MayLeave f (contents 1)) second (leaves 1 (omega arith))))
        (shut_while_written bytes.items (contents 2) (subst (λ (f : File). MayLeave f (contents 2)) third (leaves 2 (omega arith))));
    read = shut_stands whole stands one (seen_of files) (ap (λ (f : File). f.seen) first) (ap (λ (f : File). is_sealed f.seen) second) 0 (λ e. omega (arith, e))
        (ap (λ (f : File). f.seen) third ∙ ap (λ (items : List ℕ). (overwritten_file 18 items (at_rest first_log)).seen) is ∙ seen_written);
  }

  -- and synced
  wrote : (bytes : Vec ℕ) → bytes.items ≡ frame_bytes → (files : Files) → files 0 ≡ at_rest (new_contents 16 0) → files 1 ≡ at_rest [] → files 2 ≡ log_file bytes.items → StandForNone files
  wrote bytes is files first second third = record {
    left = λ contents leaves. shut_stands whole stands one contents
        (stays_at_rest (new_contents 16 0) (contents 0) (subst (λ (f : File). MayLeave f (contents 0)) first (leaves 0 (omega arith))))
        (ap is_sealed (stays_at_rest [] (contents 1) (subst (λ (f : File). MayLeave f (contents 1)) second (leaves 1 (omega arith))))) 0 (λ e. omega (arith, e))
        (shut_once_synced (contents 2) (subst (λ (f : File). MayLeave f (contents 2)) (third ∙ ap log_file is) (leaves 2 (omega arith))));
    read = shut_stands whole stands one (seen_of files) (ap (λ (f : File). f.seen) first) (ap (λ (f : File). is_sealed f.seen) second) 0 (λ e. omega (arith, e))
        (ap (λ (f : File). f.seen) (third ∙ ap log_file is) ∙ seen_synced);
  }

  -- while the gate is opened the change stands, or nothing does
  opening_gate : (bytes gate : Vec ℕ) → bytes.items ≡ frame_bytes → gate.items ≡ 165 ∷ [] → (w : World) → w.files 0 ≡ at_rest (new_contents 16 0) → w.files 1 ≡ at_rest [] → w.files 2 ≡ gated bytes.items gate.items
      → w.history ≡ put_a ∷ [] → is_new w.life ≡ true → is_late w.life ≡ true → Now w (durable_in w.life)
  opening_gate bytes gate is opens w first second third history new late =
      let there : w.files 2 ≡ gated frame_bytes (165 ∷ []) = third ∙ ap₂ gated is opens in
      record {
        left = λ contents leaves. by contents
            (stays_at_rest (new_contents 16 0) (contents 0) (subst (λ (f : File). MayLeave f (contents 0)) first (leaves 0 (omega arith))))
            (ap is_sealed (stays_at_rest [] (contents 1) (subst (λ (f : File). MayLeave f (contents 1)) second (leaves 1 (omega arith)))))
            (left_of_gate (contents 2) (subst (λ (f : File). MayLeave f (contents 2)) there (leaves 2 (omega arith)))) (same_or_not (byte_at 17 (contents 2)) 165);
        read = five_now w (seen_of w.files) history late
            (open_stands whole stands one (seen_of w.files) (ap (λ (f : File). f.seen) first) (ap (λ (f : File). is_sealed f.seen) second) (ap (λ (f : File). f.seen) there ∙ seen_gated));
      }
    where
      by : (contents : Contents) → contents 0 ≡ new_contents 16 0 → is_sealed (contents 1) ≡ false → contents 2 ≡ log_with_five (byte_at 17 (contents 2)) → (byte_at 17 (contents 2) ≡ 165) ⊎ (byte_at 17 (contents 2) ≡ 165 → ⊥)
          → AreAbove w (durable_in w.life) contents
      by contents zero_is one_is two_is (inl is) = five_now w contents history late (open_stands whole stands one contents zero_is one_is (two_is ∙ ap log_with_five is))
      by contents zero_is one_is two_is (inr other) = none_now w contents new (shut_stands whole stands one contents zero_is one_is (byte_at 17 (contents 2)) other two_is)

  -- and once it is
  gate_opened : (bytes gate : Vec ℕ) → bytes.items ≡ frame_bytes → gate.items ≡ 165 ∷ [] → (files : Files) → files 0 ≡ at_rest (new_contents 16 0) → files 1 ≡ at_rest [] → files 2 ≡ synced (gated bytes.items gate.items) → StandForFive files
  gate_opened bytes gate is opens files first second third =
      let there : files 2 ≡ at_rest (log_with_five 165) = third ∙ ap₂ (λ (items opened : List ℕ). synced (gated items opened)) is opens ∙ ap at_rest seen_gated in
      record {
        left = λ contents leaves. open_stands whole stands one contents
            (stays_at_rest (new_contents 16 0) (contents 0) (subst (λ (f : File). MayLeave f (contents 0)) first (leaves 0 (omega arith))))
            (ap is_sealed (stays_at_rest [] (contents 1) (subst (λ (f : File). MayLeave f (contents 1)) second (leaves 1 (omega arith)))))
            (stays_at_rest (log_with_five 165) (contents 2) (subst (λ (f : File). MayLeave f (contents 2)) there (leaves 2 (omega arith))));
        read = open_stands whole stands one (seen_of files) (ap (λ (f : File). f.seen) first) (ap (λ (f : File). is_sealed f.seen) second) (ap (λ (f : File). f.seen) there);
      }

meet_split : (found : Opened) (w : World) (first second : List Row) → AllMeet found w (first ++ second) → AllMeet found w first × AllMeet found (after_rows found w first) second
meet_split found w [] second all = (tt, all)
meet_split found w (row ∷ first) second all =
    let others = meet_split found (after w found row.0 row.1) first second all.1 in
    ((all.0, others.0), others.1)

-- all rows between the opening and the last
plain_rows : Vec ℕ → Vec ℕ → List Row
plain_rows bytes gate = staged_rows ++ (written_rows bytes ++ (withheld_rows ++ take 4 (released_rows gate)))

last_row : Row
last_row = (event.Step 0, outcome.Stepped (made.Saw 1) (ends.Replied 1 (Was None)))

module _ (whole : FirstIsWhole) (stands : FirstStands) (one : OneStanding) (stripes : StripeCount) (entries : Vec MapEntry) (bytes gate : Vec ℕ) (count_is : stripes.count ≡ 16) (none : entries.items ≡ [])
    (is : bytes.items ≡ frame_bytes) (opens : gate.items ≡ 165 ∷ []) where
  open_row : Row
  open_row = (event.Open stripes None, outcome.Opened 12 0 entries)

  opened_sound : IsSound start (open_row ∷ []) opened 0 []
  unfolding open_row start
  opened_sound = first_opened_sound new_version whole stands one stripes entries 12 count_is none refl

  before_frame : are_new new_store opened staged_rows ≡ true
  unfolding are_new is_new is_still after begun_by start stripe_of hash_of weighted_sum units_of chars frame header
  before_frame = refl

  frame_now : AllNow new_store staged (written_rows bytes)
  unfolding AllNow durable_in is_new staged log_file after begun_by start stripe_of hash_of weighted_sum units_of chars frame header
  frame_now = (now_new _ refl (writing whole stands one bytes is _ refl refl refl), (now_new _ refl (wrote whole stands one bytes is _ refl refl refl), tt))

  frame_there : StandForNone (written bytes).files
  unfolding written staged log_file after begun_by start stripe_of hash_of weighted_sum units_of chars frame header
  frame_there = wrote whole stands one bytes is _ refl refl refl

  before_gate : are_new new_store (written bytes) withheld_rows ≡ true
  unfolding are_new is_new is_still written staged after begun_by start stripe_of hash_of weighted_sum units_of chars frame header
  before_gate = refl

  gate_now : AllNow new_store (withheld bytes) (take 4 (released_rows gate))
  unfolding AllNow durable_in is_new is_late withheld written staged log_file gated after begun_by start stripe_of hash_of weighted_sum units_of chars frame header
  gate_now = (
    opening_gate whole stands one bytes gate is opens _ refl refl refl refl refl refl,
    (
      now_late _ refl refl (gate_opened whole stands one bytes gate is opens _ refl refl refl),
      (
        now_late _ refl refl (gate_opened whole stands one bytes gate is opens _ refl refl refl),
        (now_late _ refl refl (gate_opened whole stands one bytes gate is opens _ refl refl refl), tt),
      ),
    ),
  )

  all_now : AllNow new_store opened (plain_rows bytes gate)
  unfolding plain_rows staged written withheld
  all_now = all_now_on new_store staged_rows (written_rows bytes ++ (withheld_rows ++ take 4 (released_rows gate))) opened (all_new new_store staged_rows opened (fresh whole stands one) before_frame)
      (all_now_on new_store (written_rows bytes) (withheld_rows ++ take 4 (released_rows gate)) staged frame_now
      (all_now_on new_store withheld_rows (take 4 (released_rows gate)) (written bytes) (all_new new_store withheld_rows (written bytes) frame_there before_gate) gate_now))

  now_opened : Now opened (durable_in opened.life)
  unfolding is_new durable_in start begun_by
  now_opened = now_new opened refl (fresh whole stands one)

  all_meet : AllMeet new_store opened (plain_rows bytes gate) × AllMeet new_store (after_rows new_store opened (plain_rows bytes gate)) (last_row ∷ [])
  unfolding plain_rows last_row
  all_meet = meet_split new_store opened (plain_rows bytes gate) (last_row ∷ []) (change_is_released bytes gate is opens)

  plain : are_plain new_store opened (plain_rows bytes gate) ≡ true
  unfolding plain_rows are_plain no_stop is_plain is_quiet is_living after begun_by start stripe_of hash_of weighted_sum units_of chars frame header
  plain = refl

  before_last : (most : ℕ) × IsSound start (onto (open_row ∷ []) (plain_rows bytes gate)) (after_rows new_store opened (plain_rows bytes gate)) most []
  before_last = rows_keep start new_store (plain_rows bytes gate) (open_row ∷ []) opened 0 [] opened_sound now_opened all_meet.0 all_now plain

  last_world : World
  last_world = after_rows new_store opened (plain_rows bytes gate)

  lives_on : is_living last_world.life (count last_world) ≡ true
  unfolding last_world plain_rows is_living after begun_by start stripe_of hash_of weighted_sum units_of chars frame header
  lives_on = refl

  legal : AnswersLegally last_world (event.Step 0) (outcome.Stepped (made.Saw 1) (ends.Replied 1 (Was None)))
  unfolding last_world plain_rows after begun_by start stripe_of hash_of weighted_sum units_of chars frame header
  legal = record {
    ticket = 0;
    position_is = refl;
    from_first = omega arith;
    command = refl;
    reply_is = ap (λ (value : Option Value). Was value) (sym (finite.get-empty (slice_cmp nat_cmp) a));
  }

  end_world : World
  end_world = after last_world new_store last_row.0 last_row.1

  lives_still : is_living end_world.life (count end_world) ≡ true
  unfolding end_world last_row last_world plain_rows is_living after begun_by start stripe_of hash_of weighted_sum units_of chars frame header
  lives_still = refl

  released : List Call
  released = released_by last_world last_row.0 last_row.1 []

  now_last : Now last_world (durable_in last_world.life)
  unfolding last_world plain_rows is_late durable_in log_file gated after begun_by start stripe_of hash_of weighted_sum units_of chars frame header
  now_last = now_late _ refl refl (gate_opened whole stands one bytes gate is opens _ refl refl refl)

  now_end : Now end_world (durable_in end_world.life)
  unfolding end_world last_row last_world plain_rows is_late durable_in log_file gated after begun_by start stripe_of hash_of weighted_sum units_of chars frame header
  now_end = now_late _ refl refl (gate_opened whole stands one bytes gate is opens _ refl refl refl)

  end_durable : (least : ℕ) → durable_in end_world.life ≡ durable_or end_world.life least
  unfolding end_world last_row last_world plain_rows durable_in after begun_by start stripe_of hash_of weighted_sum units_of chars frame header
  end_durable least = refl

  last_stays : (l : Life) → last_world.life ≡ Some l → Stays last_world l.durable last_row end_world (durable_or end_world.life l.durable)
  unfolding last_row durable_in
  last_stays l life =
      let here : Now last_world l.durable = subst (λ (y : Option Life). Now last_world (durable_in y)) life now_last in
      let then : Now end_world (durable_or end_world.life l.durable) = subst (λ (n : ℕ). Now end_world n) (end_durable l.durable) now_end in
      record { within = here.left; left = then.left; read = then.read }

  sound_at_end : IsSound start (last_row ∷ onto (open_row ∷ []) (plain_rows bytes gate)) end_world (living_life last_world.life (count last_world) lives_on).0.durable released
  unfolding end_world released last_row last_world
  sound_at_end =
      let life = living_life last_world.life (count last_world) lives_on in
      life_goes_on start (onto (open_row ∷ []) (plain_rows bytes gate)) last_world life.0 [] life.0.durable last_row.0 last_row.1 end_world life.1
      (subst (λ (y : Option Life). IsSoundWith y start (onto (open_row ∷ []) (plain_rows bytes gate)) last_world before_last.0 []) life.1 before_last.1)
      (record { found = new_store; meets = all_meet.1.0; world = refl }) (last_stays life.0 life.1) legal (omega arith) life.2

  rows_are : onto [] (schedule_rows stripes entries bytes gate) ≡ last_row ∷ onto (open_row ∷ []) (plain_rows bytes gate)
  unfolding onto open_row last_row plain_rows
  rows_are = refl

  unrefused : are_unrefused (onto [] (schedule_rows stripes entries bytes gate)) ≡ true
  unfolding onto are_unrefused is_unrefused
  unrefused = refl

  pub is_run : IsRun (map (λ (row : Row). row.0) (schedule_rows stripes entries bytes gate)) (map (λ (row : Row). row.1) (schedule_rows stripes entries bytes gate))
  is_run =
      let rows : List Row = schedule_rows stripes entries bytes gate in
      let life = living_life end_world.life (count end_world) lives_still in
      let same = rows_again rows [] in
      sound_is_run start (map (λ (row : Row). row.0) rows) (map (λ (row : Row). row.1) rows) end_world life.0.durable released
      (length-map rows (λ (row : Row). row.1) ∙ sym (length-map rows (λ (row : Row). row.0)))
      (subst (λ (before : List Row). IsSoundInside start before end_world life.0.durable released) (sym (same ∙ rows_are))
      (subst (λ (y : Option Life). IsSoundWith y start (last_row ∷ onto (open_row ∷ []) (plain_rows bytes gate)) end_world (living_life last_world.life (count last_world) lives_on).0.durable released) life.1 sound_at_end))
      (subst (λ (before : List Row). AllByRecursion OpensWell before) (sym same) (all_open_well (onto [] rows) unrefused))

pub schedule_is_run : FirstIsWhole → FirstStands → OneStanding → ScheduleIsRun
schedule_is_run whole stands one stripes entries bytes gate count_is none is opens = is_run whole stands one stripes entries bytes gate count_is none is opens
