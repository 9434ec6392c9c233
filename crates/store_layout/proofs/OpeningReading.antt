-- Opening gives something: what the files stand for, or a refusal.
use Rattle.std.proofs.Common.{◌≡◌, inl, inr, ◌<◌, ℕ, ◌+◌, Bool, true, false, nat_lt, Option, None, Some, List, length, Result, Ok, Err, refl, sym, subst, arith}
use Rattle.std.specs.Prelude.{slice_index_or}
use Rattle.std.proofs.lemmas.Bool.{cases_lt}
use Rattle.map_types.specs.declared.refusals.Refusal.{Refusal}
use Rattle.map_types.specs.declared.refusals.Refusal.TheVariants.{NotFormatted}
use Rattle.log_records.specs.Agreement.{IsBytes}
use Rattle.store_layout.specs.Logs.{Batch, log_file}
use Rattle.store_layout.specs.Checkpoints.{Checkpoint, IsCheckpoint, greatest_mark, is_sealed}
use Rattle.store_layout.specs.Readings.{Reading, closed, ended, broken, Reads}
use Rattle.store_layout.specs.Faults.{generation_in, head_fault, version_in}
use Rattle.store_layout.specs.Opening.{Contents, checkpoint_layout, log_layout, IsCheckpointIn, ReadsIn, Opened, next_low, newest_by, logged_by, AreLogs, heads_fault, newest_file, damage_behind, AreBadLogs, bad_header, bad_frame, bad_next_header, bad_next_frame, second_end, below_mark, bad_heads, bad_checkpoint, bad_logs, Opens}
use Rattle.store_layout.specs.OpeningLaws.{OpensSomehow}
use Rattle.store_layout.proofs.Versions.{room_for, version_for, header_version}
use Rattle.store_layout.proofs.Openings.{heads_by, newest_of_two, one_of_two, both_none, some_not_none, used_is_held}
use Rattle.store_layout.proofs.BodyReading.{read_checkpoint}
use Rattle.store_layout.proofs.LogReading.{ToldLog, read_log}
use Rattle.store_layout.proofs.CheckpointReading.{read_version}

-- ---- the file that is used

first_sealed : (s t less : Bool) (a b : Option Refusal) → heads_by s t a b ≡ None → newest_of_two s t less ≡ 0 → s ≡ true
first_sealed true t less a b heads e = refl
first_sealed false true less a b heads e = absurd (omega (arith, e))
first_sealed false false less a b heads e = absurd (some_not_none NotFormatted heads)

second_sealed : (s t less : Bool) → newest_of_two s t less ≡ 1 → t ≡ true
second_sealed s true less e = refl
second_sealed s false less e = absurd (omega (arith, e))

module _ (contents : Contents) (bytes : (file : ℕ) → file < 4 → IsBytes (contents file)) (heads : heads_fault contents ≡ None) where
  record IsUsed (file : ℕ) : Type 0 where
    below : file < 4
    sealed : is_sealed (contents file) ≡ true
    head : head_fault file (contents file) ≡ None

  used_file : IsUsed (newest_file contents)
  used_file = elim (one_of_two (is_sealed (contents 0)) (is_sealed (contents 1)) (nat_lt (generation_in (contents 1)) (generation_in (contents 0)))) as (λ _. IsUsed (newest_file contents)) [
    | inl e ↦ subst IsUsed (sym e) (record {
      below = omega arith;
      sealed = first_sealed (is_sealed (contents 0)) (is_sealed (contents 1)) (nat_lt (generation_in (contents 1)) (generation_in (contents 0))) (head_fault 0 (contents 0)) (head_fault 1 (contents 1)) heads e;
      head = (both_none (is_sealed (contents 0)) (is_sealed (contents 1)) (head_fault 0 (contents 0)) (head_fault 1 (contents 1)) heads).0;
    })
    | inr e ↦ subst IsUsed (sym e) (record {
      below = omega arith;
      sealed = second_sealed (is_sealed (contents 0)) (is_sealed (contents 1)) (nat_lt (generation_in (contents 1)) (generation_in (contents 0))) e;
      head = (both_none (is_sealed (contents 0)) (is_sealed (contents 1)) (head_fault 0 (contents 0)) (head_fault 1 (contents 1)) heads).1;
    })
  ]

  abbrev Told : Type 0
  Told = (x : Result Opened Refusal) × Opens contents x

  -- ---- its logs

  abbrev ToldLogIn : ℕ → ℕ → List ℕ → Type 0
  ToldLogIn g l content = ToldLog (log_layout content) (room_for (slice_index_or content 0 0)) g l content

  read_log_in : (g l : ℕ) (content : List ℕ) → IsBytes content → ToldLogIn g l content
  read_log_in g l content fits = read_log (log_layout content) (room_for (slice_index_or content 0 0)) g l content (λ v g' l' h e. header_version v g' l' content h e) fits

  module _ (k : Checkpoint) (is : IsCheckpointIn k (contents (newest_file contents))) where
    refused : (refusal : Refusal) → AreBadLogs contents k refusal → Told
    refused refusal bad = (Err refusal, bad_logs k heads is bad)

    whole : (first : List Batch) (second : Option (List Batch)) → AreLogs contents k first second → Told
    whole first second logs = elim (cases_lt (k.low + length (logged_by first second)) (greatest_mark k.sections)) as (λ _. Told) [
      | inl low ↦ refused (damage_behind contents (newest_by k first second)) (below_mark first second logs low refl)
      | inr up ↦ (let found : Opened = record { checkpoint = k; first = first; second = second } in (Ok found, used_is_held contents found heads is logs up))
    ]

    abbrev First : Reading → Type 0
    First reading = ReadsIn k.generation k.low (contents (log_file k.generation)) reading

    by_second : (first : List Batch) → First (ended first) → ToldLogIn (k.generation + 1) (next_low k first) (contents (log_file (k.generation + 1))) → Told
    by_second first end (inr bad) = refused bad.0 (bad_next_header first end bad.1)
    by_second first end (inl (closed second, reads)) = whole first (Some second) (end, reads)
    by_second first end (inl (ended second, reads)) = refused (damage_behind contents (newest_by k first (Some second))) (second_end first second end reads refl)
    by_second first end (inl (broken second, reads)) = refused (damage_behind contents (newest_by k first (Some second))) (bad_next_frame first second end reads refl)

    by_first : ToldLogIn k.generation k.low (contents (log_file k.generation)) → Told
    by_first (inr bad) = refused bad.0 (bad_header bad.1)
    by_first (inl (closed first, reads)) = whole first None reads
    by_first (inl (broken first, reads)) = refused (damage_behind contents (newest_by k first None)) (bad_frame first reads refl)
    by_first (inl (ended first, reads)) =
        by_second first reads (read_log_in (k.generation + 1) (next_low k first) (contents (log_file (k.generation + 1))) (bytes (log_file (k.generation + 1)) (omega arith)))

    by_logs : Told
    by_logs = by_first (read_log_in k.generation k.low (contents (log_file k.generation)) (bytes (log_file k.generation) (omega arith)))

  by_checkpoint : Told
  by_checkpoint =
      let u = used_file in
      elim (read_checkpoint (checkpoint_layout (contents (newest_file contents))) (room_for (version_in (contents (newest_file contents)))) (newest_file contents) (contents (newest_file contents)) (bytes (newest_file contents) u.below) u.sealed u.head (sym (version_for (version_in (contents (newest_file contents))) (read_version (newest_file contents) (contents (newest_file contents)) u.sealed u.head)))) as (λ _. Told) [
        | inl k ↦ by_logs k.0 k.1
        | inr bad ↦ (Err bad.0, bad_checkpoint heads bad.1)
      ]

pub opens_somehow : OpensSomehow
opens_somehow contents bytes = by (heads_fault contents) refl
  where
    by : (o : Option Refusal) → heads_fault contents ≡ o → (x : Result Opened Refusal) × Opens contents x
    by (Some r) e = (Err r, bad_heads e)
    by None e = by_checkpoint contents bytes e
