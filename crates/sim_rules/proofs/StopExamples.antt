-- Stops within the commit of one change.
use Rattle.std.proofs.Common.{◌≡◌, ◌≢◌, ℕ, inl, Bool, false, List, [], ◌∷◌, ◌++◌, length, None, refl, sym, ap, ap₂, ◌∙◌, subst, arith}
use Rattle.std.proofs.lemmas.Bool.Decides.{nat_tests}
use Rattle.std.proofs.lemmas.List.{ext_get_or}
use Rattle.std.proofs.lemmas.List.FromFn.{get_or-map-range_with_len, length-map-range_with_len}
use Rattle.std.specs.FinMap as finite
use Rattle.std.specs.Prelude.{nat_le, if◌then◌else◌}
use Rattle.std.specs.Str.{chars}
use Rattle.java_hash.specs.Hash.{hash_of, weighted_sum}
use Rattle.java_hash.specs.Stripes.{stripe_of}
use Rattle.java_hash.specs.Units.{units_of}
use Rattle.map_model.specs.Maps.{Map}
use Rattle.disk_model.specs.declared.fill.Fill.{Fill}
use Rattle.disk_model.specs.declared.fill.Fill.TheVariants.{Old, New, Byte}
use Rattle.disk_model.specs.Files.{File, at_rest, byte_at, synced, written}
use Rattle.disk_model.specs.Fills.{byte_left, bytes_by, length_left}
use Rattle.store_layout.specs.Checkpoints.{is_sealed}
use Rattle.store_layout.specs.Examples.{a, number}
use Rattle.store_layout.specs.Logs.{frame, header, log_front, new_layout, new_version}
use Rattle.store_layout.specs.Opening.{Contents, IsCheckpointIn, IsClosedIn, StandsFor, first_checkpoint}
use Rattle.store_layout.specs.OpeningLaws.{FirstIsWhole, FirstStands, OneStanding}
use Rattle.store_layout.proofs.FirstExamples.{five, second_closed}
use Rattle.store_layout.proofs.OwnLayouts.{closed_in_own, own_of}
use Rattle.store_layout.specs.FirstFiles.{new_contents}
use Rattle.sim_rules.specs.World.{begun_by, start}
use Rattle.sim_rules.specs.After.{after}
use Rattle.sim_rules.specs.Examples.{StoppedBefore, StoppedOpen, StoppedShut, frame_bytes}
use Rattle.sim_rules.proofs.FileLaws.{all_bytes, first_sealed}
use Rattle.sim_rules.proofs.OpeningExamples.{new_map}

-- ---- what the files stand for, by the gate before the frame

-- the new log, its gate, the frame, and the closed gate behind it
abbrev pub log_with_five : ℕ → List ℕ
log_with_five gate = log_front new_layout 0 0 [] ++ gate ∷ frame_bytes

shut_closed : (gate : ℕ) → gate ≢ 165 → IsClosedIn 0 0 [] (log_with_five gate)
unfolding header
shut_closed gate shut = closed_in_own new_layout (own_of new_version) 0 0 [] (log_with_five gate) (record {
  gate = gate;
  rest = _;
  bytes = refl;
  closed = shut;
  log = record { generation_fits = omega arith; low_fits = omega arith; in_order = tt };
})

open_closed : IsClosedIn 0 0 (five ∷ []) (log_with_five 165)
unfolding header frame five
open_closed = closed_in_own new_layout (own_of new_version) 0 0 (five ∷ []) (log_with_five 165) second_closed

module _ (whole : FirstIsWhole) (stands : FirstStands) (one : OneStanding) (contents : Contents) (first : contents 0 ≡ new_contents 16 0) (second : is_sealed (contents 1) ≡ false) where
  sealed_there : IsCheckpointIn (first_checkpoint 16) (contents 0)
  unfolding start
  sealed_there = subst (λ (content : List ℕ). IsCheckpointIn (first_checkpoint 16) content) (sym first) (first_sealed new_version whole)

  pub shut_stands : (gate : ℕ) → gate ≢ 165 → contents 2 ≡ log_with_five gate → StandsFor contents 0 finite.empty
  shut_stands gate shut third = stands contents 16 sealed_there second (subst (λ (content : List ℕ). IsClosedIn 0 0 [] content) (sym third) (shut_closed gate shut))

  pub open_stands : contents 2 ≡ log_with_five 165 → StandsFor contents 1 (finite.from_entries ((a, number 5) ∷ []))
  unfolding five stripe_of hash_of weighted_sum units_of chars
  open_stands third = record {
    found = record { checkpoint = first_checkpoint 16; first = five ∷ []; second = None };
    holds = record {
      checkpoint = sealed_there;
      other = inl second;
      logs = subst (λ (content : List ℕ). IsClosedIn 0 0 (five ∷ []) content) (sym third) open_closed;
      reaches = omega arith;
    };
    prefix = refl;
    map = ap (λ (m : Map). finite.insert m a (number 5)) (new_map whole stands one);
  }

-- ---- what a stop leaves

-- of a file at rest
byte_at_rest : (byte : ℕ) (content : List ℕ) → bytes_by (length content) (λ i. if nat_le (length content) i then byte else byte_at i content) ≡ content
byte_at_rest byte content =
    let left = λ (i : ℕ). if nat_le (length content) i then byte else byte_at i content in
    let long = length-map-range_with_len left 0 (length content) in
    ext_get_or 0 (bytes_by (length content) left) content long
    (λ i l. get_or-map-range_with_len left 0 (length content) i i 0 (omega (arith, l, long)) (omega arith)
    ∙ ap (λ (past : Bool). if past then byte else byte_at i content) (let within : nat_le (length content) i ≡ false = grind (arith, nat_tests, l, long) in within))

-- the log's file once the frame is synced, and once its gate is written
unfoldable pub log_file : List ℕ → File
log_file bytes = synced (written 18 bytes (at_rest (log_front new_layout 0 0 [] ++ 0 ∷ [])))

unfoldable pub gated : List ℕ → List ℕ → File
gated bytes gate = written 17 gate (log_file bytes)

left_of : Fill → File → List ℕ
left_of fill file = bytes_by (length_left fill 2 file) (λ i. byte_left fill 0 file i)

left_shut : left_of New (log_file frame_bytes) ≡ log_with_five 0
unfolding left_of log_file frame header
left_shut = refl

left_new : left_of New (gated frame_bytes (165 ∷ [])) ≡ log_with_five 165
unfolding left_of gated log_file frame header
left_new = refl

left_old : left_of Old (gated frame_bytes (165 ∷ [])) ≡ log_with_five 0
unfolding left_of gated log_file frame header
left_old = refl

left_byte : (byte : ℕ) → left_of (Byte byte) (gated frame_bytes (165 ∷ [])) ≡ log_with_five byte
unfolding left_of gated log_file frame header
left_byte byte = refl

module _ (whole : FirstIsWhole) (stands : FirstStands) (one : OneStanding) where
  pub stopped_before : StoppedBefore
  unfolding after begun_by start stripe_of hash_of weighted_sum units_of chars frame header left_of log_file
  stopped_before bytes is =
      shut_stands whole stands one _ (all_bytes (new_contents 16 0)) refl 0 (λ e. omega (arith, e)) (ap (λ (items : List ℕ). left_of New (log_file items)) is ∙ left_shut)

  pub stopped_open : StoppedOpen
  unfolding after begun_by start stripe_of hash_of weighted_sum units_of chars frame header left_of gated log_file
  stopped_open bytes gate is opens = (
    open_stands whole stands one _ (all_bytes (new_contents 16 0)) refl (ap₂ (λ (items opened : List ℕ). left_of New (gated items opened)) is opens ∙ left_new),
    open_stands whole stands one _ (byte_at_rest 165 (new_contents 16 0)) refl (ap₂ (λ (items opened : List ℕ). left_of (Byte 165) (gated items opened)) is opens ∙ left_byte 165),
  )

  pub stopped_shut : StoppedShut
  unfolding after begun_by start stripe_of hash_of weighted_sum units_of chars frame header left_of gated log_file
  stopped_shut bytes gate is opens = (
    shut_stands whole stands one _ (all_bytes (new_contents 16 0)) refl 0 (λ e. omega (arith, e)) (ap₂ (λ (items opened : List ℕ). left_of Old (gated items opened)) is opens ∙ left_old),
    shut_stands whole stands one _ (byte_at_rest 127 (new_contents 16 0)) refl 127 (λ e. omega (arith, e)) (ap₂ (λ (items opened : List ℕ). left_of (Byte 127) (gated items opened)) is opens ∙ left_byte 127),
  )
