-- The first log of a new store is written.
use Rattle.std.proofs.Common.{◌≡◌, ◌≢◌, [], ◌∷◌, ◌++◌, ℕ, ◌+◌, List, length, drop, Result, Ok, OnOk, OnErr, ap, subst, ◌∙◌, append_assoc, arith}
use Rattle.disk_model.specs.Calls.{Fails, Makes}
use Rattle.disk_model.specs.Files.{File, Files, MayLeave, at_rest, now, synced, written}
use Rattle.disk_model.specs.Gates.{syncs, writes}
use Rattle.disk_model.specs.Moments.{AtEachMoment}
use Rattle.disk_model.proofs.FileLemmas.{rest_leaves}
use Rattle.disk_model.proofs.MomentLemmas.{weaker}
use Rattle.map_types.specs.declared.refusals.Refusal.{Refusal}
use Rattle.log_records.specs.Layout.{Layout}
use Rattle.store_layout.specs.Logs.{IsClosed, log_front}
use Rattle.store_layout.specs.FirstFiles.{first_log_in}
use Rattle.recovery.specs.Formatting.{Becomes, OneFile}
use Rattle.recovery.proofs.NewFiles.{written_down, written_first}
use Rattle.recovery.proofs.OneFileLemmas.{next, now_made, tried}

-- but for the first log's, the files are as they were
abbrev pub Others : Files → Files → Type 0
Others start files = (n : ℕ) → n ≢ 2 → files n ≡ start n

abbrev Any : List ℕ → Type 0
Any content = Unit {0}

closed_with : (layout : Layout) (rest content : List ℕ) → content ≡ first_log_in layout ++ rest → IsClosed layout 0 0 [] content
closed_with layout rest content is = record {
  gate = 0;
  rest = rest;
  bytes = is ∙ append_assoc (log_front layout 0 0 []) (0 ∷ []) rest;
  closed = λ e. absurd cc;
  log = record { generation_fits = omega arith; low_fits = omega arith; in_order = tt };
}

module _ {D : Type 0} (states : D → List Files) (failures : D → ℕ) (bytes : List ℕ) (old mid : D) where
  abbrev OtherFiles : D → Type 0
  OtherFiles new = AtEachMoment states old new (OneFile 2 Any (now (states old)))

  others_of : (new : D) → OtherFiles new → AtEachMoment states old new (Others (now (states old)))
  others_of new moments = weaker states old new (OneFile 2 Any (now (states old))) (Others (now (states old))) (λ files one. one.others) moments

  writing : (new : D) (r : Result (Unit {0}) Refusal) → OnOk r (Makes states failures 2 (writes 0 bytes) old new) → OnErr r (Fails states failures 2 (writes 0 bytes) old new) → OtherFiles new
  writing new r ok err = tried states failures 2 Any (writes 0 bytes) old new r ok err (omega arith) (λ content left. tt) (λ content left. tt) (λ left torn content may. tt)

  pub write_others : (new : D) (r : Result (Unit {0}) Refusal) → OnOk r (Makes states failures 2 (writes 0 bytes) old new) → OnErr r (Fails states failures 2 (writes 0 bytes) old new)
      → AtEachMoment states old new (Others (now (states old)))
  write_others new r ok err = others_of new (writing new r ok err)

  module _ (is_written : Makes states failures 2 (writes 0 bytes) old mid) where
    pub sync_others : (new : D) (r : Result (Unit {0}) Refusal) → OnOk r (Makes states failures 2 syncs mid new) → OnErr r (Fails states failures 2 syncs mid new) → AtEachMoment states old new (Others (now (states old)))
    sync_others new r ok err =
        others_of new (next states failures 2 Any old mid new (writing mid (Ok tt) is_written tt)
        (tried states failures 2 Any syncs mid new r ok err tt (λ content left. tt) (λ content left. tt) (λ left torn content may. tt)))

    module _ (new : D) (is_synced : Makes states failures 2 syncs mid new) (layout : Layout) (are : bytes ≡ first_log_in layout) where
      pub is_closed : (content : List ℕ) → MayLeave (now (states new) 2) content → IsClosed layout 0 0 [] content
      is_closed content left =
          let file = now (states old) 2 in
          let comes : now (states new) 2 ≡ synced (written 0 bytes file) = now_made states failures 2 syncs mid new is_synced ∙ ap synced (now_made states failures 2 (writes 0 bytes) old mid is_written) in
          let rest = drop (0 + length bytes) file.seen in
          closed_with layout rest content
          (rest_leaves (bytes ++ rest) content (subst (λ (f : File). MayLeave f content) comes left) ∙ ap (λ (l : List ℕ). l ++ rest) are)

      pub begins : now (states old) 2 ≡ at_rest [] → Becomes 2 (at_rest (first_log_in layout)) (now (states old)) (now (states new))
      begins at = written_down states failures 2 0 bytes (at_rest []) (at_rest (first_log_in layout)) old mid new at is_written is_synced (written_first bytes ∙ ap at_rest are)
