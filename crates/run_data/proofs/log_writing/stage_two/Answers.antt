use Rattle.std.proofs.Common.{[], ◌∷◌, ◌++◌, ℕ, ◌≤◌, length, arith, length-append, subst}
use Rattle.std.proofs.lemmas.List.Elements.{All-cons, All-nil}
use Rattle.log_records.specs.declared.versions.Version.{Version}
use Rattle.log_records.specs.Layout.{layout_of}
use Rattle.log_records.specs.Spelling.{record_bytes}
use Rattle.ticket_order.specs.Records.{IsWithin}
use Rattle.store_layout.proofs.LogLemmas.{length-frame}
use Rattle.gate_log.specs.States.{batch_of}
use Rattle.run_data.proofs.Versions.{narrow, short}
use Rattle.run_data.proofs.log_writing.stage_two.Goals as goal

pub stage-requires-clause-short : goal.stage-requires-clause-short
stage-requires-clause-short c = rw (← c.version-version.ensures)
    (omega (arith, narrow c.version-version.result, short c.version-version.result, c.key_limit-limit.ensures, c.is_above.ensures.within c.if-is_above.false, c.is_above-else-is_above.ensures.within c.if-is_above-2.false, length-frame (layout_of c.version-version.result) (batch_of c.args.log.now.committed (record { ticket = c.new.result; command = c.args.one } ∷ record { ticket = c.new-2.result; command = c.args.other } ∷ [])), c.record_len-one_len.ensures.len, c.record_len-one_len.ensures.bound, c.record_len-other_len.ensures.len, c.record_len-other_len.ensures.bound, length-append (record_bytes (layout_of c.version-version.result) c.args.one) (record_bytes (layout_of c.version-version.result) c.args.other ++ []), length-append (record_bytes (layout_of c.version-version.result) c.args.other) []))

pub stage-requires-clause-within : goal.stage-requires-clause-within
stage-requires-clause-within c =
    let limit = (layout_of c.args.log.now.version).key_limit in
    All-cons (IsWithin limit) c.args.one (c.args.other ∷ [])
    (subst (λ (v : Version). IsWithin (layout_of v).key_limit c.args.one) c.version-version.ensures (subst (λ (z : ℕ). length c.args.one.key ≤ z) c.key_limit-limit.ensures (c.is_above.ensures.within c.if-is_above.false)))
    (All-cons (IsWithin limit) c.args.other []
    (subst (λ (v : Version). IsWithin (layout_of v).key_limit c.args.other) c.version-version.ensures (subst (λ (z : ℕ). length c.args.other.key ≤ z) c.key_limit-limit.ensures (c.is_above-else-is_above.ensures.within c.if-is_above-2.false)))
    (All-nil _))
