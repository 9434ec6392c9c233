use Rattle.std.proofs.Common.{◌≡◌, ◌++◌, ℕ, List, length, ap, sym, ◌∙◌, arith}
use Rattle.std.proofs.lemmas.Result.{err_from_is_err_and}
use Rattle.map_types.specs.declared.commands.Command.{Command}
use Rattle.log_records.specs.Agreement.{Agrees}
use Rattle.log_records.specs.declared.versions.Version.{Version}
use Rattle.log_records.specs.Layout.{layout_of}
use Rattle.log_records.specs.Spelling.{IsCommand, IsRecord, record_bytes}
use Rattle.log_records.specs.Reading.{record_at}
use Rattle.log_records.proofs.Agreeing.{read_front, only_front, only_memory}
use Rattle.log_records.proofs.Records.{record_agrees}
use Rattle.log_records.proofs.Refused.{refused_within}
use Rattle.log_records.proofs.Layouts.{layout_room}
use Rattle.log_records.proofs.reading.decode.Goals as goal

agrees : (version : Version) → Agrees (record_at (layout_of version)) (record_bytes (layout_of version)) (IsCommand (layout_of version))
agrees version = record_agrees (layout_of version) (layout_room version)

spelled : (version : Version) (bytes front rest : List ℕ) (c : Command) → IsRecord (layout_of version) front c → bytes ≡ front ++ rest → bytes ≡ record_bytes (layout_of version) c ++ rest
spelled version bytes front rest c p e = e ∙ ap (λ (t : List ℕ). t ++ rest) p.spelled

pub overflow_sub-used : goal.overflow_sub-used
overflow_sub-used c = (read_front _ _ _ (agrees c.args.version) c.args.bytes.now _ c.in_ok-command.rest.now (λ i. omega (arith, c.type_inv.bytes i)) c.in_ok-command.ensures).0

pub returns-clause-found : goal.returns-clause-found
returns-clause-found c =
    let d = read_front _ _ _ (agrees c.args.version) c.args.bytes.now _ c.in_ok-command.rest.now (λ i. omega (arith, c.type_inv.bytes i)) c.in_ok-command.ensures in
    (record { fits = d.2; spelled = d.1 }, omega arith)

pub returns-clause-only : goal.returns-clause-only
returns-clause-only c = λ front rest d p e.
    let o = only_front _ _ _ (agrees c.args.version) c.args.bytes.now rest c.in_ok-command.rest.now d _ p.fits (spelled c.args.version c.args.bytes.now front rest d p e) c.in_ok-command.ensures in
    (o.0, o.1 ∙ ap (λ (t : List ℕ). length t) (sym p.spelled))

pub returns-in_err-command-clause-only : goal.returns-in_err-command-clause-only
returns-in_err-command-clause-only c = λ front rest d p e.
    let q = err_from_is_err_and c.from_residual.result c.from_residual.ensures.1 in
    rw (q.1, q.2) (only_memory _ _ _ (agrees c.args.version) c.args.bytes.now rest d _ p.fits (spelled c.args.version c.args.bytes.now front rest d p e) c.in_err-command.ensures)

pub returns-in_err-command-clause-kinds : goal.returns-in_err-command-clause-kinds
returns-in_err-command-clause-kinds c =
    let q = err_from_is_err_and c.from_residual.result c.from_residual.ensures.1 in
    rw (q.1, q.2) (refused_within (layout_of c.args.version) c.args.bytes.now _ (λ i. omega (arith, c.type_inv.bytes i)) c.in_err-command.ensures)
