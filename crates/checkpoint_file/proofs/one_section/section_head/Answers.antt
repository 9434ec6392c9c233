use Rattle.std.proofs.Common.{◌≡◌, ◌≤◌, ℕ, List, ◌++◌, length, take, drop, refl, sym, ap, ◌∙◌, arith}
use Rattle.std.proofs.lemmas.List.{take-append-drop, take-take}
use Rattle.std.proofs.lemmas.Result.{err_from_is_err_and}
use Rattle.checkpoint_file.specs.Loads.{seen_in}
use Rattle.checkpoint_file.proofs.LookLemmas.{held_before}
use Rattle.checkpoint_file.proofs.PlaceLemmas.{refuses_more}
use Rattle.checkpoint_file.proofs.one_section.section_head.Goals as goal

pub returns-in_err-fetch-clause-err : goal.returns-in_err-fetch-clause-err
returns-in_err-fetch-clause-err g c =
    let q = err_from_is_err_and c.from_residual.result c.from_residual.ensures.1 in
    rw (q.1, q.2) (refuses_more c.args.unread.file c.args.unread.file _ _ _ refl (λ offset never honest rest is size. absurd (never honest rest is size)) c.in_err-fetch.ensures.err)

pub returns-clause-ok : goal.returns-clause-ok
returns-clause-ok g c = λ honest rest is size.
    let held = held_before g.D.Disk.states g.D.Disk.failures g.D.Disk.honest c.args.disk.now c.fetch.new.disk c.args.unread.file c.fetch.new.reader c.in_ok-fetch.ensures.looks (c.in_ok-fetch.ensures.held honest) in
    let bytes : List ℕ = c.front-bytes.result.now in
    let same : bytes ≡ take (length bytes) rest = c.front-bytes.ensures.same (seen_in g.D.Disk.states c.args.disk.now c.args.unread.file) rest held is size in
    let long = c.if-unread-lt-SECTION_HEAD_BYTES.false in
    let count = c.front-bytes.ensures.size in
    let few : 12 ≤ length bytes = omega (arith, long, count) in
    let head : take 12 bytes ≡ take 12 rest = ap (λ (l : List ℕ). take 12 l) same ∙ take-take 12 (length bytes) rest few in
    sym (take-append-drop 12 rest) ∙ ap (λ (l : List ℕ). l ++ drop 12 rest) (sym head ∙ c.mark_and_count.ensures.spelled)
