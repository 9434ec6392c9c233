use Rattle.std.proofs.Common.{inr, ℕ, List, sym, subst}
use Rattle.std.proofs.lemmas.Result.{err_from_is_err_and}
use Rattle.file_pieces.specs.Pieces.{Holds}
use Rattle.disk_model.proofs.LookLemmas.{looks_on}
use Rattle.checkpoint_file.proofs.LookLemmas.{same_seen}
use Rattle.checkpoint_file.proofs.loading.sized_body.Goals as goal

pub reach_body-requires-clause-held : goal.reach_body-requires-clause-held
reach_body-requires-clause-held g c = λ honest.
    subst (λ (content : List ℕ). Holds content c.in_ok-reader.reader)
    (sym (same_seen g.D.Disk.states g.D.Disk.failures g.D.Disk.honest c.args.disk.now c.begin_file.new.disk c.args.file c.in_ok-stripes.body.file c.in_ok-stripes.ensures.place.1.file_is c.in_ok-reader.ensures.looks))
    (c.in_ok-reader.ensures.holds honest)

pub returns-in_err-reach_body-clause-looks : goal.returns-in_err-reach_body-clause-looks
returns-in_err-reach_body-clause-looks g c =
    let q = err_from_is_err_and c.from_residual-in_err-reach_body.result c.from_residual-in_err-reach_body.ensures.1 in
    rw (q.1, q.2)
    (looks_on g.D.Disk.states g.D.Disk.failures g.D.Disk.honest _ c.args.disk.now c.begin_file.new.disk c.reach_body.new.disk c.in_ok-reader.ensures.looks c.in_err-reach_body.ensures.looks)

pub returns-clause-looks : goal.returns-clause-looks
returns-clause-looks g c =
    looks_on g.D.Disk.states g.D.Disk.failures g.D.Disk.honest 0 c.args.disk.now c.begin_file.new.disk c.reach_body.new.disk c.in_ok-reader.ensures.looks c.in_ok-reach_body.ensures.looks

pub returns-in_err-stripes-clause-listed : goal.returns-in_err-stripes-clause-listed
returns-in_err-stripes-clause-listed g c =
    let q = err_from_is_err_and c.from_residual-in_err-stripes.result c.from_residual-in_err-stripes.ensures.1 in
    rw (q.1, q.2) (inr (inr c.in_err-stripes.ensures.listed))
