use Rattle.std.proofs.Common.{◌∙◌, sym, ap, subst}
use Rattle.java_hash.proofs.StripeLaws.{some_stripe}
use Rattle.disk_model.specs.Files.{now}
use Rattle.log_records.specs.declared.versions.Version.{Version}
use Rattle.log_records.specs.Layout.{layout_of}
use Rattle.store_layout.specs.Opening.{Contents, newest_of}
use Rattle.recovery.specs.LogReading.{GoesOnIn, contents_of}
use Rattle.recovery.proofs.Finding.{found_for, limit_found}
use Rattle.gate_log.specs.States.{LogState}
use Rattle.recovery.proofs.SyncingLemmas.{left_as_read, settled}
use Rattle.recovery.proofs.opening.open_parts_by.Goals as goal

pub returns-in-Err-clause-err : goal.returns-in-Err-clause-err
returns-in-Err-clause-err g c = λ honest. (c.in-Err.ensures.was_honest honest, c.in-Err.ensures.err honest)

pub returns-in-Ok-clause-stops : goal.returns-in-Ok-clause-stops
returns-in-Ok-clause-stops g c =
    rw c.opened-keeper.ensures.disk (left_as_read g.D.Disk.states g.D.Disk.failures g.D.Disk.honest 0 c.args.disk c.open_files.new.disk c.in-Ok.ensures.calls)

pub returns-in-Ok-clause-start : goal.returns-in-Ok-clause-start
returns-in-Ok-clause-start g c =
    let store = c.opened-keeper.ensures.store in
    let other = c.opened-keeper.ensures.checkpoint in
    record {
      resumed = rw store.1 c.in-Ok.ensures.resumed;
      committed = ap (λ (log : LogState). log.committed) store.1 ∙ sym c.committed-first.ensures;
      published = c.opened-keeper.ensures.published ∙ sym c.committed-first.ensures;
      hand = rw c.committed-first.ensures c.opened-keeper.ensures.hand;
      sweep = c.opened-keeper.ensures.sweep.0;
      walking = c.opened-keeper.ensures.sweep.1;
      staged = c.opened-keeper.ensures.staged;
      next = store.2;
      checkpoint = other.0;
      capture = other.1;
      stripes_are = other.2;
      working = c.opened-keeper.ensures.works.0;
      unfailed = c.opened-keeper.ensures.works.1;
    }

pub returns-in-Ok-clause-fits : goal.returns-in-Ok-clause-fits
returns-in-Ok-clause-fits g c = λ p opening unused.
    let contents : Contents = contents_of g.D.Disk.states c.args.disk in
    let some = some_stripe c.args.stripes.count c.args.stripes.allowed in
    c.opened-keeper.ensures.fits p c.in-Ok.ensures.resumed (rw (c.committed-first.ensures, c.key_limit-limit.ensures, c.version.ensures) at unused)
    (λ honest. found_for c.laws_of_parts.ensures.union contents c.args.stripes.count some c.in-Ok.restored (c.in-Ok.ensures.ok honest) p
    c.key_limit-limit.result (now (g.D.Disk.states c.open_files.new.disk)) c.in-Ok.must_close
    (settled g.D.Disk.states g.D.Disk.failures g.D.Disk.honest 0 c.args.disk c.open_files.new.disk c.in-Ok.ensures.calls)
    (c.in-Ok.ensures.gate honest) c.in-Ok.ensures.resumed (rw c.committed-first.ensures at opening))

pub returns-in-Ok-clause-made : goal.returns-in-Ok-clause-made
returns-in-Ok-clause-made g c = rw c.opened-keeper.ensures.disk c.in-Ok.ensures.made

pub returns-in-Ok-clause-limit : goal.returns-in-Ok-clause-limit
returns-in-Ok-clause-limit g c =
    c.key_limit-limit.ensures ∙ ap (λ (v : Version). (layout_of v).key_limit) (c.version.ensures ∙ sym (ap (λ (log : LogState). log.version) c.opened-keeper.ensures.store.1))

pub returns-in-Ok-clause-ok : goal.returns-in-Ok-clause-ok
returns-in-Ok-clause-ok g c = λ honest.
    let contents : Contents = contents_of g.D.Disk.states c.args.disk in
    let store = c.opened-keeper.ensures.store in
    let was : g.D.Disk.honest c.open_files.new.disk = rw c.opened-keeper.ensures.disk at honest in
    let opened = c.in-Ok.ensures.ok was in (
      c.in-Ok.ensures.was_honest was,
      record {
        found = opened.found;
        holds = opened.holds;
        sealed = store.0 ∙ opened.sealed;
        log = subst (λ (log : LogState). GoesOnIn contents (newest_of opened.found) log) (sym store.1) opened.log;
        first_is = c.committed-first.ensures ∙ opened.committed;
        limit_is = c.key_limit-limit.ensures ∙ ap (λ (v : Version). (layout_of v).key_limit) c.version.ensures ∙ limit_found contents opened.found c.in-Ok.restored.log opened.log;
        divided = opened.divided;
      },
    )
