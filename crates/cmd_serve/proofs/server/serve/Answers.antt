use Rattle.std.proofs.Common.{inl, inr, refl}
use Rattle.cmd_serve.proofs.server.serve.Goals as goal

pub returns-in-Ok-first_error : goal.returns-in-Ok-first_error
returns-in-Ok-first_error g c = inl (record {
  settings = c.in-Ok.settings;
  named = c.in-Ok.ensures.ok;
  ends = inl (record { disk = c.in-Ok-open_directory.disk; opened = c.in-Ok-open_directory.ensures.opened; hosts = c.serve_disk.ensures });
})

pub returns-in-Err-first_error : goal.returns-in-Err-first_error
returns-in-Err-first_error g c = inl (record {
  settings = c.in-Ok.settings;
  named = c.in-Ok.ensures.ok;
  ends = inr (inl (c.in-Ok-open_directory.disk, c.in-Ok-open_directory.ensures.opened), (refl, c.refuse.ensures));
})

pub returns-in-Err-open_directory : goal.returns-in-Err-open_directory
returns-in-Err-open_directory g c =
    let refused = c.in-Err-open_directory in inl (record {
      settings = c.in-Ok.settings;
      named = c.in-Ok.ensures.ok;
      ends = inr (inr (record { cause = refused.cause; refused = refused.ensures.refused; waits = refused.ensures.waits }), (refl, c.cannot_open.ensures));
    })
