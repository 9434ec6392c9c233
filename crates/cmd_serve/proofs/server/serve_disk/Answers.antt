use Rattle.std.proofs.Common.{inl, inr}
use Rattle.cmd_serve.proofs.server.serve_disk.Goals as goal

pub returns-in-Ok-open_map : goal.returns-in-Ok-open_map
returns-in-Ok-open_map g c =
    let ok = c.in-Ok-open_map.ensures.ok c.args.disk c.in-Ok.ensures.ok in record {
      new = ok.0;
      ends = inr (record { listens = c.in-Ok-listen.ensures; ends = inl (ok.1, c.serve_opened.ensures) });
    }
