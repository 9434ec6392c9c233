use Rattle.std.proofs.Common.{inl, refl}
use Rattle.map_server.proofs.program.mem.Goals as goal

pub returns-in-Ok-serve_connection : goal.returns-in-Ok-serve_connection
returns-in-Ok-serve_connection g c =
    inl (record {
      before = c.in-Ok.memory;
      after = c.serve_connection.new.calls;
      empty = c.in-Ok.ensures.empty;
      result = c.serve_connection.result;
      connection = c.serve_connection.ensures;
      status_is = rw c.in-Ok-serve_connection.is refl;
    })

pub returns : goal.returns
returns g c =
    inl (record {
      before = c.in-Ok.memory;
      after = c.serve_connection.new.calls;
      empty = c.in-Ok.ensures.empty;
      result = c.serve_connection.result;
      connection = c.serve_connection.ensures;
      status_is = rw c.in-Err-serve_connection.is c.report.ensures;
    })
