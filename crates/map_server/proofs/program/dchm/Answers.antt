use Rattle.std.proofs.Common.{map, refl, string_bytes}
use Rattle.map_server.proofs.CommandLines.{advised, obeys}
use Rattle.map_server.specs.declared.order.Order.TheVariants.{Mem, Init, Check, Serve, Call, Sim}
use Rattle.map_server.proofs.program.dchm.Goals as goal

pub returns-in-Ok-Mem : goal.returns-in-Ok-Mem
returns-in-Ok-Mem g c =
    obeys _ _ _ _ _ _ _ _ _ _ _ _ (map (λ s. string_bytes s) c.args.words.now) Mem _ _ _ _ _ c.in-Ok-Mem.ensures.known (rw c.in-Ok-Mem.field-0-is at c.in-Ok-Mem.ensures.asks) c.mem.ensures

pub returns-in-Ok-Init : goal.returns-in-Ok-Init
returns-in-Ok-Init g c =
    obeys _ _ _ _ _ _ _ _ _ _ _ _ (map (λ s. string_bytes s) c.args.words.now) (Init c.in-Ok-Init.directory c.in-Ok-Init.stripes) _ _ _ _ _ c.in-Ok-Init.ensures.known (rw c.in-Ok-Init.field-0-is at c.in-Ok-Init.ensures.asks) (refl, c.init.ensures)

pub returns-in-Ok-Check : goal.returns-in-Ok-Check
returns-in-Ok-Check g c =
    obeys _ _ _ _ _ _ _ _ _ _ _ _ (map (λ s. string_bytes s) c.args.words.now) (Check c.in-Ok-Check.directory) _ _ _ _ _ c.in-Ok-Check.ensures.known (rw c.in-Ok-Check.field-0-is at c.in-Ok-Check.ensures.asks) (refl, c.check.ensures)

pub returns-in-Ok-Serve : goal.returns-in-Ok-Serve
returns-in-Ok-Serve g c =
    obeys _ _ _ _ _ _ _ _ _ _ _ _ (map (λ s. string_bytes s) c.args.words.now) (Serve c.in-Ok-Serve.words) _ _ _ _ _ c.in-Ok-Serve.ensures.known (rw c.in-Ok-Serve.field-0-is at c.in-Ok-Serve.ensures.asks) (refl, c.serve.ensures)

pub returns-in-Ok-Call : goal.returns-in-Ok-Call
returns-in-Ok-Call g c =
    obeys _ _ _ _ _ _ _ _ _ _ _ _ (map (λ s. string_bytes s) c.args.words.now) (Call c.in-Ok-Call.at c.in-Ok-Call.words) _ _ _ _ _ c.in-Ok-Call.ensures.known (rw c.in-Ok-Call.field-0-is at c.in-Ok-Call.ensures.asks) (rw c.as_slice.ensures.value at c.make_calls.ensures)

pub returns-in-Ok-Sim : goal.returns-in-Ok-Sim
returns-in-Ok-Sim g c =
    obeys _ _ _ _ _ _ _ _ _ _ _ _ (map (λ s. string_bytes s) c.args.words.now) (Sim c.in-Ok-Sim.file) _ _ _ _ _ c.in-Ok-Sim.ensures.known (rw c.in-Ok-Sim.field-0-is at c.in-Ok-Sim.ensures.asks) (refl, c.sim.ensures)

pub returns-in-Err : goal.returns-in-Err
returns-in-Err g c = advised _ _ _ _ _ _ _ _ _ _ _ _ (map (λ s. string_bytes s) c.args.words.now) _ _ _ _ _ c.in-Err.ensures.known c.advise.ensures
