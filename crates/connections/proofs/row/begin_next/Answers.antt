use Rattle.std.proofs.Common.{inr}
use Rattle.wire_frames.specs.Messages.{AsksWholeMap}
use Rattle.connections.proofs.Beginning.{ends_so, goes_so}
use Rattle.connections.proofs.Owning.{owns_begun}
use Rattle.connections.proofs.row.begin_next.Goals as goal

pub returns-in-Some-clause-begun : goal.returns-in-Some-clause-begun
returns-in-Some-clause-begun g c =
    let is_bulk = c.begins_bulk-is_bulk.ensures in
    let asks = λ (whole : AsksWholeMap c.in-Some.message). is_bulk.1 (c.whole_map_begins_bulk.ensures _ _ c.in-Some.message c.in-Some.ensures.some whole) in
    inr (c.in-Some.message, c.place_of.result, c.in-Some.ensures.some, c.place_of.ensures.started, c.push_back_reserved.ensures.items, λ whole. c.is_to_wait.ensures.goes_on c.if-is_to_wait.false (asks whole), λ last. ends_so _ _ _ is_bulk.0 (c.is_last-is_last.ensures.last last), λ on. goes_so _ _ asks (c.is_last-is_last.ensures.goes_on on))

pub returns-in-Some-clause-owned : goal.returns-in-Some-clause-owned
returns-in-Some-clause-owned g c =
    owns_begun g.C.Calls.owns _ _ _ _ _ c.push_back_reserved.ensures.items c.requires.owned c.place_of.ensures.others c.place_of.ensures.owned
