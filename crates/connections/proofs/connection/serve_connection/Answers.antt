use Rattle.std.proofs.Common.{◌≡◌, ◌<◌, ◌≤◌, length, take, sym, ap, ◌∙◌, arith, inl, inr}
use Rattle.std.specs.declared.io.ErrorKind.TheVariants.{Interrupted, TimedOut}
use Rattle.std.proofs.lemmas.List.{length-take}
use Rattle.std.proofs.lemmas.Result.{err_from_is_err_and}
use Rattle.wire_frames.proofs.Received.{piece_is}
use Rattle.std.specs.VecDeque.{deque_capacity}
use Rattle.connections.specs.Past.{standing}
use Rattle.connections.proofs.Driven.{answered_all, answered_so_far, broken_read, broken_start, received_so, serving_but, serving_cut, serving_ended, serving_more, serving_none}
use Rattle.connections.proofs.connection.serve_connection.Goals as goal

pub returns-in_err-room : goal.returns-in_err-room
returns-in_err-room g c =
    let from = err_from_is_err_and c.from_residual.result c.from_residual.ensures.1 in
    rw (from.1, from.2) (broken_start _ _ _ _ _ _)

pub returns-in_err-make_room : goal.returns-in_err-make_room
returns-in_err-make_room g c =
    let from = err_from_is_err_and c.from_residual-in_err-make_room.result c.from_residual-in_err-make_room.ensures.1 in
    rw (from.1, from.2) (broken_start _ _ _ _ _ _)

pub reads-init : goal.reads-init
reads-init g c =
    (serving_none _ _ _ _ _ _ _ (c.in_ok-make_room.ensures.same ∙ c.new-connection.ensures.fresh), c.in_ok-room.ensures, c.in_ok-make_room.ensures.room)

pub returns-in_err-len : goal.returns-in_err-len
returns-in_err-len g c =
    let from = err_from_is_err_and c.from_residual-in_err-len.result c.from_residual-in_err-len.ensures.1 in
    rw (from.1, from.2) (broken_read _ _ _ _ _ _ _ _ _ _ _ _ c.read_piece.new.room c.reads.invariant.0 c.in_err-len.ensures.bytes)

pub returns-then-len-eq0 : goal.returns-then-len-eq0
returns-then-len-eq0 g c =
    let gave = c.in_ok-len.ensures.bytes in
    let room : 0 < length c.read_piece.new.room = omega (arith, c.deref_mut.ensures.len, c.reads.invariant.1) in
    inr (gave.1 c.if-len-eq0.true room, answered_all _ _ _ _ _ _ _ _ _ _ _ _ _ c.if-len-eq0.true c.reads.invariant.0 gave.0)

pub split_at-requires : goal.split_at-requires
split_at-requires g c = omega (arith, c.deref.ensures.len, c.deref_mut.ensures.len, c.in_ok-len.ensures.bound)

pub returns-in_err-receive : goal.returns-in_err-receive
returns-in_err-receive g c =
    let from = err_from_is_err_and c.from_residual-in_err-receive.result c.from_residual-in_err-receive.ensures.1 in
    let room : length c.read_piece.new.room ≡ 65536 = omega (arith, c.deref_mut.ensures.len, c.reads.invariant.1) in
    let few : length (take c.in_ok-len.len c.read_piece.new.room) ≤ 65536 = omega (arith, room, length-take c.in_ok-len.len c.read_piece.new.room) in
    rw (from.1, from.2) (serving_but _ _ _ _ _ _ _ _ _ _ _ c.reads.invariant.0 _ c.in_ok-len.ensures.bytes.0 65536 few)

pub take_turns-requires : goal.take_turns-requires
take_turns-requires g c =
    let before = c.reads.invariant.0 in
    rw c.in_ok-receive.ensures.ok (record { idle = before.served.1; unsent = before.served.2; stage = before.served.3; room = c.reads.invariant.2 })

pub returns-in-Err : goal.returns-in-Err
returns-in-Err g c =
    let room : length c.read_piece.new.room ≡ c.reads.room.len = omega (arith, c.deref_mut.ensures.len) in
    let piece = c.split_at.ensures.front ∙ ap (take c.in_ok-len.len) c.deref.ensures.value ∙ piece_is c.read_piece.new.room c.reads.room.items c.reads.room.len c.in_ok-len.len room in
    let same = received_so (standing c.reads.connection) _ _ _ (ap standing c.in_ok-receive.ensures.ok) piece in
    serving_cut _ _ _ _ _ _ _ _ _ _ _ c.reads.invariant.0 _ c.in_ok-len.ensures.bytes.0 _ same _ _ c.in-Err.ensures.turned

pub returns-then-has_ended : goal.returns-then-has_ended
returns-then-has_ended g c =
    let room : length c.read_piece.new.room ≡ c.reads.room.len = omega (arith, c.deref_mut.ensures.len) in
    let piece = c.split_at.ensures.front ∙ ap (take c.in_ok-len.len) c.deref.ensures.value ∙ piece_is c.read_piece.new.room c.reads.room.items c.reads.room.len c.in_ok-len.len room in
    let same = received_so (standing c.reads.connection) _ _ _ (ap standing c.in_ok-receive.ensures.ok) piece in
    inl (serving_ended _ _ _ _ _ _ _ _ _ _ _ c.reads.invariant.0 _ c.in_ok-len.ensures.bytes.0 _ same _ _ _ c.in-Ok.ensures.turned (c.has_ended.ensures.ended c.if-has_ended.true))

pub reads-preserved : goal.reads-preserved
reads-preserved g c =
    let room : length c.read_piece.new.room ≡ c.reads.room.len = omega (arith, c.deref_mut.ensures.len) in
    let piece = c.split_at.ensures.front ∙ ap (take c.in_ok-len.len) c.deref.ensures.value ∙ piece_is c.read_piece.new.room c.reads.room.items c.reads.room.len c.in_ok-len.len room in
    let same = received_so (standing c.reads.connection) _ _ _ (ap standing c.in_ok-receive.ensures.ok) piece in
    let capacity = ap (λ x. deque_capacity x.row) c.in_ok-receive.ensures.ok in
    (serving_more _ _ _ _ _ _ _ _ _ _ _ c.reads.invariant.0 _ c.in_ok-len.ensures.bytes.0 _ same _ _ _ c.in-Ok.ensures.turned (c.has_ended.ensures.not c.if-has_ended.false), c.reads.invariant.1, omega (arith, c.in-Ok.ensures.capacity, capacity, c.reads.invariant.2))

pub returns : goal.returns
returns g c =
    (answered_so_far _ _ _ _ _ _ _ _ _ _ c.reads.invariant.0, λ h. let no : TimedOut ≡ Interrupted = sym c.from-error.ensures ∙ h in cc)
