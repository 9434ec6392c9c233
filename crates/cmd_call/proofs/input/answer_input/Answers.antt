use Rattle.std.proofs.Common.{◌≡◌, ◌<◌, ◌∙◌, ℕ, List, [], length, take, refl, subst, sym, ap, arith}
use Rattle.std.specs.Io.KnownBytes.{Consumes}
use Rattle.std.proofs.lemmas.Result.{err_from_is_err_and}
use Rattle.wire_frames.proofs.Received.{piece_is}
use Rattle.cmd_call.specs.Lines.{asked_frames}
use Rattle.cmd_call.proofs.Appending.{consumes_none}
use Rattle.cmd_call.proofs.Reading.{end_answers, end_stops, read_more, read_none, read_stops, stopped}
use Rattle.cmd_call.proofs.input.answer_input.Goals as goal

pub returns-in_err-room : goal.returns-in_err-room
returns-in_err-room g c =
    let from = err_from_is_err_and c.from_residual.result c.from_residual.ensures.1 in
    rw from.1 (stopped _ _ _ _ [] _ _ _ _ [] 0 [] (read_none _ _ _ _ [] [] refl refl) (consumes_none _))

pub reads-init : goal.reads-init
reads-init g c =
    (read_none _ _ _ _ _ _ c.new.ensures.items c.new-2.ensures.asked, c.new-2.ensures.frames ∙ sym (ap asked_frames c.new-2.ensures.asked), c.in_ok-room.ensures)

pub returns-in_err-len : goal.returns-in_err-len
returns-in_err-len g c =
    let from = err_from_is_err_and c.from_residual-in_err-len.result c.from_residual-in_err-len.ensures.1 in
    rw from.1 (stopped _ _ _ _ _ _ _ _ _ _ _ [] c.reads.invariant.0 c.in_err-len.ensures.bytes)

pub returns-in_err-finish : goal.returns-in_err-finish
returns-in_err-finish g c =
    let from = err_from_is_err_and c.from_residual-in_err-finish.result c.from_residual-in_err-finish.ensures.1 in
    rw from.1 (end_stops _ _ _ _ _ _ _ _ _ _ _ _ c.read_piece.new.room c.in_ok-len.len c.reads.invariant.0 c.in_ok-len.ensures.bytes.0 c.if-len-eq0.true c.in_err-finish.ensures.breaks)

pub returns-then-len-eq0 : goal.returns-then-len-eq0
returns-then-len-eq0 g c =
    let gave = c.in_ok-len.ensures.bytes in
    let room : 0 < length c.read_piece.new.room = omega (arith, c.deref_mut.ensures.len, c.reads.invariant.2) in
    end_answers _ _ _ _ _ _ _ _ _ _ _ _ c.read_piece.new.room c.in_ok-len.len c.reads.invariant.0 gave.0 c.if-len-eq0.true _ _ (gave.1 c.if-len-eq0.true room) c.in_ok-finish.ensures.answers

pub returns-in_err-take_piece : goal.returns-in_err-take_piece
returns-in_err-take_piece g c =
    let from = err_from_is_err_and c.from_residual-in_err-take_piece.result c.from_residual-in_err-take_piece.ensures.1 in
    let room : length c.read_piece.new.room ≡ c.reads.room.len = omega (arith, c.deref_mut.ensures.len) in
    let piece = c.split_at.ensures.front ∙ ap (take c.in_ok-len.len) c.deref.ensures.value ∙ piece_is c.read_piece.new.room c.reads.room.items c.reads.room.len c.in_ok-len.len room in
    let next = subst (λ (bytes : List ℕ). Consumes (g.I.Read.remaining c.reads.input) (g.I.Read.remaining c.read_piece.new.input) bytes) (sym piece) c.in_ok-len.ensures.bytes.0 in
    rw from.1 (read_stops _ _ _ _ _ _ _ _ _ _ _ c.split_at.result.0.now c.reads.invariant.0 next _ c.in_err-take_piece.ensures.breaks)

pub reads-preserved : goal.reads-preserved
reads-preserved g c =
    let room : length c.read_piece.new.room ≡ c.reads.room.len = omega (arith, c.deref_mut.ensures.len) in
    let piece = c.split_at.ensures.front ∙ ap (take c.in_ok-len.len) c.deref.ensures.value ∙ piece_is c.read_piece.new.room c.reads.room.items c.reads.room.len c.in_ok-len.len room in
    let next = subst (λ (bytes : List ℕ). Consumes (g.I.Read.remaining c.reads.input) (g.I.Read.remaining c.read_piece.new.input) bytes) (sym piece) c.in_ok-len.ensures.bytes.0 in
    (read_more _ _ _ _ _ _ _ _ _ _ _ c.split_at.result.0.now c.reads.invariant.0 next _ _ _ _ _ c.in_ok-take_piece.ensures.goes_on, c.in_ok-take_piece.ensures.frames, c.reads.invariant.2)

pub returns : goal.returns
returns g c = stopped _ _ _ _ _ _ _ _ _ _ _ [] c.reads.invariant.0 (consumes_none _)
