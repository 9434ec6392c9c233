use Rattle.std.proofs.Common.{◌≡◌, vec_len}
use Rattle.cmd_call.specs.Lines.{asked_frames, ends_of}
use Rattle.cmd_call.proofs.Reading.{Read}
use Rattle.cmd_call.proofs.input.answer_input.Given as goal

abbrev pub invariant-reads : goal.invariant-reads
invariant-reads g l =
    Read g.R.Replies.fails (g.I.Read.remaining l.initial.input) (g.I.Read.remaining l.input) l.lines.part.items
    (ends_of g.R.Read.remaining g.W.Write.contents l.initial.server) (ends_of g.R.Read.remaining g.W.Write.contents l.server)
    (g.O.Write.contents l.initial.output) (g.O.Write.contents l.output) l.lines.round.asked.items l.lines.status
    × (l.lines.round.frames.items ≡ asked_frames l.lines.round.asked.items)
    × (vec_len l.room ≡ 16384)
