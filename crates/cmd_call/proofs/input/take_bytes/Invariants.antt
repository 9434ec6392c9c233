use Rattle.std.proofs.Common.{◌≡◌, ℕ, List, ◌++◌, take}
use Rattle.cmd_call.specs.Client.{Known}
use Rattle.cmd_call.specs.Lines.{Ends, asked_frames, ends_of}
use Rattle.cmd_call.specs.Inputs.{Reads}
use Rattle.cmd_call.proofs.input.take_bytes.Given as goal

abbrev pub invariant-loop-byte : goal.invariant-loop-byte
invariant-loop-byte g l =
    (l.lines.round.frames.items ≡ asked_frames l.lines.round.asked.items)
    × ((bytes : List ℕ) (e : Ends) (o : Known)
    → Reads g.R.Replies.fails bytes l.initial.lines.part.items e (ends_of g.R.Read.remaining g.W.Write.contents l.initial.server) o (g.O.Write.contents l.initial.output) l.initial.lines.round.asked.items l.initial.lines.status
    → Reads g.R.Replies.fails (bytes ++ take l.byte-index l.piece) l.lines.part.items e (ends_of g.R.Read.remaining g.W.Write.contents l.server) o (g.O.Write.contents l.output) l.lines.round.asked.items l.lines.status)
