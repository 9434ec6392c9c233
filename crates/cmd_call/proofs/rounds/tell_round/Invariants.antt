use Rattle.std.proofs.Common.{string_bytes, take}
use Rattle.cmd_call.specs.Lines.{ends_of}
use Rattle.cmd_call.specs.Rounds.{TellsRound}
use Rattle.cmd_call.proofs.rounds.tell_round.Given as goal

abbrev pub invariant-loop-line : goal.invariant-loop-line
invariant-loop-line g l =
    TellsRound g.R.Replies.fails (ends_of g.R.Read.remaining g.W.Write.contents l.initial.server) (ends_of g.R.Read.remaining g.W.Write.contents l.server)
    (string_bytes l.initial.text) (string_bytes l.text) (take l.line-index l.asked) l.initial.status l.status
