use Rattle.map_server.proofs.order.place_in.Goals as goal

pub returns : goal.returns
returns c = record { port = c.word_in.ensures; socket = c.word_in-2.ensures; timeout = c.word_or.ensures }
