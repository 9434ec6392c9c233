use Rattle.map_server.proofs.order.server_in.Goals as goal

pub returns : goal.returns
returns c = record {
  directory = c.word_or.ensures;
  standby = c.is_given.ensures;
  port = c.place_in-at.ensures.port;
  socket = c.place_in-at.ensures.socket;
  mode = c.word_or-2.ensures;
  stripes = c.word_or-3.ensures;
  workers = c.word_or-4.ensures;
  connections = c.word_or-5.ensures;
  bytes = c.word_or-6.ensures;
  idle = c.word_or-7.ensures;
  ahead = c.word_or-8.ensures;
  report = c.word_in.ensures;
}
