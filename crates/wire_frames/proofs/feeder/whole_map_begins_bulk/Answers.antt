use Rattle.wire_frames.proofs.BulkFrames.{whole_map_begins_bulk}
use Rattle.wire_frames.proofs.feeder.whole_map_begins_bulk.Goals as goal

pub returns : goal.returns
returns c = whole_map_begins_bulk
