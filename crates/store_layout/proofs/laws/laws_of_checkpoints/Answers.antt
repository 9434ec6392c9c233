use Rattle.std.proofs.Common.{◌%◌, refl}
use Rattle.store_layout.proofs.CheckpointFields.{has_generation, has_head, never_bad, one_bad, one_checkpoint, sealed}
use Rattle.store_layout.proofs.CheckpointReading.{fields_make}
use Rattle.store_layout.proofs.Openings.{older_checkpoint, shut_unsealed}
use Rattle.store_layout.proofs.laws.laws_of_checkpoints.Goals as goal

pub returns : goal.returns
returns c = record {
  one = λ layout k j content room. one_checkpoint layout room k j content;
  one_fault = λ layout file content a b room. one_bad layout room file content a b;
  no_fault = λ layout file k content refusal room. never_bad layout room file content k refusal;
  head = λ layout k content is_version is. (sealed layout k content is, has_generation layout k content is, has_head layout k content is is_version (k.generation % 2) refl);
  fields = fields_make;
  older = older_checkpoint;
  shut = shut_unsealed;
  empty = refl;
}
