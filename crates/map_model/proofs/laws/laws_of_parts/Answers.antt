use Rattle.java_hash.proofs.StripeLaws.{stripe_of_within}
use Rattle.map_model.proofs.FoldLaws.{part_of-map_after}
use Rattle.map_model.proofs.MapLaws.{step-part_of, step-part_of_other, answer-part_of}
use Rattle.map_model.proofs.UnionLaws.{union_of-parts_of}
use Rattle.map_model.proofs.laws.laws_of_parts.Goals as goal

pub returns : goal.returns
returns c = record {
  union = λ n m some. union_of-parts_of n m (λ q. stripe_of_within n q some);
  steps = λ n s m c. (step-part_of n s m c, step-part_of_other n s m c);
  answers = answer-part_of;
  folds = part_of-map_after;
}
