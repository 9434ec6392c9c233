use Rattle.std.proofs.Common.{[]}
use Rattle.view_walk.specs.Viewing.{Shows}
use Rattle.view_walk.proofs.Lending.{none_lent}
use Rattle.view_walk.proofs.walk.ViewWalk.new.Goals as goal

pub returns : goal.returns
returns c = λ n b some none. record {
  sections = [];
  parts = c.new-parts.ensures.fits n b some none;
  shows = none_lent (λ ys. Shows c.new-captured.result.items ys) [] _ c.new-parts.ensures.lends (rw c.new-captured.ensures.items tt);
}
