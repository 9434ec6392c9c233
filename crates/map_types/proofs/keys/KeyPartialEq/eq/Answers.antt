use Rattle.std.proofs.Common.{◌∙◌, ap₂}
use Rattle.std.specs.Ordering.{nat_cmp, eq_by_cmp}
use Rattle.std.specs.Cmp.Lexicographic.{slice_cmp, texts_ties}
use Rattle.map_types.proofs.keys.KeyPartialEq.eq.Goals as goal

pub returns : goal.returns
returns c = c.eq.ensures ∙ texts_ties c.as_str.result.now c.as_str-2.result.now ∙ ap₂ (eq_by_cmp (slice_cmp nat_cmp)) c.as_str.ensures.text c.as_str-2.ensures.text
