use Rattle.std.proofs.Common.{take, IsUtf8, sym, subst}
use Rattle.std.proofs.lemmas.Str.{IsUtf8-had}
use Rattle.map_types.proofs.short_texts.ShortText.as_str.Goals as goal

pub from_utf8_unchecked-requires : goal.from_utf8_unchecked-requires
from_utf8_unchecked-requires c =
    subst (λ len. IsUtf8 (take len c.self.inside.bytes)) (sym c.from.ensures) (IsUtf8-had _ c.self.invariant.1)
