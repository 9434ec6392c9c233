-- What a growth that was helped stays.
use Rattle.std.proofs.Common.{◌≡◌, None, Some, ap, ◌∙◌, inl, inr, subst, sym}
use Rattle.std.specs.Prelude.{if◌then◌else◌}
use Rattle.bin_transfer.specs.Split.{AfterHelp}
use Rattle.bin_transfer.specs.Due.{is_due}
use Rattle.atomic_methods.specs.PartState.{Growth, PartState, HasGrown, growing_of}

-- what leaves the growth may change the entries
pub grown_still : (before mid after : PartState) → after.growth ≡ mid.growth → HasGrown before mid → HasGrown before after
grown_still before mid after same grown = elim grown [
  | inl off ↦ inl record { due = off.due; bins = ap (λ (g : Growth). g.bins) same ∙ off.bins; moved = ap (λ (g : Growth). g.moved) same ∙ off.moved }
  | inr on ↦ inr record {
    count = on.count;
    helped = subst (λ (g : Growth). AfterHelp before.growth.bins (if is_due (growing_of before) then Some 0 else before.growth.moved) on.count g.bins g.moved) (sym same) on.helped;
  }
]
