use Rattle.std.proofs.Common.{◌≡◌, min, ap, ◌∙◌}
use Rattle.std.specs.FinMap as finite
use Rattle.bin_transfer.specs.GrowingState.{GrowingState}
use Rattle.atomic_methods.specs.PartState.{PartState}
use Rattle.atomic_methods.proofs.EmptyLaws.{no_entry, empty_len}
use Rattle.atomic_methods.proofs.parts.Part.is_empty.Goals as goal

pub returns : goal.returns
returns c =
    let map : c.deref.result.now.map ≡ c.args.self.now.map = ap (λ (g : GrowingState). g.map) c.deref.ensures ∙ ap (λ (p : PartState). p.map) c.self.view_is in
    let len : c.len.result ≡ min (finite.len c.args.self.now.map) 18446744073709551615 = c.len.ensures ∙ ap (λ m. min (finite.len m) 18446744073709551615) map in
    (λ zero. no_entry c.args.self.now.map c.len.result len zero, λ is. empty_len c.args.self.now.map c.len.result len is)
