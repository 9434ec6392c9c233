use Rattle.std.proofs.Common.{◌≡◌, rules}
use Rattle.std.specs.Int.{w64, cast_unsigned}
use Rattle.wire_frames.proofs.replies.write_value.Goals as goal

pub returns-in-Int : goal.returns-in-Int
returns-in-Int g c =
    let bits : c.cast_unsigned-bits.result ≡ cast_unsigned w64 c.in-Int.number = search rules in
    rw c.in-Int.is (rw bits at c.write_number.ensures)
