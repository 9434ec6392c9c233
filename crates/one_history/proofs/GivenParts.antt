-- The parts that a function is given, and a value of no bytes.
use Rattle.std.proofs.Common.{[], ◌∷◌}
use mir.Val.{Val, vstruct, vcons, vnil}
use denote.Builtin.{SliceRefOf}
use denote.Signature.{Slot, plain}
use Rattle.atomic_methods.specs.contracts.parts.Part as Part

abbrev pub parts : Slot 1
parts = SliceRefOf (0 ∷ []) tt (plain (λ κs. Part.the_row)) (λ κs. tt)

abbrev pub nothing_in : Val
nothing_in = vstruct (vcons (vstruct vnil) vnil)
