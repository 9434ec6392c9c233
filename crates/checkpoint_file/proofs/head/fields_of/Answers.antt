use Rattle.std.proofs.Common.{List, ℕ, drop, ◌∙◌, arith}
use Rattle.byteorder.specs.Numbers.{big_from-take}
use Rattle.checkpoint_file.proofs.head.fields_of.Goals as goal

pub returns-clause-fields : goal.returns-clause-fields
returns-clause-fields c =
    let bytes : List ℕ = c.args.bytes.now in
    record {
      generation = c.read_u64.ensures ∙ big_from-take 0 8 34 (drop 2 bytes) (omega arith);
      low = c.read_u64-2.ensures ∙ big_from-take 0 8 26 (drop 10 bytes) (omega arith);
      greatest = c.read_u64-3.ensures ∙ big_from-take 0 8 18 (drop 18 bytes) (omega arith);
      stripes = c.read_u16.ensures ∙ big_from-take 0 2 10 (drop 26 bytes) (omega arith);
      body = c.read_u64-4.ensures ∙ big_from-take 0 8 8 (drop 28 bytes) (omega arith);
    }
