-- The head of a checkpoint's file, as it is read.
use Rattle.std.specs.Prelude.{◌≡◌, ℕ, List, None, true}
use Rattle.log_records.specs.Layout.{layout_of}
use Rattle.store_layout.specs.Checkpoints.{is_sealed}
pub use Rattle.store_layout.specs.Failures.{failed_in}
use Rattle.store_layout.specs.Faults.{body_length_in, generation_in, greatest_in, head_fault, low_in, stripes_in}
use Rattle.store_layout.specs.Faults.{version_in}
use Rattle.checkpoint_file.specs.declared.head.Head.{Head}

-- these are the fields of the header
pub record HasFields (head : Head) (content : List ℕ) : Type 0 where
  pub generation : head.generation ≡ generation_in content
  pub low : head.low ≡ low_in content
  pub greatest : head.greatest_mark ≡ greatest_in content
  pub stripes : head.stripes ≡ stripes_in content
  pub body : head.body_len ≡ body_length_in content

-- the head of a sealed checkpoint that has no fault, and its version
pub record IsHead (head : Head) (file : ℕ) (content : List ℕ) : Type 0 where
  pub opened : is_sealed content ≡ true
  pub faultless : head_fault file content ≡ None
  pub version : (layout_of head.version).version ≡ version_in content
  pub fields : HasFields head content
