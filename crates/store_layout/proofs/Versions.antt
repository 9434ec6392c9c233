-- The layouts of the versions that are read.
use Rattle.std.proofs.Common.{◌≡◌, ℕ, Bool, true, false, ◌==◌, ◌||◌, cond, List, refl, sym, ap, ◌∙◌, arith}
use Rattle.std.specs.Prelude.{slice_index_or}
use Rattle.std.proofs.lemmas.Bool.{eqb-true}
use Rattle.log_records.specs.Layout.{Layout, IsLayout, first_layout, second_layout}
use Rattle.store_layout.specs.Logs.{is_read, layout_for}
use Rattle.store_layout.specs.Readings.{HasHeader}
use Rattle.store_layout.specs.Opening.{log_layout}

-- each length up to the limit fits its bytes
pub room_for : (byte : ℕ) → IsLayout (layout_for byte)
room_for byte = by (byte == 2)
  where
    by : (second : Bool) → IsLayout (cond second second_layout first_layout)
    by true = omega arith
    by false = omega arith

-- every layout is one of a version that is read
pub read_for : (byte : ℕ) → is_read (layout_for byte).version ≡ true
read_for byte = by (byte == 2)
  where
    by : (second : Bool) → is_read (cond second second_layout first_layout).version ≡ true
    by true = refl
    by false = refl

-- a byte that is read is its layout's version
pub version_for : (byte : ℕ) → is_read byte ≡ true → (layout_for byte).version ≡ byte
version_for byte e = by (byte == 1) (byte == 2) refl refl e
  where
    by : (first second : Bool) → (byte == 1) ≡ first → (byte == 2) ≡ second → (first || second) ≡ true → (cond second second_layout first_layout).version ≡ byte
    by first true a b e = sym (eqb-true _ _ b)
    by true false a b e = sym (eqb-true _ _ a)
    by false false a b e = absurd (let no : false ≡ true = e in cc)

-- the byte that a log's header begins with
pub header_layout : (v g l : ℕ) (content : List ℕ) → HasHeader v g l content → log_layout content ≡ layout_for v
header_layout v g l content h = ap (λ (c : List ℕ). layout_for (slice_index_or c 0 0)) h.bytes

pub header_version : (v g l : ℕ) (content : List ℕ) → HasHeader v g l content → is_read v ≡ true → v ≡ (log_layout content).version
header_version v g l content h e = sym (ap (λ (layout : Layout). layout.version) (header_layout v g l content h) ∙ version_for v e)
