-- Which files differ.
use Rattle.std.proofs.Common.{◌≡◌, ◌≢◌, ℕ, ◌+◌, ◌<◌, sym, subst, arith}
use Rattle.disk_model.specs.Files.{File, Files, with_file}
use Rattle.disk_model.proofs.FileLemmas.{with_same, with_other}
use Rattle.store_layout.specs.Checkpoints.{checkpoint_file}
use Rattle.store_layout.specs.Logs.{log_file}

-- ---- one file changed

-- what holds of a file that is not changed, and of the one that is
pub elsewhere : (P : File → Type 0) (number : ℕ) (file : File) (files : Files) (n : ℕ) → n ≢ number → P (files n) → P (with_file number file files n)
elsewhere P number file files n other p = subst P (sym (with_other number file files n other)) p

pub here : (P : File → Type 0) (number : ℕ) (file : File) (files : Files) (n : ℕ) → n ≡ number → P file → P (with_file number file files n)
here P number file files n same p = subst (λ k. P (with_file number file files k)) (sym same) (subst P (sym (with_same number file files)) p)

-- ---- the numbers of the files

pub checkpoint_is_no_log : (a b : ℕ) → checkpoint_file a ≢ log_file b
checkpoint_is_no_log a b e = omega (arith, e)

pub log_is_no_checkpoint : (a b : ℕ) → log_file a ≢ checkpoint_file b
log_is_no_checkpoint a b e = omega (arith, e)

pub next_checkpoint : (a b : ℕ) → b ≡ a + 1 → checkpoint_file a ≢ checkpoint_file b
next_checkpoint a b next e = omega (arith, e, next)

pub checkpoint_before : (a b : ℕ) → b ≡ a + 1 → checkpoint_file b ≢ checkpoint_file a
checkpoint_before a b next e = omega (arith, e, next)

pub next_log : (a b : ℕ) → b ≡ a + 1 → log_file a ≢ log_file b
next_log a b next e = omega (arith, e, next)

pub log_before : (a b : ℕ) → b ≡ a + 1 → log_file b ≢ log_file a
log_before a b next e = omega (arith, e, next)

pub checkpoint_again : (a : ℕ) → checkpoint_file (a + 1 + 1) ≡ checkpoint_file a
checkpoint_again a = omega arith

pub checkpoint_low : (a : ℕ) → checkpoint_file a < 4
checkpoint_low a = omega arith

pub log_low : (a : ℕ) → log_file a < 4
log_low a = omega arith
