-- Looks at a disk, one after another.
use Rattle.std.proofs.Common.{◌≡◌, ℕ, ◌+◌, List, ◌∷◌, refl, ap, ◌∙◌, arith}
use Rattle.disk_model.specs.Calls.{Looks}
use Rattle.disk_model.specs.Files.{Files, now}
use Rattle.disk_model.proofs.MomentLemmas.{one_call, no_call, goes_on, in_the_end, weaker}

module _ {D : Type 0} (states : D → List Files) (failures : D → ℕ) (honest : D → Type 0) where
  -- one device call
  pub one_look : (failed : ℕ) (old new : D) → states new ≡ now (states old) ∷ states old → failures new ≡ failures old + failed → (honest new → honest old)
      → Looks states failures honest failed old new
  one_look failed old new is count was = record {
    same = one_call states old new (now (states old)) (λ files. files ≡ now (states old)) is refl refl;
    failed_so = count;
    was_honest = was;
  }

  -- no call at all
  pub no_look : (disk : D) → Looks states failures honest 0 disk disk
  no_look disk = record {
    same = no_call states disk disk (λ files. files ≡ now (states disk)) refl refl;
    failed_so = omega arith;
    was_honest = λ h. h;
  }

  -- the files are as they were
  pub same_now : (failed : ℕ) (old new : D) → Looks states failures honest failed old new → now (states new) ≡ now (states old)
  same_now failed old new look = in_the_end states old new (λ files. files ≡ now (states old)) look.same

  -- a file reads as it did
  pub same_file : (failed : ℕ) (old new : D) (file : ℕ) → Looks states failures honest failed old new → (now (states new) file).seen ≡ (now (states old) file).seen
  same_file failed old new file look = ap (λ (files : Files). (files file).seen) (same_now failed old new look)

  -- a look after others
  pub looks_on : (failed : ℕ) (old mid new : D) → Looks states failures honest 0 old mid → Looks states failures honest failed mid new → Looks states failures honest failed old new
  looks_on failed old mid new one two = record {
    same = goes_on states old mid new (λ files. files ≡ now (states old)) one.same
        (weaker states mid new (λ files. files ≡ now (states mid)) (λ files. files ≡ now (states old)) (λ files e. e ∙ same_now 0 old mid one) two.same);
    failed_so = let a = one.failed_so in let b = two.failed_so in omega arith;
    was_honest = λ h. one.was_honest (two.was_honest h);
  }
