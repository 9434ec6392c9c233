-- The heads of the two checkpoints.
use Rattle.std.proofs.Common.{◌≡◌, ◌⊎◌, inl, inr, ℕ, Bool, true, false, not, cond, nat_lt, Option, None, Some, List, refl, sym, ap, ap₂, subst, IfSome, IfNone, ◌∙◌, ◌<◌, ◌≤◌, arith}
use Rattle.std.proofs.lemmas.Bool.Decides.{nat_tests}
use Rattle.map_types.specs.declared.refusals.Refusal.{Refusal}
use Rattle.map_types.specs.declared.refusals.Refusal.TheVariants.{Failed, NotFormatted}
use Rattle.store_layout.specs.Checkpoints.{is_sealed}
use Rattle.store_layout.specs.Faults.{generation_in, head_fault}
use Rattle.store_layout.specs.Opening.{Contents, first_fault, heads_fault}
use Rattle.store_layout.proofs.Openings.{heads_by, newest_of_two, no_faults, unsealed_head}
use Rattle.checkpoint_file.specs.declared.head.Head.{Head}
use Rattle.checkpoint_file.specs.Heads.{IsHead}
use Rattle.recovery.specs.Heads.{IsUsed}

none_some : (r : Refusal) → None ≡ Some r → ⊥
none_some r e = absurd cc

fault_by : (s : Bool) (rest : Option Refusal) (r : Refusal) → cond (not s) None rest ≡ Some r → s ≡ true
fault_by true rest r e = refl
fault_by false rest r e = absurd (none_some r e)

fault_sealed : (file : ℕ) (content : List ℕ) (r : Refusal) → head_fault file content ≡ Some r → is_sealed content ≡ true
fault_sealed file content r e = fault_by (is_sealed content) _ r e

second_by : (s t : Bool) (a b : Option Refusal) (r : Refusal) → t ≡ true → a ≡ None → b ≡ Some r → heads_by s t a b ≡ Some r
second_by true t a b r e f h = ap (λ x. first_fault x b) f ∙ h
second_by false true a b r e f h = ap (λ x. first_fault x b) f ∙ h
second_by false false a b r e f h = absurd cc

module _ (contents : Contents) where
  abbrev s : Bool
  s = is_sealed (contents 0)

  abbrev t : Bool
  t = is_sealed (contents 1)

  abbrev younger : Bool
  younger = nat_lt (generation_in (contents 1)) (generation_in (contents 0))

  -- what is known of a head that was read
  abbrev pub NoFault : ℕ → Type 0
  NoFault file = head_fault file (contents file) ≡ None

  pub second_refused : (r : Refusal) → NoFault 0 → head_fault 1 (contents 1) ≡ Some r → heads_fault contents ≡ Some r
  second_refused r first e = second_by s t _ _ r (fault_sealed 1 (contents 1) r e) first e

  pub unsealed : (file : ℕ) → is_sealed (contents file) ≡ false → NoFault file
  unsealed file e = unsealed_head file (contents file) e

  pub none_sealed : s ≡ false → t ≡ false → heads_fault contents ≡ Some NotFormatted
  none_sealed e f = ap₂ (λ x y. heads_by x y (head_fault 0 (contents 0)) (head_fault 1 (contents 1))) e f

  pub first_alone : s ≡ true → NoFault 0 → t ≡ false → IsUsed contents 0
  first_alone e p f = record {
    faultless = no_faults s t _ _ (inl e) p (unsealed 1 f);
    newest = sym (ap (λ y. newest_of_two s y younger) f);
    opened = e;
    head = p;
  }

  pub second_alone : s ≡ false → t ≡ true → NoFault 1 → IsUsed contents 1
  second_alone e f q = record {
    faultless = no_faults s t _ _ (inr f) (unsealed 0 e) q;
    newest = sym (ap₂ (λ x y. newest_of_two x y younger) e f);
    opened = f;
    head = q;
  }

  picked : (P : ℕ → Type 0) → P 0 → P 1 → (b : Bool) → P (cond b 0 1)
  picked P one two true = one
  picked P one two false = two

  pub both_sealed : s ≡ true → NoFault 0 → t ≡ true → NoFault 1 → (b : Bool) → b ≡ younger → IsUsed contents (cond b 0 1)
  both_sealed e p f q b is = record {
    faultless = no_faults s t _ _ (inl e) p q;
    newest = ap (λ x. cond x 0 1) is ∙ sym (ap₂ (λ x y. newest_of_two x y younger) e f);
    opened = picked (λ file. is_sealed (contents file) ≡ true) e f b;
    head = picked NoFault p q b;
  }

  pub is_younger : (f g : ℕ) → f ≡ generation_in (contents 0) → g ≡ generation_in (contents 1) → g < f → true ≡ younger
  is_younger f g e d less = let l : nat_lt (generation_in (contents 1)) (generation_in (contents 0)) ≡ true = grind (arith, nat_tests, less, e, d) in sym l

  pub is_older : (f g : ℕ) → f ≡ generation_in (contents 0) → g ≡ generation_in (contents 1) → f ≤ g → false ≡ younger
  is_older f g e d more = let l : nat_lt (generation_in (contents 1)) (generation_in (contents 0)) ≡ false = grind (arith, nat_tests, more, e, d) in sym l

  -- the second head has a fault, and the first has none
  pub second_after : (content : List ℕ) (r : Refusal) (later before : Type 0) → (later → before) → (found : Option Head)
      → (before → IfSome found (λ head. IsHead head 0 (contents 0))) → (before → IfNone found (is_sealed (contents 0) ≡ false)) → content ≡ contents 1
      → (r ≡ Failed) ⊎ (later → head_fault 1 content ≡ Some r) → (r ≡ Failed) ⊎ (later → heads_fault contents ≡ Some r)
  second_after content r later before was found some none same (inl e) = inl e
  second_after content r later before was None some none same (inr bad) =
      inr (λ is. second_refused r (unsealed 0 (none (was is))) (subst (λ (bytes : List ℕ). head_fault 1 bytes ≡ Some r) same (bad is)))
  second_after content r later before was (Some head) some none same (inr bad) =
      inr (λ is. second_refused r (some (was is)).faultless (subst (λ (bytes : List ℕ). head_fault 1 bytes ≡ Some r) same (bad is)))
