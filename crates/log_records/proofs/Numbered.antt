-- Methods and functions are found by their numbers.
use Rattle.std.proofs.Common.{◌≡◌, ◌⊎◌, ℕ, ◌<◌, Bool, true, false, List, [], ◌∷◌, Result, Ok, Err, refl, subst, arith, inl, inr, eqb, cond}
use Rattle.std.proofs.lemmas.Bool.{eqb-true}
use Rattle.map_types.specs.Numbers.{func_number}
use Rattle.map_types.specs.declared.refusals.Refusal.{Refusal}
use Rattle.map_types.specs.declared.refusals.Refusal.TheVariants.{UnknownMethod, UnknownFunction}
use Rattle.map_types.specs.declared.commands.Func.{Func}
use Rattle.map_types.specs.declared.commands.Func.TheVariants as func
use Rattle.log_records.specs.declared.methods.Method.{Method}
use Rattle.log_records.specs.declared.methods.Method.TheVariants as method
use Rattle.log_records.specs.Methods.{method_number, all_methods, all_funcs}
use Rattle.log_records.specs.Reading.{numbered}

chosen : {A : Type 0} (b : Bool) (x : A) (r : Result A Refusal) (y : A) → cond b (Ok x) r ≡ Ok y → ((b ≡ true) × (x ≡ y)) ⊎ (r ≡ Ok y)
chosen true x r y e = inl (refl, cc)
chosen false x r y e = inr e

-- what is found has the number
pub number-numbered : {A : Type 0} (number_of : A → ℕ) (unknown : Refusal) (all : List A) (n : ℕ) (x : A) → numbered number_of unknown all n ≡ Ok x → number_of x ≡ n
unfolding numbered
number-numbered number_of unknown [] n x e = absurd cc
number-numbered number_of unknown (a ∷ all) n x e =
    elim (chosen (eqb (number_of a) n) a (numbered number_of unknown all n) x e) [
      | inl h ↦ subst (λ y. number_of y ≡ n) h.1 (eqb-true (number_of a) n h.0)
      | inr h ↦ number-numbered number_of unknown all n x h
    ]

not_here : (b : Bool) → (b ≡ true → ⊥) → b ≡ false
not_here true never = absurd (never refl)
not_here false never = refl

-- where none has the number, none is found
pub numbered-unknown : {A : Type 0} (number_of : A → ℕ) (unknown : Refusal) (all : List A) (n : ℕ) → ((a : A) → number_of a ≡ n → ⊥) → numbered number_of unknown all n ≡ Err unknown
unfolding numbered
numbered-unknown number_of unknown [] n never = refl
numbered-unknown number_of unknown (a ∷ all) n never =
    rw (not_here (eqb (number_of a) n) (λ e. never a (eqb-true (number_of a) n e))) (numbered-unknown number_of unknown all n never)

pub func_known : (f : Func) → numbered func_number UnknownFunction all_funcs (func_number f) ≡ Ok f
unfolding numbered
func_known func.Const = refl
func_known func.Drop = refl
func_known func.Keep = refl
func_known func.Sum = refl
func_known func.Max = refl
func_known func.Min = refl
func_known func.Concat = refl
func_known func.SumNonzero = refl
func_known func.SumExact = refl

pub method_known : (m : Method) → numbered method_number UnknownMethod all_methods (method_number m) ≡ Ok m
unfolding numbered
method_known method.Put = refl
method_known method.PutIfAbsent = refl
method_known method.Remove = refl
method_known method.RemoveIf = refl
method_known method.Replace = refl
method_known method.ReplaceIf = refl
method_known method.Compute = refl
method_known method.ComputeIfAbsent = refl
method_known method.ComputeIfPresent = refl
method_known method.Merge = refl

func_in_range : (n : ℕ) → (n ≡ 0) ⊎ (9 < n) → (f : Func) → func_number f ≡ n → ⊥
func_in_range n out func.Const e = elim out [ inl z ↦ omega arith | inr g ↦ omega arith ]
func_in_range n out func.Drop e = elim out [ inl z ↦ omega arith | inr g ↦ omega arith ]
func_in_range n out func.Keep e = elim out [ inl z ↦ omega arith | inr g ↦ omega arith ]
func_in_range n out func.Sum e = elim out [ inl z ↦ omega arith | inr g ↦ omega arith ]
func_in_range n out func.Max e = elim out [ inl z ↦ omega arith | inr g ↦ omega arith ]
func_in_range n out func.Min e = elim out [ inl z ↦ omega arith | inr g ↦ omega arith ]
func_in_range n out func.Concat e = elim out [ inl z ↦ omega arith | inr g ↦ omega arith ]
func_in_range n out func.SumNonzero e = elim out [ inl z ↦ omega arith | inr g ↦ omega arith ]
func_in_range n out func.SumExact e = elim out [ inl z ↦ omega arith | inr g ↦ omega arith ]

method_in_range : (n : ℕ) → (n < 16) ⊎ (25 < n) → (m : Method) → method_number m ≡ n → ⊥
method_in_range n out method.Put e = elim out [ inl z ↦ omega arith | inr g ↦ omega arith ]
method_in_range n out method.PutIfAbsent e = elim out [ inl z ↦ omega arith | inr g ↦ omega arith ]
method_in_range n out method.Remove e = elim out [ inl z ↦ omega arith | inr g ↦ omega arith ]
method_in_range n out method.RemoveIf e = elim out [ inl z ↦ omega arith | inr g ↦ omega arith ]
method_in_range n out method.Replace e = elim out [ inl z ↦ omega arith | inr g ↦ omega arith ]
method_in_range n out method.ReplaceIf e = elim out [ inl z ↦ omega arith | inr g ↦ omega arith ]
method_in_range n out method.Compute e = elim out [ inl z ↦ omega arith | inr g ↦ omega arith ]
method_in_range n out method.ComputeIfAbsent e = elim out [ inl z ↦ omega arith | inr g ↦ omega arith ]
method_in_range n out method.ComputeIfPresent e = elim out [ inl z ↦ omega arith | inr g ↦ omega arith ]
method_in_range n out method.Merge e = elim out [ inl z ↦ omega arith | inr g ↦ omega arith ]

pub func_unknown : (n : ℕ) → (n ≡ 0) ⊎ (9 < n) → numbered func_number UnknownFunction all_funcs n ≡ Err UnknownFunction
func_unknown n out = numbered-unknown func_number UnknownFunction all_funcs n (func_in_range n out)

pub method_unknown : (n : ℕ) → (n < 16) ⊎ (25 < n) → numbered method_number UnknownMethod all_methods n ≡ Err UnknownMethod
method_unknown n out = numbered-unknown method_number UnknownMethod all_methods n (method_in_range n out)
