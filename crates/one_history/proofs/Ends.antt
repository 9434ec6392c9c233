-- The one order grows at its end: where the steps of each other pass stand alike in two orders, the later of them has the new steps of one pass behind all others.
use Rattle.std.proofs.Common.{ℕ, ◌≡◌, ◌≢◌, ◌==◌, ◌++◌, List, [], ◌∷◌, map, Bool, true, false, inl, inr, refl, sym, ◌∙◌, ap, subst}
use Rattle.std.specs.Prelude.{if◌then◌else◌}
use Rattle.std.proofs.lemmas.Bool.{cases_eq, eq-eqb}
use Rattle.ticket_order.specs.declared.record.StepMade.{StepMade}
use Rattle.one_history.specs.declared.book.PassStep.{PassStep}
use Rattle.one_history.specs.Interleaving.{Words, moved_by, words_after, AreFound, GoesOn, steps_by}
use Rattle.one_history.specs.Turns.{pass_step}

pub no_steps : (l : ℕ) → steps_by l [] ≡ []
unfolding steps_by
no_steps l = refl

own_first : (l : ℕ) (x : PassStep) (xs : List PassStep) → x.pass ≡ l → steps_by l (x ∷ xs) ≡ x.step ∷ steps_by l xs
unfolding steps_by
own_first l x xs own = ap (λ t. if t then x.step ∷ steps_by l xs else steps_by l xs) (eq-eqb x.pass l own)

-- the steps of a pass that stand behind the first are alike, where all are
same_behind : (l : ℕ) (x : PassStep) (xs ys : List PassStep) → steps_by l (x ∷ xs) ≡ steps_by l (x ∷ ys) → steps_by l xs ≡ steps_by l ys
unfolding steps_by
same_behind l x xs ys e =
    let by : (t : Bool) → (if t then x.step ∷ steps_by l xs else steps_by l xs) ≡ (if t then x.step ∷ steps_by l ys else steps_by l ys) → steps_by l xs ≡ steps_by l ys = elim [
      | true ↦ λ (f : x.step ∷ steps_by l xs ≡ x.step ∷ steps_by l ys). cc
      | false ↦ λ (f : steps_by l xs ≡ steps_by l ys). f
    ] in
    by (x.pass == l) e

none_behind : (l : ℕ) (x : PassStep) (xs : List PassStep) → [] ≡ steps_by l (x ∷ xs) → [] ≡ steps_by l xs
unfolding steps_by
none_behind l x xs e =
    let by : (t : Bool) → [] ≡ (if t then x.step ∷ steps_by l xs else steps_by l xs) → [] ≡ steps_by l xs = elim [
      | true ↦ λ (f : [] ≡ x.step ∷ steps_by l xs). absurd (let no : [] ≡ x.step ∷ steps_by l xs = f in cc)
      | false ↦ λ (f : [] ≡ steps_by l xs). f
    ] in
    by (x.pass == l) e

-- the steps of the pass l stand alike in two orders: in a front of both
pub record IsFixed (l : ℕ) (xs ys : List PassStep) : Type 0 where
  pub order : List PassStep
  pub in_one : GoesOn order xs
  pub in_other : GoesOn order ys
  pub all_one : steps_by l order ≡ steps_by l xs
  pub all_other : steps_by l order ≡ steps_by l ys

-- two orders of a pass that made no step in either
pub fixed_none : (l : ℕ) (xs ys : List PassStep) → steps_by l xs ≡ [] → steps_by l ys ≡ [] → IsFixed l xs ys
fixed_none l xs ys one other = record { order = []; in_one = record { later = xs; is = refl }; in_other = record { later = ys; is = refl }; all_one = no_steps l ∙ sym one; all_other = no_steps l ∙ sym other }

behind : (l : ℕ) (x : PassStep) (xs ys order : List PassStep) → GoesOn order (x ∷ xs) → GoesOn order (x ∷ ys) → steps_by l order ≡ steps_by l (x ∷ xs) → steps_by l order ≡ steps_by l (x ∷ ys) → IsFixed l xs ys
behind l x xs ys [] p q one other = fixed_none l xs ys (sym (none_behind l x xs (sym (no_steps l) ∙ one))) (sym (none_behind l x ys (sym (no_steps l) ∙ other)))
behind l x xs ys (z ∷ zs) p q one other =
    let in_one : x ∷ xs ≡ z ∷ (zs ++ p.later) = p.is in let in_other : x ∷ ys ≡ z ∷ (zs ++ q.later) = q.is in
    let first : z ≡ x = cc in
    let rest : xs ≡ zs ++ p.later = cc in let rest' : ys ≡ zs ++ q.later = cc in
    record {
      order = zs;
      in_one = record { later = p.later; is = rest };
      in_other = record { later = q.later; is = rest' };
      all_one = same_behind l x zs xs (subst (λ y. steps_by l (y ∷ zs) ≡ steps_by l (x ∷ xs)) first one);
      all_other = same_behind l x zs ys (subst (λ y. steps_by l (y ∷ zs) ≡ steps_by l (x ∷ ys)) first other);
    }

-- the first of both, where the pass made a step
one_first : (order : List PassStep) (x y : PassStep) (xs ys : List PassStep) → GoesOn order (x ∷ xs) → GoesOn order (y ∷ ys) → (order ≡ [] → ⊥) → x ≡ y
one_first [] x y xs ys p q some = absurd (some refl)
one_first (z ∷ zs) x y xs ys p q some = let in_one : x ∷ xs ≡ z ∷ (zs ++ p.later) = p.is in let in_other : y ∷ ys ≡ z ∷ (zs ++ q.later) = q.is in cc

made_one : (l : ℕ) (x : PassStep) (xs order : List PassStep) → x.pass ≡ l → steps_by l order ≡ steps_by l (x ∷ xs) → order ≡ [] → ⊥
made_one l x xs order own all none =
    let no : [] ≡ x.step ∷ steps_by l xs = sym (no_steps l) ∙ (ap (steps_by l) (sym none) ∙ (all ∙ own_first l x xs own)) in
    cc

-- two steps of one pass
same_step : (x y : PassStep) → x.pass ≡ y.pass → x.step ≡ y.step → x ≡ y
same_step x y pass step = λ i. record { pass = pass i; step = step i }

-- steps of one pass alone
all_own : (j : ℕ) (ys : List PassStep) (new : List StepMade) → ((l : ℕ) → l ≢ j → steps_by l ys ≡ []) → steps_by j ys ≡ new → ys ≡ map (pass_step j) new
all_own j [] new none e = ap (map (pass_step j)) (sym (no_steps j) ∙ e)
all_own j (y ∷ ys) new none e = elim (cases_eq y.pass j) [
  | inl own ↦
      let mine : y.step ∷ steps_by j ys ≡ new = sym (own_first j y ys own) ∙ e in
      let rest : ys ≡ map (pass_step j) (steps_by j ys) = all_own j ys (steps_by j ys) (λ l ne. sym (none_behind l y ys (sym (none l ne)))) refl in
      let first : y ≡ pass_step j y.step = same_step y (pass_step j y.step) own refl in
      let both : y ∷ ys ≡ pass_step j y.step ∷ map (pass_step j) (steps_by j ys) = λ i. first i ∷ rest i in
      both ∙ ap (map (pass_step j)) mine
  | inr ne ↦ absurd (let no : [] ≡ y.step ∷ steps_by y.pass ys = sym (none y.pass ne) ∙ own_first y.pass y ys refl in cc)
]

module _ (j : ℕ) (new : List StepMade) where
  no_shorter : (x : PassStep) (xs : List PassStep) → ((l : ℕ) → l ≢ j → IsFixed l (x ∷ xs) []) → steps_by j [] ≡ steps_by j (x ∷ xs) ++ new → ⊥
  no_shorter x xs fixed e = elim (cases_eq x.pass j) [
    | inl own ↦
        let no : [] ≡ x.step ∷ (steps_by j xs ++ new) = sym (no_steps j) ∙ (e ∙ ap (λ r. r ++ new) (own_first j x xs own)) in
        cc
    | inr ne ↦
        let f = fixed x.pass ne in
        let no : [] ≡ x.step ∷ steps_by x.pass xs = sym (no_steps x.pass) ∙ (sym f.all_other ∙ (f.all_one ∙ own_first x.pass x xs refl)) in
        cc
  ]

  first_is : (x y : PassStep) (xs ys : List PassStep) → ((l : ℕ) → l ≢ j → IsFixed l (x ∷ xs) (y ∷ ys)) → steps_by j (y ∷ ys) ≡ steps_by j (x ∷ xs) ++ new → x ≡ y
  first_is x y xs ys fixed e = elim (cases_eq x.pass j) [
    | inl own ↦ elim (cases_eq y.pass j) [
      | inl own' ↦
          let both : y.step ∷ steps_by j ys ≡ x.step ∷ (steps_by j xs ++ new) = sym (own_first j y ys own') ∙ (e ∙ ap (λ r. r ++ new) (own_first j x xs own)) in
          let step : x.step ≡ y.step = cc in
          same_step x y (own ∙ sym own') step
      | inr ne ↦ let f = fixed y.pass ne in one_first f.order x y xs ys f.in_one f.in_other (made_one y.pass y ys f.order refl f.all_other)
    ]
    | inr ne ↦ let f = fixed x.pass ne in one_first f.order x y xs ys f.in_one f.in_other (made_one x.pass x xs f.order refl f.all_one)
  ]

  new_behind : (x : PassStep) (xs ys : List PassStep) → steps_by j (x ∷ ys) ≡ steps_by j (x ∷ xs) ++ new → steps_by j ys ≡ steps_by j xs ++ new
  unfolding steps_by
  new_behind x xs ys e =
      let by : (t : Bool) → (if t then x.step ∷ steps_by j ys else steps_by j ys) ≡ (if t then x.step ∷ steps_by j xs else steps_by j xs) ++ new → steps_by j ys ≡ steps_by j xs ++ new = elim [
        | true ↦ λ (f : x.step ∷ steps_by j ys ≡ x.step ∷ (steps_by j xs ++ new)). cc
        | false ↦ λ (f : steps_by j ys ≡ steps_by j xs ++ new). f
      ] in
      by (x.pass == j) e

  -- the new steps of the pass j stand last
  pub stands_last : (xs ys : List PassStep) → ((l : ℕ) → l ≢ j → IsFixed l xs ys) → steps_by j ys ≡ steps_by j xs ++ new → ys ≡ xs ++ map (pass_step j) new
  stands_last [] ys fixed e = all_own j ys new (λ l ne. let f = fixed l ne in sym f.all_other ∙ (f.all_one ∙ no_steps l)) (e ∙ ap (λ r. r ++ new) (no_steps j))
  stands_last (x ∷ xs) [] fixed e = absurd (no_shorter x xs fixed e)
  stands_last (x ∷ xs) (y ∷ ys) fixed e =
      let first : y ≡ x = sym (first_is x y xs ys fixed e) in
      let rest : ys ≡ xs ++ map (pass_step j) new =
      stands_last xs ys (λ l ne. let f : IsFixed l (x ∷ xs) (x ∷ ys) = subst (λ z. IsFixed l (x ∷ xs) (z ∷ ys)) first (fixed l ne) in behind l x xs ys f.order f.in_one f.in_other f.all_one f.all_other)
      (new_behind x xs ys (subst (λ z. steps_by j (z ∷ ys) ≡ steps_by j (x ∷ xs) ++ new) first e)) in
      λ i. first i ∷ rest i

-- each later step finds what those before it left
pub found_behind : (w : Words) (xs ys : List PassStep) → AreFound w (xs ++ ys) → AreFound (words_after w xs) ys
unfolding words_after AreFound
found_behind w [] ys all = all
found_behind w (x ∷ xs) ys all = found_behind (moved_by x.pass x.step w) xs ys all.1
