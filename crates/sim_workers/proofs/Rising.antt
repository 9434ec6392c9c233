-- The tickets of a stripe's entries rise.
use Rattle.std.proofs.Common.{ℕ, zero, suc, ◌≡◌, ◌+◌, ◌<◌, ◌≤◌, Bool, true, false, cond, List, [], ◌∷◌, ◌++◌, length, get_or, refl, arith, sym, ap, subst}
use Rattle.std.specs.List.{Contains}
use Rattle.std.proofs.lemmas.List.Elements.{Contains-append_left, Contains-append_right}
use Rattle.map_types.specs.declared.commands.Command.{Command}
use Rattle.map_model.specs.Parts.{is_in_stripe}
use Rattle.ticket_order.specs.declared.stripe.Entry.{Entry}
use Rattle.ticket_order.specs.Records.{past}
use Rattle.ticket_order.specs.Legality.{entries_from, entries_of}

-- each ticket is past those before it, and none is below t
AreRising : ℕ → List Entry → Type 0
AreRising t [] = Unit {0}
AreRising t (e ∷ es) = (t ≤ e.ticket) × AreRising (e.ticket + 1) es

rises_lower : (t u : ℕ) (es : List Entry) → u ≤ t → AreRising t es → AreRising u es
unfolding AreRising
rises_lower t u [] le is = tt
rises_lower t u (e ∷ es) le is = (omega (arith, le, is.0), is.1)

-- the first of them is kept, or isn't
rises_case : (t : ℕ) (e : Entry) (es : List Entry) (own : Bool) → e.ticket ≡ t → AreRising (t + 1) es → AreRising t (cond own (e ∷ es) es)
unfolding AreRising
rises_case t e es true at is = (omega (arith, at), subst (λ k. AreRising (k + 1) es) (sym at) is)
rises_case t e es false at is = rises_lower (t + 1) t es (omega arith) is

rises_of : (n i t : ℕ) (cs : List Command) → AreRising t (entries_of n i (entries_from t cs))
unfolding AreRising
rises_of n i t [] = tt
rises_of n i t (c ∷ cs) = rises_case t _ (entries_of n i (entries_from (t + 1) cs)) (is_in_stripe n i c.key) refl (rises_of n i (t + 1) cs)

none_below : (t : ℕ) (es : List Entry) (f : Entry) (k : ℕ) → k < length es → get_or es k f ≡ f → AreRising t es → t ≤ f.ticket
unfolding AreRising
none_below t [] f k lt at is = absurd (omega (arith, lt))
none_below t (e ∷ es) f zero lt at is = subst (λ (x : Entry). t ≤ x.ticket) at is.0
none_below t (e ∷ es) f (suc k) lt at is = omega (arith, is.0, none_below (e.ticket + 1) es f k (omega (arith, lt)) at is.1)

apart_at : (t : ℕ) (xs ys : List Entry) (e f : Entry) (k : ℕ) → k < length xs → get_or xs k e ≡ e → Contains ys f → AreRising t (xs ++ ys) → e.ticket < f.ticket
unfolding AreRising
apart_at t [] ys e f k lt at has is = absurd (omega (arith, lt))
apart_at t (x ∷ xs) ys e f zero lt at has is =
    let later : Contains (xs ++ ys) f = Contains-append_right xs ys f has in
    omega (arith, ap (λ (y : Entry). y.ticket) at, none_below (x.ticket + 1) (xs ++ ys) f later.0 later.1 later.2 is.1)
apart_at t (x ∷ xs) ys e f (suc k) lt at has is = apart_at (x.ticket + 1) xs ys e f k (omega (arith, lt)) at has is.1

-- of the stripe's entries, those before have lower tickets
pub apart : (n i t : ℕ) (cs : List Command) (xs ys : List Entry) (e f : Entry) → entries_of n i (entries_from t cs) ≡ xs ++ ys → Contains xs e → Contains ys f → e.ticket < f.ticket
apart n i t cs xs ys e f is has also = apart_at t xs ys e f has.0 has.1 has.2 also (subst (AreRising t) is (rises_of n i t cs))

-- if each ticket is below p
pub past_within : (es : List Entry) (p : ℕ) → ((e : Entry) → Contains es e → e.ticket < p) → past es ≤ p
past_within [] p below = omega arith
past_within (x ∷ es) p below =
    omega (arith, below x (Contains-append_left (x ∷ []) es x (0, omega arith, refl)), past_within es p (λ e has. below e (Contains-append_right (x ∷ []) es e has)))
