-- Entries of consecutive tickets.
use Rattle.std.proofs.Common.{◌≡◌, ◌⊎◌, inl, inr, ℕ, zero, suc, ◌+◌, ◌-◌, ◌<◌, ◌≤◌, Bool, true, false, cond, List, [], ◌∷◌, ◌++◌, length, get_or, refl, sym, ◌∙◌, ap, subst, arith}
use Rattle.std.specs.List.{Contains, filter}
use Rattle.std.proofs.lemmas.List.{get_or_append_left, get_or_default, length-append}
use Rattle.std.proofs.lemmas.List.Elements.{Contains-append_left, Contains-append_right, Contains-append_cases}
use Rattle.map_types.specs.declared.commands.Command.{Command}
use Rattle.ticket_order.specs.declared.stripe.Entry.{Entry}
use Rattle.ticket_order.specs.Records.{entry, past}
use Rattle.ticket_order.specs.Legality.{entries_from}

pub length-entries : (t : ℕ) (xs : List Command) → length (entries_from t xs) ≡ length xs
length-entries t [] = refl
length-entries t (x ∷ xs) = omega (arith, length-entries (t + 1) xs)

get_entries : (t : ℕ) (xs : List Command) (k : ℕ) (d : Entry) (x : Command) → k < length xs → get_or (entries_from t xs) k d ≡ entry (t + k) (get_or xs k x)
get_entries t [] k d x h = absurd (omega arith)
get_entries t (y ∷ ys) zero d x h = ap (λ n. entry n y) (omega arith)
get_entries t (y ∷ ys) (suc k) d x h = get_entries (t + 1) ys k d x (omega arith) ∙ ap (λ n. entry n (get_or ys k x)) (omega arith)

-- the entry has its ticket's place
pub record IsAt (t : ℕ) (xs : List Command) (e : Entry) : Type 0 where
  pub low : t ≤ e.ticket
  pub high : e.ticket < t + length xs
  pub there : get_or xs (e.ticket - t) e.command ≡ e.command

pub found : (t : ℕ) (xs : List Command) (e : Entry) → Contains (entries_from t xs) e → IsAt t xs e
found t xs e has =
    let within : has.0 < length xs = omega (arith, has.1, length-entries t xs) in
    let is : entry (t + has.0) (get_or xs has.0 e.command) ≡ e = sym (get_entries t xs has.0 e e.command within) ∙ has.2 in
    let ticket : t + has.0 ≡ e.ticket = ap (λ (x : Entry). x.ticket) is in
    let at : has.0 ≡ e.ticket - t = omega arith in
    record { low = omega arith; high = omega arith; there = subst (λ k. get_or xs k e.command ≡ e.command) at (ap (λ (x : Entry). x.command) is) }

pub there_is : (t : ℕ) (xs : List Command) (e : Entry) → IsAt t xs e → Contains (entries_from t xs) e
there_is t xs e is =
    let k = e.ticket - t in
    let within : k < length xs = omega (arith, is.low, is.high) in
    let ticket : t + k ≡ e.ticket = omega (arith, is.low) in
    (k, omega (arith, length-entries t xs), get_entries t xs k e e.command within ∙ ap (λ n. entry n (get_or xs k e.command)) ticket ∙ ap (entry e.ticket) is.there)

-- one ticket has one command
pub same_command : (t : ℕ) (xs : List Command) (e f : Entry) → Contains (entries_from t xs) e → Contains (entries_from t xs) f → e.ticket ≡ f.ticket → e.command ≡ f.command
same_command t xs e f has also same =
    let x = found t xs e has in
    let y = found t xs f also in
    sym x.there ∙ get_or_default xs (e.ticket - t) e.command f.command (omega (arith, x.low, x.high)) ∙ subst (λ n. get_or xs (n - t) f.command ≡ f.command) (sym same) y.there

pub grown : (t : ℕ) (xs ys : List Command) (e : Entry) → Contains (entries_from t xs) e → Contains (entries_from t (xs ++ ys)) e
grown t xs ys e has =
    let x = found t xs e has in
    let k = e.ticket - t in
    let within : k < length xs = omega (arith, x.low, x.high) in
    there_is t (xs ++ ys) e (record { low = x.low; high = omega (arith, x.high, length-append xs ys); there = get_or_append_left xs ys e.command k within ∙ x.there })

pub shrunk : (t : ℕ) (xs ys : List Command) (e : Entry) → Contains (entries_from t (xs ++ ys)) e → e.ticket < t + length xs → Contains (entries_from t xs) e
shrunk t xs ys e has low =
    let x = found t (xs ++ ys) e has in
    let k = e.ticket - t in
    let within : k < length xs = omega (arith, x.low, low) in
    there_is t xs e (record { low = x.low; high = low; there = sym (get_or_append_left xs ys e.command k within) ∙ x.there })

-- the entry at a ticket
pub at_ticket : (t : ℕ) (xs : List Command) (k : ℕ) → t ≤ k → k < t + length xs → (c : Command) × Contains (entries_from t xs) (entry k c)
at_ticket t [] k low high = absurd (omega arith)
at_ticket t (x ∷ xs) k low high =
    let c = get_or (x ∷ xs) (k - t) x in
    (c, there_is t (x ∷ xs) (entry k c) (record { low = low; high = high; there = get_or_default (x ∷ xs) (k - t) c x (omega arith) }))

past_at : (es : List Entry) (k : ℕ) (d : Entry) → k < length es → (get_or es k d).ticket < past es
past_at [] k d h = absurd (omega arith)
past_at (x ∷ xs) zero d h = omega arith
past_at (x ∷ xs) (suc k) d h = omega (arith, past_at xs k d (omega arith))

pub below_past : (es : List Entry) (e : Entry) → Contains es e → e.ticket < past es
below_past es e has = subst (λ (x : Entry). x.ticket < past es) has.2 (past_at es has.0 e has.1)

later : (x : Entry) (xs : List Entry) (e : Entry) → Contains xs e → Contains (x ∷ xs) e
later x xs e k = Contains-append_right (x ∷ []) xs e k

only_this : (x e : Entry) → Contains (x ∷ []) e → x ≡ e
only_this x e k = (let zero : k.0 ≡ 0 = omega (arith, k.1) in subst (λ j. get_or (x ∷ []) j e ≡ e) zero k.2)

filtered_case : (p : Entry → Bool) (x : Entry) (xs : List Entry) (e : Entry) → (Contains (filter p xs) e → Contains xs e) → (b : Bool) → Contains (cond b (x ∷ filter p xs) (filter p xs)) e → Contains (x ∷ xs) e
filtered_case p x xs e more false k = later x xs e (more k)
filtered_case p x xs e more true k = elim (Contains-append_cases (x ∷ []) (filter p xs) e k) [ inl one ↦ Contains-append_left (x ∷ []) xs e one | inr rest ↦ later x xs e (more rest) ]

pub filtered : (p : Entry → Bool) (es : List Entry) (e : Entry) → Contains (filter p es) e → Contains es e
filtered p [] e has = has
filtered p (x ∷ xs) e has = filtered_case p x xs e (filtered p xs e) (p x) has

passes_case : (p : Entry → Bool) (x : Entry) (xs : List Entry) (e : Entry) → p e ≡ true → (Contains xs e → Contains (filter p xs) e) → (b : Bool) → p x ≡ b → (Contains (x ∷ []) e ⊎ Contains xs e)
    → Contains (cond b (x ∷ filter p xs) (filter p xs)) e
passes_case p x xs e is more true same (inl k) = Contains-append_left (x ∷ []) (filter p xs) e k
passes_case p x xs e is more true same (inr k) = later x (filter p xs) e (more k)
passes_case p x xs e is more false same (inl k) = (let never : true ≡ false = sym is ∙ ap p (sym (only_this x e k)) ∙ same in cc)
passes_case p x xs e is more false same (inr k) = more k

pub passes : (p : Entry → Bool) (es : List Entry) (e : Entry) → Contains es e → p e ≡ true → Contains (filter p es) e
passes p [] e has is = has
passes p (x ∷ xs) e has is = passes_case p x xs e is (λ k. passes p xs e k is) (p x) refl (Contains-append_cases (x ∷ []) xs e has)
