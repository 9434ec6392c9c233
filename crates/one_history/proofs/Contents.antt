-- What a stripe holds after a change of the history, and after a sweep.
use Rattle.std.proofs.Common.{ℕ, ◌≡◌, ◌≢◌, ◌⊎◌, inl, inr, ◌+◌, ◌-◌, ◌<◌, ◌≤◌, ◌++◌, true, false, cond, List, [], ◌∷◌, length, max, suc, refl, arith, sym, ◌∙◌, ap, subst, append_assoc, append-nil}
use Rattle.std.proofs.lemmas.List.Elements.{filter-append}
use Rattle.std.proofs.lemmas.Bool.{eqb-true, ne_eqb}
use Rattle.std.proofs.Math.Seq.{take-length}
use Rattle.map_types.specs.declared.commands.Command.{Command}
use Rattle.map_model.specs.Maps.{Map}
use Rattle.map_model.specs.Parts.{part_of, is_in_stripe}
use Rattle.map_model.specs.Steps.{step, Stepped, map_after}
use Rattle.map_model.proofs.MapLaws.{step-part_of, step-part_of_other}
use Rattle.map_model.proofs.FoldLaws.{map_after-append}
use Rattle.ticket_order.specs.declared.stripe.Entry.{Entry}
use Rattle.ticket_order.specs.declared.record.Opening.{Opening}
use Rattle.ticket_order.specs.Records.{entry, past}
use Rattle.ticket_order.specs.Legality.{history_from, IsLegalSection, entries_from, entries_of, last_of, IsContent}
use Rattle.ticket_order.specs.StepRules.{EndsAt}
use Rattle.one_history.specs.OneHistory.{IsFront}

entries_append : (t : ℕ) (xs ys : List Command) → entries_from t (xs ++ ys) ≡ entries_from t xs ++ entries_from (t + length xs) ys
entries_append t [] ys = let e : t ≡ t + 0 = omega arith in ap (λ u. entries_from u ys) e
entries_append t (x ∷ xs) ys = let e : t + 1 + length xs ≡ t + suc (length xs) = omega arith in ap (λ w. entry t x ∷ w) (entries_append (t + 1) xs ys ∙ ap (λ u. entries_from (t + 1) xs ++ entries_from u ys) e)

own_of : (n i : ℕ) (e : Entry) → is_in_stripe n i e.command.key ≡ true → entries_of n i (e ∷ []) ≡ e ∷ []
own_of n i e own = ap (λ b. cond b (e ∷ []) []) own

other_of : (n i : ℕ) (e : Entry) → is_in_stripe n i e.command.key ≡ false → entries_of n i (e ∷ []) ≡ []
other_of n i e other = ap (λ b. cond b (e ∷ []) []) other

of_append : (n i : ℕ) (o : Opening) (h more : List Command) → entries_of n i (entries_from o.first (h ++ more)) ≡ entries_of n i (entries_from o.first h) ++ entries_of n i (entries_from (o.first + length h) more)
of_append n i o h more = ap (entries_of n i) (entries_append o.first h more) ∙ filter-append _ (entries_from o.first h) (entries_from (o.first + length h) more)

past_append : (xs ys : List Entry) → past (xs ++ ys) ≡ max (past xs) (past ys)
past_append [] ys = omega arith
past_append (x ∷ xs) ys = omega (arith, past_append xs ys)

past_of : (n i : ℕ) (es : List Entry) → past (entries_of n i es) ≤ past es
past_of n i [] = omega arith
past_of n i (e ∷ es) =
    elim (is_in_stripe n i e.command.key) as (λ b. past (cond b (e ∷ entries_of n i es) (entries_of n i es)) ≤ max (e.ticket + 1) (past es)) [
      | true ↦ omega (arith, past_of n i es)
      | false ↦ omega (arith, past_of n i es)
    ]

past_from : (t : ℕ) (cs : List Command) → past (entries_from t cs) ≤ t + length cs
past_from t [] = omega arith
past_from t (c ∷ cs) = omega (arith, past_from (t + 1) cs)

-- the last of a stripe after one more change
last_push : (n i : ℕ) (o : Opening) (h : List Command) (c : Command) → last_of n i o.first (h ++ c ∷ []) ≡ max (last_of n i o.first h) (past (entries_of n i (entry (o.first + length h) c ∷ [])))
last_push n i o h c =
    let new : List Entry = entries_of n i (entry (o.first + length h) c ∷ []) in
    omega (arith, ap past (of_append n i o h (c ∷ [])), past_append (entries_of n i (entries_from o.first h)) new)

last_small : (n i : ℕ) (o : Opening) (h : List Command) → last_of n i o.first h ≤ o.first + length h
last_small n i o h = omega (arith, past_of n i (entries_from o.first h), past_from o.first h)

fold_push : (m : Map) (h : List Command) (c : Command) → map_after m (h ++ c ∷ []) ≡ (step (map_after m h) c).map
fold_push m h c = map_after-append m h (c ∷ [])

-- the last of the stripe whose change it is, and of another
pub last_drawn : (n i : ℕ) (o : Opening) (h : List Command) (c : Command) → is_in_stripe n i c.key ≡ true → last_of n i o.first (h ++ c ∷ []) ≡ o.first + length h + 1
last_drawn n i o h c own = omega (arith, last_push n i o h c, ap past (own_of n i (entry (o.first + length h) c) own), last_small n i o h)

pub last_other : (n i : ℕ) (o : Opening) (h : List Command) (c : Command) → is_in_stripe n i c.key ≡ false → last_of n i o.first (h ++ c ∷ []) ≡ last_of n i o.first h
last_other n i o h c other = omega (arith, last_push n i o h c, ap past (other_of n i (entry (o.first + length h) c) other))

-- the holder of the stripe makes the change
pub content_drawn : (o : Opening) (n : ℕ) (h : List Command) (taken : List Entry) (i : ℕ) (m : Map) (es : List Entry) (last : ℕ) (c : Command) → is_in_stripe n i c.key ≡ true → IsContent o n h taken i m es last
    → IsContent o n (h ++ c ∷ []) taken i (step m c).map (es ++ entry (o.first + length h) c ∷ []) (o.first + length h + 1)
content_drawn o n h taken i m es last c own k = record {
  part_is = ap (part_of n i) (fold_push o.map h c) ∙ (ap (λ (s : Stepped). s.map) (sym (step-part_of n i (map_after o.map h) c own)) ∙ ap (λ p. (step p c).map) k.part_is);
  outbox_is = of_append n i o h (c ∷ []) ∙ (ap (λ w. w ++ entries_of n i (entry (o.first + length h) c ∷ [])) k.outbox_is ∙ (ap (λ w. (entries_of n i taken ++ es) ++ w) (own_of n i (entry (o.first + length h) c) own) ∙ append_assoc (entries_of n i taken) es (entry (o.first + length h) c ∷ [])));
  last_is = sym (last_drawn n i o h c own);
}

-- a change of another stripe
pub content_other : (o : Opening) (n : ℕ) (h : List Command) (taken : List Entry) (i : ℕ) (m : Map) (es : List Entry) (last : ℕ) (c : Command) → is_in_stripe n i c.key ≡ false → IsContent o n h taken i m es last → IsContent o n (h ++ c ∷ []) taken i m es last
content_other o n h taken i m es last c other k = record {
  part_is = ap (part_of n i) (fold_push o.map h c) ∙ (step-part_of_other n i (map_after o.map h) c other ∙ k.part_is);
  outbox_is = of_append n i o h (c ∷ []) ∙ (ap (λ w. entries_of n i (entries_from o.first h) ++ w) (other_of n i (entry (o.first + length h) c) other) ∙ (append-nil (entries_of n i (entries_from o.first h)) ∙ k.outbox_is));
  last_is = k.last_is ∙ sym (last_other n i o h c other);
}

-- the reply of the part is that of the map
pub own_reply : (o : Opening) (n : ℕ) (h : List Command) (taken : List Entry) (i : ℕ) (m : Map) (es : List Entry) (last : ℕ) (c : Command) → is_in_stripe n i c.key ≡ true → IsContent o n h taken i m es last → (step m c).reply ≡ (step (map_after o.map h) c).reply
own_reply o n h taken i m es last c own k = ap (λ p. (step p c).reply) (sym k.part_is) ∙ ap (λ (s : Stepped). s.reply) (step-part_of n i (map_after o.map h) c own)

-- the entries of a stripe are its own
of_own : (n i : ℕ) (es : List Entry) → entries_of n i (entries_of n i es) ≡ entries_of n i es
of_own n i [] = refl
of_own n i (e ∷ es) =
    elim (is_in_stripe n i e.command.key) as (λ b. is_in_stripe n i e.command.key ≡ b → entries_of n i (cond b (e ∷ entries_of n i es) (entries_of n i es)) ≡ cond b (e ∷ entries_of n i es) (entries_of n i es)) [
      | true ↦ λ own. ap (λ b. cond b (e ∷ entries_of n i (entries_of n i es)) (entries_of n i (entries_of n i es))) own ∙ ap (λ w. e ∷ w) (of_own n i es)
      | false ↦ λ other. of_own n i es
    ] refl

one_stripe : (n i j : ℕ) (k : List ℕ) → i ≢ j → is_in_stripe n i k ≡ true → is_in_stripe n j k ≡ false
one_stripe n i j k apart own = ne_eqb _ j (λ e. apart (sym (eqb-true _ i own) ∙ e))

of_another : (n i j : ℕ) (es : List Entry) → i ≢ j → entries_of n j (entries_of n i es) ≡ []
of_another n i j [] apart = refl
of_another n i j (e ∷ es) apart =
    elim (is_in_stripe n i e.command.key) as (λ b. is_in_stripe n i e.command.key ≡ b → entries_of n j (cond b (e ∷ entries_of n i es) (entries_of n i es)) ≡ []) [
      | true ↦ λ own. ap (λ b. cond b (e ∷ entries_of n j (entries_of n i es)) (entries_of n j (entries_of n i es))) (one_stripe n i j e.command.key apart own) ∙ of_another n i j es apart
      | false ↦ λ other. of_another n i j es apart
    ] refl

cancel : (xs : List Entry) (ys zs : List Entry) → xs ++ ys ≡ xs ++ zs → ys ≡ zs
cancel [] ys zs e = e
cancel (x ∷ xs) ys zs e = cancel xs ys zs (cc)

-- an outbox has entries of its own stripe alone
pub outbox_own : (o : Opening) (n : ℕ) (h : List Command) (taken : List Entry) (i : ℕ) (m : Map) (es : List Entry) (last : ℕ) → IsContent o n h taken i m es last → entries_of n i es ≡ es
outbox_own o n h taken i m es last k =
    cancel (entries_of n i taken) (entries_of n i es) es
    (ap (λ w. w ++ entries_of n i es) (sym (of_own n i taken)) ∙ (sym (filter-append _ (entries_of n i taken) es) ∙ (ap (entries_of n i) (sym k.outbox_is) ∙ (of_own n i (entries_from o.first h) ∙ k.outbox_is))))

-- a sweep takes the outbox
pub content_swept : (o : Opening) (n : ℕ) (h : List Command) (taken : List Entry) (i : ℕ) (m : Map) (es : List Entry) (last : ℕ) → IsContent o n h taken i m es last → IsContent o n h (taken ++ es) i m [] last
content_swept o n h taken i m es last k = record {
  part_is = k.part_is;
  outbox_is = k.outbox_is ∙ (ap (λ w. entries_of n i taken ++ w) (sym (outbox_own o n h taken i m es last k)) ∙ (sym (filter-append _ taken es) ∙ sym (append-nil (entries_of n i (taken ++ es)))));
  last_is = k.last_is;
}

-- a sweep takes nothing of another stripe
pub content_unswept : (o : Opening) (n : ℕ) (h : List Command) (taken : List Entry) (i j : ℕ) (m m' : Map) (es es' : List Entry) (last last' : ℕ) → i ≢ j → IsContent o n h taken i m es last → IsContent o n h taken j m' es' last' → IsContent o n h (taken ++ es) j m' es' last'
content_unswept o n h taken i j m m' es es' last last' apart swept k =
    let none : entries_of n j es ≡ [] = ap (entries_of n j) (sym (outbox_own o n h taken i m es last swept)) ∙ of_another n i j es apart in
    record {
      part_is = k.part_is;
      outbox_is = k.outbox_is ∙ ap (λ w. w ++ es') (sym (filter-append _ taken es ∙ (ap (λ w. entries_of n j taken ++ w) none ∙ append-nil (entries_of n j taken))));
      last_is = k.last_is;
    }

-- the last ticket of a stripe stands in the history
pub last_within : (o : Opening) (n : ℕ) (h : List Command) (taken : List Entry) (i : ℕ) (m : Map) (es : List Entry) (last : ℕ) → IsContent o n h taken i m es last → last ≤ o.first + length h
last_within o n h taken i m es last k = omega (arith, k.last_is, last_small n i o h)

-- changes of other stripes leave a stripe's part as it was
part_stays : (n i t : ℕ) (m : Map) (rest : List Command) → past (entries_of n i (entries_from t rest)) ≤ t → part_of n i (map_after m rest) ≡ part_of n i m
part_stays n i t m [] low = refl
part_stays n i t m (c ∷ rest) low =
    let more : List Entry = entries_of n i (entries_from (t + 1) rest) in
    elim (is_in_stripe n i c.key) as (λ b. is_in_stripe n i c.key ≡ b → past (cond b (entry t c ∷ more) more) ≤ t → part_of n i (map_after (step m c).map rest) ≡ part_of n i m) [
      | true ↦ λ own l. absurd (omega arith)
      | false ↦ λ other l. part_stays n i (t + 1) (step m c).map rest (omega arith) ∙ step-part_of_other n i m c other
    ] refl low

-- the part is that after each front of the history that has all the stripe's tickets
pub section_seen : (o : Opening) (n : ℕ) (h : List Command) (taken : List Entry) (i : ℕ) (m : Map) (es : List Entry) (last : ℕ) (seen : List Command) → IsContent o n h taken i m es last → IsFront seen h → last ≤ o.first + length seen
    → IsLegalSection n (history_from o seen) (record { stripe = i; mark = o.first + length seen; part = m })
section_seen o n h taken i m es last seen k f low =
    let rest : List Command = f.rest in
    let later : List Entry = entries_of n i (entries_from (o.first + length seen) rest) in
    let all : last ≡ last_of n i o.first (seen ++ rest) = k.last_is ∙ ap (last_of n i o.first) f.is in
    let few : past later ≤ o.first + length seen = omega (arith, all, ap past (of_append n i o seen rest), past_append (entries_of n i (entries_from o.first seen)) later) in
    let now : part_of n i (map_after (map_after o.map seen) rest) ≡ m = ap (part_of n i) (sym (map_after-append o.map seen rest)) ∙ (ap (λ cs. part_of n i (map_after o.map cs)) (sym f.is) ∙ k.part_is) in
    let then : part_of n i (map_after o.map seen) ≡ m = sym (part_stays n i (o.first + length seen) (map_after o.map seen) rest few) ∙ now in
    let count : o.first + length seen - o.first ≡ length seen = omega arith in
    record { from_first = omega arith; within = omega arith; part_is = rw (count, take-length seen) then }

-- the entries of an outbox are up to it
outbox_within : (o : Opening) (n : ℕ) (h : List Command) (taken : List Entry) (i : ℕ) (m : Map) (es : List Entry) (last : ℕ) → IsContent o n h taken i m es last → past es ≤ last
outbox_within o n h taken i m es last k =
    let all : past (entries_of n i (entries_from o.first h)) ≡ past (entries_of n i taken ++ es) = ap past k.outbox_is in
    omega (arith, k.last_is, past_append (entries_of n i taken) es)

-- the entries of an outbox stand in the history
pub past_within : (o : Opening) (n : ℕ) (h : List Command) (taken : List Entry) (i : ℕ) (m : Map) (es : List Entry) (last : ℕ) → IsContent o n h taken i m es last → past es ≤ o.first + length h
past_within o n h taken i m es last k = omega (arith, outbox_within o n h taken i m es last k, last_within o n h taken i m es last k)

-- the tickets rise, the first of them from t on
abbrev AreRising : ℕ → List Entry → Type 0
AreRising t [] = Unit {0}
AreRising t (e ∷ es) = (t ≤ e.ticket) × AreRising (e.ticket + 1) es

rising_before : (t u : ℕ) (es : List Entry) → t ≤ u → AreRising u es → AreRising t es
rising_before t u [] l r = tt
rising_before t u (e ∷ es) l r = (omega (arith, r.0), r.1)

rising_of : (n i t : ℕ) (cs : List Command) → AreRising t (entries_of n i (entries_from t cs))
rising_of n i t [] = tt
rising_of n i t (c ∷ cs) =
    let rest : List Entry = entries_of n i (entries_from (t + 1) cs) in
    elim (is_in_stripe n i c.key) as (λ b. AreRising t (cond b (entry t c ∷ rest) rest)) [
      | true ↦ (omega arith, rising_of n i (t + 1) cs)
      | false ↦ rising_before t (t + 1) rest (omega arith) (rising_of n i (t + 1) cs)
    ]

-- the last of rising tickets is that of each end of theirs that has one
rising_ends : (t : ℕ) (xs ys : List Entry) → AreRising t (xs ++ ys) → (ys ≡ []) ⊎ ((past (xs ++ ys) ≡ past ys) × (t < past ys))
rising_ends t [] [] r = inl refl
rising_ends t [] (e ∷ es) r = inr (refl, omega (arith, r.0))
rising_ends t (x ∷ xs) ys r = elim (rising_ends (x.ticket + 1) xs ys r.1) [
  | inl none ↦ inl none
  | inr some ↦ inr (omega (arith, some.0, some.1), omega (arith, some.1, r.0))
]

-- an outbox with entries ends with the last ticket of its stripe
pub outbox_ends : (o : Opening) (n : ℕ) (h : List Command) (taken : List Entry) (i : ℕ) (m : Map) (es : List Entry) (last : ℕ) → IsContent o n h taken i m es last → EndsAt es last
outbox_ends o n h taken i m es last k =
    let all : past (entries_of n i (entries_from o.first h)) ≡ past (entries_of n i taken ++ es) = ap past k.outbox_is in
    elim (rising_ends o.first (entries_of n i taken) es (subst (AreRising o.first) k.outbox_is (rising_of n i o.first h))) [
      | inl none ↦ inl none
      | inr some ↦ inr (omega (arith, k.last_is, some.0, some.1))
    ]
