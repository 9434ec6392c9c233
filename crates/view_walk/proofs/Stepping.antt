-- How a walk over the parts stands behind each step.
use Rattle.std.proofs.Common.{ℕ, ◌≡◌, ◌+◌, ◌≤◌, ◌<◌, ◌++◌, max, List, [], ◌∷◌, length, Some, None, arith, refl, sym, ap, subst, ◌∙◌, Result}
use Rattle.map_types.specs.declared.refusals.Refusal.{Refusal}
use Rattle.ticket_order.specs.declared.stripe.Stripe.{Stripe}
use Rattle.ticket_order.specs.declared.record.Purpose.TheVariants.{Capture}
use Rattle.ticket_order.specs.declared.record.Section.{Section}
use Rattle.ticket_order.specs.declared.record.Record.{Record}
use Rattle.ticket_order.specs.Records.{reach}
use Rattle.ticket_order.specs.StepRules.{Gives}
use Rattle.view_walk.specs.declared.parts.PartsWalk.{PartsWalk}
use Rattle.view_walk.specs.declared.parts.PartsWalked.{PartsWalked}
use Rattle.view_walk.specs.declared.parts.Stage.{Stage}
use Rattle.view_walk.specs.declared.parts.Stage.TheVariants as stage
use Rattle.view_walk.specs.declared.awaiting.Awaiting.TheVariants.{Seeing}
use Rattle.view_walk.specs.Walking.{Fits, FitsStage, GainsAll, HoldsNext, IsStarved, Next, given_back, given_back_at, greatest_mark, lent_at, sections_of}
use Rattle.view_walk.proofs.Lending.{none_lent}
use Rattle.view_walk.proofs.Growing.{gains_given, given_empty, greatest_more, kept, longer}

-- ---- which sections were kept

-- no part is lent
abbrev LendsNone : Stage → Type 0
LendsNone s = lent_at s ≡ None

pub fits_on : (n : ℕ) (b : Record) (xs : List Section) (k : ℕ) (s : Stage) (walk : PartsWalk) (w : Record) → LendsNone s → Fits n b xs walk w → Fits n b (xs ++ sections_of k (lent_at s)) walk w
fits_on n b xs k s walk w none f = none_lent (λ ys. Fits n b ys walk w) xs _ (ap (sections_of k) none) f

pub starved_on : (n : ℕ) (b : Record) (xs : List Section) (k : ℕ) (s : Stage) (w : Record) → LendsNone s → IsStarved n b xs w → IsStarved n b (xs ++ sections_of k (lent_at s)) w
starved_on n b xs k s w none f = none_lent (λ ys. IsStarved n b ys w) xs _ (ap (sections_of k) none) f

pub next_on : (n : ℕ) (b : Record) (xs : List Section) (k : ℕ) (s : Stage) (result : Result PartsWalked Refusal) (w : Record) → LendsNone s → Next n b xs result w → Next n b (xs ++ sections_of k (lent_at s)) result w
next_on n b xs k s result w none f = none_lent (λ ys. Next n b ys result w) xs _ (ap (sections_of k) none) f

-- the section of the part that is lent
section_kept : (xs : List Section) (k mark q : ℕ) (content : Stripe) (s : Stage) → s ≡ stage.Lending content mark → k ≡ length xs → mark ≡ q → xs ++ sections_of k (lent_at s) ≡ xs ++ kept xs q content ∷ []
section_kept xs k mark q content s is at same =
    ap (λ (t : Stage). xs ++ sections_of k (lent_at t)) is
    ∙ (ap (λ (j : ℕ). xs ++ record { stripe = j; mark = mark; part = content.part.map } ∷ []) at
    ∙ ap (λ (m : ℕ). xs ++ record { stripe = length xs; mark = m; part = content.part.map } ∷ []) same)

-- ---- behind the GIVE of a part that was lent

pub stands_lending : (n : ℕ) (b : Record) (xs : List Section) (walk : PartsWalk) (p : Record) (content : Stripe) (mark : ℕ) → walk.stage ≡ stage.Lending content mark → Fits n b xs walk p → HoldsNext n b xs content (Some (reach p)) p × (mark ≡ reach p)
stands_lending n b xs walk p content mark is f = subst (λ (s : Stage). FitsStage n b xs s p) is f.stands

fits_given : (n : ℕ) (b p w : Record) (xs : List Section) (walk next : PartsWalk) (content : Stripe) (mark : ℕ) → walk.stage ≡ stage.Lending content mark → Fits n b xs walk p → next.count ≡ walk.count + 1 → next.greatest ≡ max walk.greatest mark
    → FitsStage n b (xs ++ kept xs (reach p) content ∷ []) next.stage w → Fits n b (xs ++ sections_of walk.count (lent_at walk.stage)) next w
fits_given n b p w xs walk next content mark is f count greatest stands =
    let h = stands_lending n b xs walk p content mark is f in
    let x : Section = kept xs (reach p) content in
    subst (λ (ys : List Section). Fits n b ys next w) (sym (section_kept xs walk.count mark (reach p) content walk.stage is f.count_is h.1)) (record {
      count_is = omega (arith, f.count_is, longer xs x, count);
      greatest_is = greatest ∙ (ap (λ (g : ℕ). max g mark) f.greatest_is ∙ (ap (λ (m : ℕ). max (greatest_mark xs) m) h.1 ∙ sym (greatest_more xs x)));
      stands = stands;
    })

-- there are more stripes
pub takes_next : (n : ℕ) (b p w : Record) (xs : List Section) (walk next : PartsWalk) (content : Stripe) (mark : ℕ) → walk.stage ≡ stage.Lending content mark → Fits n b xs walk p → Gives n Capture p w → next.count ≡ walk.count + 1 → next.greatest ≡ max walk.greatest mark
    → next.stage ≡ stage.Taking → next.count < n → Fits n b (xs ++ sections_of walk.count (lent_at walk.stage)) next w
takes_next n b p w xs walk next content mark is f given count greatest taking more =
    let h = stands_lending n b xs walk p content mark is f in
    fits_given n b p w xs walk next content mark is f count greatest
    (subst (λ (s : Stage). FitsStage n b (xs ++ kept xs (reach p) content ∷ []) s w) (sym taking)
    (gains_given n b p w xs content h.0 given, given_empty n p w given, omega (arith, f.count_is, longer xs (kept xs (reach p) content), count, more)))

-- it was the last
pub awaits_next : (n : ℕ) (b p w : Record) (xs : List Section) (walk next : PartsWalk) (content : Stripe) (mark : ℕ) → walk.stage ≡ stage.Lending content mark → Fits n b xs walk p → Gives n Capture p w → next.count ≡ walk.count + 1 → next.greatest ≡ max walk.greatest mark
    → next.stage ≡ stage.Awaiting Seeing → n ≤ next.count → Fits n b (xs ++ sections_of walk.count (lent_at walk.stage)) next w
awaits_next n b p w xs walk next content mark is f given count greatest awaiting last =
    let h = stands_lending n b xs walk p content mark is f in
    let all : GainsAll n b (xs ++ kept xs (reach p) content ∷ []) w = record {
      gains = gains_given n b p w xs content h.0 given;
      empty_handed = given_empty n p w given;
      whole = omega (arith, f.count_is, longer xs (kept xs (reach p) content), count, last, h.0.within);
    } in
    fits_given n b p w xs walk next content mark is f count greatest (subst (λ (s : Stage). FitsStage n b (xs ++ kept xs (reach p) content ∷ []) s w) (sym awaiting) all)

-- ---- a stripe that is to go back as it was taken

stands_back : (n : ℕ) (b : Record) (xs : List Section) (s : Stage) (p : Record) → FitsStage n b xs s p → FitsStage n b xs (given_back_at s) p
stands_back n b xs stage.Taking p k = k
stands_back n b xs (stage.HasTaken content) p k = k
stands_back n b xs (stage.Lending content mark) p k = k.0
stands_back n b xs (stage.GivingBack content) p k = k
stands_back n b xs (stage.Awaiting awaiting) p k = k

pub fits_back : (n : ℕ) (b : Record) (xs : List Section) (walk : PartsWalk) (p : Record) → Fits n b xs walk p → Fits n b xs (given_back walk) p
fits_back n b xs walk p f = record { count_is = f.count_is; greatest_is = f.greatest_is; stands = stands_back n b xs walk.stage p f.stands }

pub lends_none : (k : ℕ) (s : Stage) → sections_of k (lent_at (given_back_at s)) ≡ []
lends_none k stage.Taking = refl
lends_none k (stage.HasTaken content) = refl
lends_none k (stage.Lending content mark) = refl
lends_none k (stage.GivingBack content) = refl
lends_none k (stage.Awaiting awaiting) = refl
