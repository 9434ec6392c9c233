-- The section that a capture gives.
use Rattle.std.proofs.Common.{◌≡◌, ℕ, zero, suc, ◌+◌, ◌-◌, ◌≤◌, List, [], ◌∷◌, ◌++◌, take, drop, refl, sym, ◌∙◌, ap, subst, arith}
use Rattle.std.specs.FinMap as finite
use Rattle.std.proofs.lemmas.List.{take-append-le, same_from_push}
use Rattle.map_types.specs.declared.texts.Value.{Value}
use Rattle.map_model.specs.Histories.{fold_to}
use Rattle.map_model.specs.Steps.{fold_of, map_after}
use Rattle.map_model.proofs.FoldLaws.{map_after-append}
use Rattle.ticket_order.specs.declared.record.Record.{Record}
use Rattle.ticket_order.specs.declared.record.StepMade.{StepMade}
use Rattle.ticket_order.specs.declared.record.StepMade.TheVariants.{Gave, Looked, Took}
use Rattle.ticket_order.specs.Calls.{CapturesStripe}
use Rattle.ticket_order.specs.Legality.{history_of}
use Rattle.ticket_order.specs.Records.{reach}
use Rattle.sim_rules.specs.World.{World, Life}
use Rattle.sim_keeper.specs.KeeperInWorld.{SeesHistory}
use Rattle.sim_keeper.proofs.WalkSteps.{LooksLast}

take_none : {A : Type 0} (n : ℕ) → (let xs : List A = [] in take n xs ≡ xs)
take_none zero = refl
take_none (suc n) = refl

take_both : {A : Type 0} (a b : ℕ) (xs : List A) → take (a + b) xs ≡ take a xs ++ take b (drop a xs)
take_both zero b xs = ap (λ k. take k xs) (omega arith)
take_both (suc a) b [] = take_none (suc a + b) ∙ sym (take_none b)
take_both (suc a) b (x ∷ xs) = ap (λ k. take k (x ∷ xs)) {x = suc a + b} {y = suc (a + b)} (omega arith) ∙ ap (λ ys. x ∷ ys) (take_both a b xs)

-- the history of the pass, up to a count that it has seen, is that of the world
pub same_fold : (q : Record) (w : World) (l : Life) (mark : ℕ) → SeesHistory q w l → q.opening.first ≤ mark → mark ≤ reach q → fold_to (history_of q) mark ≡ fold_of (take mark w.history)
same_fold q w l mark s low high =
    let part : take (mark - q.opening.first) q.seen ≡ take (mark - l.first) (drop l.first w.history) =
    sym (take-append-le (mark - q.opening.first) q.seen s.unseen (omega (arith, low, high))) ∙ ap (take (mark - q.opening.first)) (sym s.added) ∙ ap (λ k. take (mark - k) (drop l.first w.history)) s.first in
    let whole : take mark w.history ≡ take l.first w.history ++ take (mark - l.first) (drop l.first w.history) =
    ap (λ k. take k w.history) {x = mark} {y = l.first + (mark - l.first)} (omega (arith, low, s.first)) ∙ take_both l.first (mark - l.first) w.history in
    ap (λ m. map_after m (take (mark - q.opening.first) q.seen)) s.opening ∙ ap (map_after (fold_of (take l.first w.history))) part
    ∙ sym (map_after-append finite.empty (take l.first w.history) (take (mark - l.first) (drop l.first w.history))) ∙ ap fold_of (sym whole)

-- its mark is what its LOOK found
pub same_mark : (n i mark : ℕ) (entries : List (List ℕ × Value)) (b p q : Record) (step : StepMade) → CapturesStripe n b i mark entries q → LooksLast p → q.steps ≡ p.steps ++ step ∷ [] → mark ≡ reach p
same_mark n i mark entries b p q step k last steps =
    k.mark_is ∙ sym (looks (same_from_push last.front (b.steps ++ Took i k.outbox k.last ∷ []) (Looked (reach p)) (Looked (reach q)) (sym last.is ∙ before)).1)
  where
    looks : {a b : ℕ} → Looked a ≡ Looked b → a ≡ b
    looks e = cc

    whole : q.steps ≡ ((b.steps ++ Took i k.outbox k.last ∷ []) ++ Looked (reach q) ∷ []) ++ Gave i ∷ []
    whole = subst (λ (x : Record). x.steps ≡ ((b.steps ++ Took i k.outbox k.last ∷ []) ++ Looked (reach x) ∷ []) ++ Gave i ∷ []) (sym k.is) refl

    before : p.steps ≡ (b.steps ++ Took i k.outbox k.last ∷ []) ++ Looked (reach q) ∷ []
    before = (same_from_push p.steps ((b.steps ++ Took i k.outbox k.last ∷ []) ++ Looked (reach q) ∷ []) step (Gave i) (sym steps ∙ whole)).0
