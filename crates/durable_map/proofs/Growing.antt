-- How a record grows by the steps of a call.
use Rattle.std.proofs.Common.{◌≡◌, ◌⊎◌, inl, inr, ℕ, max, List, [], ◌∷◌, ◌++◌, append-nil, append_assoc, Bool, false, refl, sym, ap, ◌∙◌, arith}
use Rattle.std.proofs.lemmas.List.Elements.{All-nil, All-cons, All-append}
use Rattle.ticket_order.specs.declared.record.Record.{Record}
use Rattle.ticket_order.specs.declared.record.StepMade.{StepMade}
use Rattle.ticket_order.specs.declared.record.StepMade.TheVariants.{FoundAlive, Saw}
use Rattle.ticket_order.specs.Records.{reach}
use Rattle.ticket_order.specs.StepRules.{Lives, Rises, Sees}
use Rattle.ticket_order.specs.Calls.{Misses, MissesAlive, Reaches, SeesAgain}
use Rattle.flusher.proofs.OwnCalls.{lives, sees, then}
use Rattle.durable_map.specs.Durable.{Awaits, EndsDurable, EndsFailed, GrewBy, IsSeeOrAlive, MakesNoCall, seen_at, seen_by}

pub grew_on : (v u w : Record) (a b : List StepMade) → GrewBy v a u → GrewBy u b w → GrewBy v (a ++ b) w
grew_on v u w a b e f = f ∙ (ap (λ l. l ++ b) e ∙ append_assoc v.steps a b)

-- ---- steps that are SEE and ALIVE alone

seen_append : (q : ℕ) (a b : List StepMade) → seen_by q (a ++ b) ≡ seen_by (seen_by q a) b
seen_append q [] b = refl
seen_append q (step ∷ a) b = seen_append (seen_at q step) a b

pub awaits_on : (v u w : Record) (a b : List StepMade) → Awaits v a u → Awaits u b w → Awaits v (a ++ b) w
awaits_on v u w a b x y = record {
  steps = grew_on v u w a b x.steps y.steps;
  only = All-append IsSeeOrAlive a b x.only y.only;
  seen = y.seen ∙ (ap (λ q. seen_by q b) x.seen ∙ sym (seen_append (reach v) a b));
}

risen : (v w : Record) (d : ℕ) → Rises v d w → reach w ≡ max (reach v) d
risen v w d r = elim r [ inl stays ↦ omega (arith, stays.0, stays.1) | inr rises ↦ omega (arith, rises.0, rises.1) ]

awaits_see : (v w : Record) (d : ℕ) → Sees v d w → Awaits v (Saw d ∷ []) w
awaits_see v w d s = record { steps = ap (λ (r : Record). r.steps) s.is; only = All-cons IsSeeOrAlive (Saw d) [] tt (All-nil IsSeeOrAlive); seen = risen v w d s.rises }

awaits_alive : (v w : Record) (b : Bool) → Lives v b w → Awaits v (FoundAlive b ∷ []) w
awaits_alive v w b s = record { steps = ap (λ (r : Record). r.steps) s.is; only = All-cons IsSeeOrAlive (FoundAlive b) [] tt (All-nil IsSeeOrAlive); seen = ap reach s.is }

-- ---- steps that make no call

pub goes_on : (v u w : Record) → MakesNoCall v u → MakesNoCall u w → MakesNoCall v w
goes_on v u w a b = record {
  goes_on = then v u w a.goes_on b.goes_on;
  calls = b.calls ∙ a.calls;
  holding = b.holding ∙ a.holding;
  made = a.made ++ b.made;
  awaits = awaits_on v u w a.made b.made a.awaits b.awaits;
}

sees_none : (v w : Record) (d : ℕ) → Sees v d w → MakesNoCall v w
sees_none v w d s = record { goes_on = sees v d w s; calls = ap (λ (r : Record). r.calls) s.is; holding = ap (λ (r : Record). r.holding) s.is; made = Saw d ∷ []; awaits = awaits_see v w d s }

lives_none : (v w : Record) (b : Bool) → Lives v b w → MakesNoCall v w
lives_none v w b s = record { goes_on = lives v b w s; calls = ap (λ (r : Record). r.calls) s.is; holding = ap (λ (r : Record). r.holding) s.is; made = FoundAlive b ∷ []; awaits = awaits_alive v w b s }

pub missed : (p : ℕ) (b : Bool) (v w : Record) → MissesAlive p b v w → MakesNoCall v w
missed p b v w m = goes_on v m.between w (sees_none v m.between m.misses.durable m.misses.sees) (lives_none m.between w b m.lives)

-- ---- how a release ends

-- a SEE that reached the position, behind other steps
ends_behind : (v u w : Record) (p : ℕ) (a : List StepMade) → GrewBy v a u → Reaches p u w → EndsDurable v p w
ends_behind v u w p a e r = record { before = a; durable = r.durable; steps = grew_on v u w a (Saw r.durable ∷ []) e (ap (λ (x : Record). x.steps) r.sees.is); reached = r.reached }

pub released : (p : ℕ) (v w : Record) → Reaches p v w ⊎ SeesAgain p v (Reaches p) w → MakesNoCall v w × EndsDurable v p w
released p v w (inl r) = (sees_none v w r.durable r.sees, ends_behind v v w p [] (sym (append-nil v.steps)) r)
released p v w (inr s) =
    let first = missed p false v s.between s.first in
    (goes_on v s.between w first (sees_none s.between w s.second.durable s.second.sees), ends_behind v s.between w p first.goes_on.beside.made first.goes_on.beside.steps s.second)

-- a SEE, an ALIVE and a SEE, behind other steps
pub three_more : (l m : List StepMade) (x y z : StepMade) → (((l ++ m) ++ x ∷ []) ++ y ∷ []) ++ z ∷ [] ≡ l ++ (m ++ x ∷ y ∷ z ∷ [])
three_more l m x y z =
    append_assoc ((l ++ m) ++ x ∷ []) (y ∷ []) (z ∷ []) ∙ (append_assoc (l ++ m) (x ∷ []) (y ∷ z ∷ []) ∙ append_assoc l m (x ∷ y ∷ z ∷ []))

-- a release that found the failure, behind other steps
pub fails_behind : (v u w : Record) (p : ℕ) (a : List StepMade) → GrewBy v a u → SeesAgain p u (Misses p) w → EndsFailed v p w
fails_behind v u w p a e k =
    let one = k.first.misses in
    let two = k.second in
    let first = Saw one.durable in
    let dead = FoundAlive false in
    let second = Saw two.durable in record {
      before = a;
      first = one.durable;
      second = two.durable;
      steps = ap (λ (r : Record). r.steps) two.sees.is ∙ (ap (λ (r : Record). r.steps ++ second ∷ []) k.first.lives.is
          ∙ (ap (λ (r : Record). (r.steps ++ dead ∷ []) ++ second ∷ []) one.sees.is
          ∙ (ap (λ (l : List StepMade). ((l ++ first ∷ []) ++ dead ∷ []) ++ second ∷ []) e ∙ three_more v.steps a first dead second)));
      missed = one.missed;
      missed_again = two.missed;
    }

pub failed : (p : ℕ) (v w : Record) → SeesAgain p v (Misses p) w → MakesNoCall v w × EndsFailed v p w
failed p v w s =
    (goes_on v s.between w (missed p false v s.between s.first) (sees_none s.between w s.second.durable s.second.sees), fails_behind v v w p [] (sym (append-nil v.steps)) s)

-- ---- the same, seen from before the steps that led there

pub ends_after : (v u w : Record) (p : ℕ) (a : List StepMade) → GrewBy v a u → EndsDurable u p w → EndsDurable v p w
ends_after v u w p a e k = record { before = a ++ k.before; durable = k.durable; steps = grew_on v u w a (k.before ++ Saw k.durable ∷ []) e k.steps ∙ ap (λ l. v.steps ++ l) (sym (append_assoc a k.before (Saw k.durable ∷ []))); reached = k.reached }

pub fails_after : (v u w : Record) (p : ℕ) (a : List StepMade) → GrewBy v a u → EndsFailed u p w → EndsFailed v p w
fails_after v u w p a e k =
    let last = Saw k.first ∷ FoundAlive false ∷ Saw k.second ∷ [] in record {
      before = a ++ k.before;
      first = k.first;
      second = k.second;
      steps = grew_on v u w a (k.before ++ last) e k.steps ∙ ap (λ l. v.steps ++ l) (sym (append_assoc a k.before last));
      missed = k.missed;
      missed_again = k.missed_again;
    }
