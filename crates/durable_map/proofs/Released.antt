-- What a stop leaves has each reply that was released.
use Rattle.std.proofs.Common.{◌≡◌, ◌∙◌, ℕ, zero, suc, ◌+◌, ◌-◌, ◌<◌, ◌≤◌, ◌++◌, ◌==◌, List, [], ◌∷◌, length, take, drop, true, Some, None, refl, sym, ap, subst, arith, slice_get}
use Rattle.std.specs.List.{Contains}
use Rattle.std.specs.Prelude.{slice_index_or}
use Rattle.std.proofs.lemmas.Bool.{eq-eqb, eqb-true}
use Rattle.std.proofs.lemmas.List.{take-append-drop, length-take-le}
use Rattle.std.proofs.lemmas.List.Elements.{All-contains, Contains-append_left, Contains-append_right, Contains-push}
use Rattle.disk_model.specs.Files.{Files, now}
use Rattle.map_types.specs.declared.commands.Command.{Command}
use Rattle.map_types.specs.declared.commands.Reply.{Reply}
use Rattle.map_model.specs.Maps.{Map}
use Rattle.map_model.specs.Steps.{answer, step}
use Rattle.map_model.specs.Histories.{fold_to}
use Rattle.store_layout.specs.Opening.{Contents, StandsFor, StandsForFront}
use Rattle.ticket_order.specs.declared.record.Asked.{Asked}
use Rattle.ticket_order.specs.declared.record.Asked.TheVariants.{Changing, Reading}
use Rattle.ticket_order.specs.declared.record.Call.{Call}
use Rattle.ticket_order.specs.declared.record.Opening.{Opening}
use Rattle.ticket_order.specs.declared.record.Record.{Record}
use Rattle.ticket_order.specs.declared.record.StepMade.{StepMade}
use Rattle.ticket_order.specs.declared.record.StepMade.TheVariants.{Saw}
use Rattle.ticket_order.specs.Records.{call}
use Rattle.ticket_order.specs.Legality.{IsLegal, IsLegalCall, history_from, history_of}
use Rattle.ticket_order.specs.StepRules.{AllLegalCalls}
use Rattle.ticket_order.proofs.Longer.{fold_longer}
use Rattle.one_history.specs.declared.book.Book.{Book}
use Rattle.one_history.specs.Turns.{record_of}
use Rattle.one_history.specs.OneHistory.{HasDone, IsOneHistory, Knows, StaysSo}
use Rattle.one_history.proofs.Fronts.{front_length}
use Rattle.one_history.proofs.Legal.{legal_longer}
use Rattle.one_history.proofs.Staying.{steps_stay}
use Rattle.flusher.specs.Fitting.{StopsFit}
use Rattle.durable_map.specs.RunningStore.{AnsweredAreReleased, HoldsReply, IsReleased, OneIsTheKeepers, ReleasedOutliveStops, StopsHold}

-- ---- a reply stays one thread's in a front that reaches its position

get_taken : (m i : ℕ) (xs : List Command) (c : Command) → i < m → slice_get xs i ≡ Some c → slice_get (take m xs) i ≡ Some c
get_taken m i [] c lt e = let no : None ≡ Some c = e in cc
get_taken zero i (x ∷ xs) c lt e = absurd (omega arith)
get_taken (suc m) zero (x ∷ xs) c lt e = e
get_taken (suc m) (suc i) (x ∷ xs) c lt e = get_taken m i xs c (omega arith) e

module _ (o : Opening) (commands : List Command) (count : ℕ) (low : o.first ≤ count) (high : count ≤ o.first + length commands) where
  abbrev m : ℕ
  m = count - o.first

  abbrev shorter : List Command
  shorter = take m commands

  long : length shorter ≡ m
  long = length-take-le m commands (omega (arith, low, high))

  same_fold : (t : ℕ) → t ≤ count → fold_to (history_from o commands) t ≡ fold_to (history_from o shorter) t
  same_fold t le =
      ap (λ (xs : List Command). fold_to (history_from o xs) t) (sym (take-append-drop m commands))
      ∙ fold_longer o shorter (drop m commands) t (let l = long in omega (arith, l, low, le))

  legal_shorter : (q : ℕ) (asked : Asked) (reply : Reply) → q ≤ count → IsLegal (history_from o commands) q asked reply → IsLegal (history_from o shorter) q asked reply
  legal_shorter q (Changing c) reply le l = record {
    ticket = l.ticket;
    position_is = l.position_is;
    from_first = l.from_first;
    command = get_taken m (l.ticket - o.first) commands c (let a = l.position_is in let b = l.from_first in omega (arith, a, b, le)) l.command;
    reply_is = l.reply_is ∙ ap (λ (x : Map). (step x c).reply) (same_fold l.ticket (let a = l.position_is in omega (arith, a, le)));
  }
  legal_shorter q (Reading r) reply le l = record {
    from_first = l.from_first;
    within = let x = long in omega (arith, x, low, le);
    reply_is = l.reply_is ∙ ap (λ (x : Map). answer x r) (same_fold q le);
  }

-- ---- what the records of passes say of the one history

legal_at : (v : Record) (xs : List Call) (k : ℕ) (x : Call) → AllLegalCalls v xs → k < length xs → slice_index_or xs k x ≡ x → IsLegalCall (history_of v) x
legal_at v [] k x legal lt is = absurd (omega arith)
legal_at v (y ∷ xs) zero x legal lt is = subst (IsLegalCall (history_of v)) is legal.0
legal_at v (y ∷ xs) (suc k) x legal lt is = legal_at v xs k x legal.1 (omega arith) is

eqb_same : (k : ℕ) → (k == k) ≡ true
eqb_same k = eq-eqb k k refl

module _ (b : Book) (one : IsOneHistory b) where
  -- a call of a pass is legal in the whole history
  call_legal : (j : ℕ) → j < length b.passes → (q : ℕ) (asked : Asked) (reply : Reply) → Contains (record_of j b).calls (call q asked reply) → IsLegal (history_from b.opening b.history) q asked reply
  call_legal j lt q asked reply has =
      let v : Record = record_of j b in
      let k : Knows b.opening b.stripes b.history b.authors b.effects j v = one.passes j lt in
      let own : IsLegal (history_from v.opening v.seen) q asked reply = legal_at v v.calls has.0 (call q asked reply) k.calls has.1 has.2 in
      subst (λ (xs : List Command). IsLegal (history_from b.opening xs) q asked reply) (sym k.front.is)
      (legal_longer b.opening v.seen k.front.rest q asked reply (subst (λ (o : Opening). IsLegal (history_from o v.seen) q asked reply) k.opening own))

  abbrev p : Record
  p = record_of b.effects.keeper b

  keepers : Knows b.opening b.stripes b.history b.authors b.effects b.effects.keeper p
  keepers = one.passes b.effects.keeper one.keeper

  -- the durable count is what the keeper's pass published
  published_is : p.published ≡ b.effects.durable
  published_is = (subst (HasDone b.opening b.effects p) (keepers.keeper ∙ eqb_same b.effects.keeper) keepers.done).1

  seen_durable : (j d : ℕ) → Contains (record_of j b).steps (Saw d) → d ≤ b.effects.durable
  seen_durable j d has = All-contains (StaysSo b j) (record_of j b).steps (Saw d) (steps_stay b one j) has

  module _ (least most : ℕ) (published : p.published ≤ least) where
    holds : (contents : Contents) → StandsForFront (history_of p) least most contents → (q : ℕ) (asked : Asked) (reply : Reply) → IsReleased b q asked reply → HoldsReply b.opening b.history q asked reply contents
    holds contents f q asked reply r =
        let o : Opening = b.opening in
        let same : p.opening ≡ o = keepers.opening in
        let first : p.opening.first ≡ o.first = ap (λ (x : Opening). x.first) same in
        let all : b.history ≡ p.seen ++ keepers.front.rest = keepers.front.is in
        let low : o.first ≤ f.count = subst (λ (x : ℕ). x ≤ f.count) first f.from_first in
        let within : f.count ≤ o.first + length p.seen = subst (λ (x : ℕ). f.count ≤ x + length p.seen) first f.within in
        let longer : length p.seen ≤ length b.history = front_length p.seen b.history keepers.front in
        let high : f.count ≤ o.first + length b.history = omega (arith, within, longer) in
        let saw = seen_durable r.releaser r.durable r.saw in
        let reached : q ≤ f.count = omega (arith, r.reached, saw, published_is, published, f.from_least) in
        let fold : fold_to (history_of p) f.count ≡ fold_to (history_from o b.history) f.count =
        ap (λ (x : Opening). fold_to (history_from x p.seen) f.count) same
        ∙ (sym (fold_longer o p.seen keepers.front.rest f.count within)
        ∙ ap (λ (xs : List Command). fold_to (history_from o xs) f.count) (sym all)) in record {
          count = f.count;
          stands = subst (StandsFor contents f.count) fold f.stands;
          from_first = low;
          to_last = high;
          reached = reached;
          legal = legal_shorter o b.history f.count low high q asked reply reached (call_legal r.maker r.within q asked reply r.made);
        }

pub outlive : {D : Type 0} (states : D → List Files) (honest : D → Type 0) → ReleasedOutliveStops states honest
outlive states honest n keeper b one keeps =
    let committed : ℕ = keeper.log.committed in
    let most : ℕ = committed + length keeper.staged.items in
    let within : (files : Files) → StopsFit (history_of (record_of b.effects.keeper b)) keeper files → StopsHold b files =
    λ files fit q asked reply r contents leaves. holds b one committed most keeps.published contents (fit contents leaves) q asked reply r in
    ((λ honestly. within (now (states keeper.disk)) (keeps.stops honestly)), within)

-- ---- calls that were answered

pub released : AnsweredAreReleased
released b j n v w asked reply others lt answers on = record {
  maker = j;
  within = lt;
  made = subst (λ (xs : List Call). Contains xs (call answers.position asked reply)) (sym on.calls)
      (Contains-append_left w.calls others (call answers.position asked reply)
      (subst (λ (xs : List Call). Contains xs (call answers.position asked reply)) (sym answers.grew) (Contains-push v.calls (call answers.position asked reply))));
  releaser = j;
  durable = answers.durable.durable;
  saw = subst (λ (xs : List StepMade). Contains xs (Saw answers.durable.durable)) (sym on.beside.steps)
      (Contains-append_left w.steps on.beside.made (Saw answers.durable.durable)
      (subst (λ (xs : List StepMade). Contains xs (Saw answers.durable.durable)) (sym answers.durable.steps)
      (Contains-append_right v.steps (answers.durable.before ++ Saw answers.durable.durable ∷ []) (Saw answers.durable.durable) (Contains-push answers.durable.before (Saw answers.durable.durable)))));
  reached = answers.durable.reached;
}

-- ---- the keeper's pass

-- a pass that is the keeper's is the first of the book
first_is : (b : Book) → IsOneHistory b → (j : ℕ) → j < length b.passes → (record_of j b).keeper ≡ true → j ≡ b.effects.keeper
first_is b one j lt is = eqb-true j b.effects.keeper (sym (one.passes j lt).keeper ∙ is)

pub one_keeper : OneIsTheKeepers
one_keeper o s k id other v w one two first second =
    let all = k.joined in
    let a = one.within in
    let c = two.within in
    let same : one.place ≡ two.place =
    first_is k.book k.kept.one one.place (omega (arith, all, a)) first
    ∙ sym (first_is k.book k.kept.one two.place (omega (arith, all, c)) second) in
    sym one.seat_is ∙ (ap k.seats same ∙ two.seat_is)
