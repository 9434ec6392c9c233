-- Views and calls of one pass are of one history.
use Rattle.std.proofs.Common.{◌≡◌, ℕ, ◌+◌, ◌≤◌, List, [], ◌∷◌, ◌++◌, length, map, All, refl, sym, ap, ◌∙◌, arith}
use Rattle.std.proofs.lemmas.List.Elements.{All-nil, All-cons}
use Rattle.map_types.specs.declared.commands.Command.{Command}
use Rattle.map_model.specs.Maps.{Map}
use Rattle.map_model.specs.Parts.{union_of}
use Rattle.map_model.specs.Histories.{fold_to}
use Rattle.ticket_order.specs.declared.record.Asked.{Asked}
use Rattle.ticket_order.specs.declared.record.Opening.{Opening}
use Rattle.ticket_order.specs.declared.record.Record.{Record}
use Rattle.ticket_order.specs.declared.record.Call.{Call}
use Rattle.ticket_order.specs.Records.{call, reach}
use Rattle.ticket_order.specs.Legality.{history_from, history_of}
use Rattle.ticket_order.proofs.Longer.{fold_longer}
use Rattle.one_history.specs.OneHistory.{Follows}
use Rattle.flusher.specs.Fitting.{IsBeside}
use Rattle.durable_map.proofs.Answering.{legal_on, reached, follows_more}
use Rattle.bulk_tasks.specs.Parts.{parts_from}
use Rattle.bulk_tasks.specs.Completing.{Rising, view_of}
use Rattle.bulk_tasks.specs.Laws.{CallsFollowViews, ViewsFollowCalls}

-- ---- marks that don't fall

-- the first of them is at most the end
highest : (q : ℕ) (marks : List ℕ) (high : ℕ) → Rising q marks high → q ≤ high
highest q [] high r = r
highest q (p ∷ marks) high r = omega (arith, r.0, highest p marks high r.1)

-- each is at least the start
above : (p low : ℕ) (marks : List ℕ) (high : ℕ) → p ≤ low → Rising low marks high → All (λ q. p ≤ q) marks
above p low [] high at r = All-nil (λ q. p ≤ q)
above p low (q ∷ marks) high at r =
    let here : p ≤ q = omega (arith, at, r.0) in
    All-cons (λ q. p ≤ q) q marks here (above p q marks high here r.1)

-- what stands behind the end stands behind each
behind : (low : ℕ) (marks : List ℕ) (high : ℕ) (asked : Asked) (position : ℕ) → Rising low marks high → Follows high asked position → All (λ q. Follows q asked position) marks
behind low [] high asked position r follows = All-nil (λ q. Follows q asked position)
behind low (q ∷ marks) high asked position r follows =
    All-cons (λ q. Follows q asked position) q marks (follows_more q high asked position (highest q marks high r.1) follows) (behind q marks high asked position r.1 follows)

-- ---- what stays while a pass sees more

-- the maps at marks that were seen
maps_on : (o : Opening) (h more : List Command) (low : ℕ) (marks : List ℕ) → Rising low marks (o.first + length h) → map (fold_to (history_from o (h ++ more))) marks ≡ map (fold_to (history_from o h)) marks
maps_on o h more low [] r = refl
maps_on o h more low (q ∷ marks) r =
    let within : q ≤ o.first + length h = highest q marks (o.first + length h) r.1 in
    ap (λ (m : Map). m ∷ map (fold_to (history_from o (h ++ more))) marks) (fold_longer o h more q within) ∙ ap (λ (ms : List Map). fold_to (history_from o h) q ∷ ms) (maps_on o h more q marks r.1)

view_on : (n : ℕ) (u w : Record) (low : ℕ) (marks : List ℕ) → IsBeside u w → Rising low marks (reach u) → view_of n (history_of w) marks ≡ view_of n (history_of u) marks
view_on n u w low marks k r =
    let U : List Map → Map = λ ms. union_of (parts_from n 0 ms) in
    ap (λ (o : Opening). U (map (fold_to (history_from o w.seen)) marks)) k.opening
    ∙ (ap (λ (xs : List Command). U (map (fold_to (history_from u.opening xs)) marks)) k.seen.is ∙ ap U (maps_on u.opening u.seen k.seen.more low marks r))

-- ---- a view and a call, one behind the other

pub views_follow : ViewsFollowCalls
views_follow n v u w asked reply view a b =
    let x = a.adds in
    let y = b.adds in record {
      position = x.position;
      grew = b.calls ∙ x.grew;
      legal = legal_on u w asked x.position reply b.beside x.legal;
      seen = above x.position (reach u) view.marks (reach w) (reached u asked x.position reply x.legal) y.captures.rising;
    }

pub calls_follow : CallsFollowViews
calls_follow n v u w view asked reply a b =
    let x = a.adds in
    let y = b.adds in record {
      position = y.position;
      grew = y.grew ∙ ap (λ (calls : List Call). calls ++ call y.position asked reply ∷ []) a.calls;
      map_is = x.map_is ∙ sym (view_on n u w (reach v) view.marks b.goes_on.beside x.captures.rising);
      later = behind (reach v) view.marks (reach u) asked y.position x.captures.rising y.later;
    }
