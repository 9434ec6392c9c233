-- What stays of a keeper's standing, and what it says.
use Rattle.std.proofs.Common.{◌≡◌, ℕ, ◌≤◌, List, ◌++◌, length, take, drop, Option, Some, None, refl, sym, ◌∙◌, ap, subst}
use Rattle.map_model.specs.Steps.{fold_of}
use Rattle.ticket_order.specs.declared.record.Record.{Record}
use Rattle.ticket_order.specs.declared.walk.Walk.{Walk}
use Rattle.ticket_order.specs.Records.{reach}
use Rattle.ticket_order.specs.Walks.{next_kind}
use Rattle.disk_model.specs.Files.{Files}
use Rattle.flusher.specs.declared.keeper.Keeper.{Keeper}
use Rattle.flusher.specs.declared.sweeper.Walking.{Walking}
use Rattle.sim_rules.specs.World.{World, Life}
use Rattle.sim_keeper.specs.Showing.{capture_shown, walk_by}
use Rattle.sim_keeper.specs.KeeperInWorld.{HasKeeper, KeeperStands, SeesHistory, StandsIn}

pub same_walk : (n : ℕ) (walks : Walking) (o : Option Walk) (p q : Record) → reach p ≡ reach q → walk_by n walks o p ≡ walk_by n walks o q
same_walk n walks None p q e = refl
same_walk n walks (Some walk) p q e = ap (capture_shown (next_kind n walk)) e

-- in the world as it is
pub inside : {D : Type 0} (states : D → List Files) (keeper : Keeper D) (p : Record) (w : World) (l : Life) → KeeperStands states keeper p w l → HasKeeper states keeper p w
inside {D} states keeper p w l s = subst (λ life. StandsIn states keeper p w life) (sym s.life) s

-- the same history, in another world
pub same_history : (p q : Record) (w v : World) (l m : Life) → q.opening ≡ p.opening → q.seen ≡ p.seen → v.history ≡ w.history → m.first ≡ l.first → SeesHistory p w l → SeesHistory q v m
same_history p q w v l m opening seen history first s = record {
  first = ap (λ o. o.first) opening ∙ s.first ∙ sym first;
  within = subst (λ h. m.first ≤ length h) (sym history) (subst (λ n. n ≤ length w.history) (sym first) s.within);
  opening = ap (λ o. o.map) opening ∙ s.opening ∙ ap (λ n. fold_of (take n w.history)) (sym first) ∙ ap (λ h. fold_of (take m.first h)) (sym history);
  unseen = s.unseen;
  added = ap (λ h. drop m.first h) history ∙ ap (λ n. drop n w.history) first ∙ s.added ∙ ap (λ xs. xs ++ s.unseen) (sym seen);
}
