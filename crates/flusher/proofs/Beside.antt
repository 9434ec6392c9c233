-- The keeper beside the calls and releases of its own pass.
use Rattle.std.proofs.Common.{◌≡◌, ℕ, ◌+◌, List, ◌++◌, length, Option, Some, None, false, sym, ◌∙◌, ap, subst, arith}
use Rattle.std.specs.List.{Contains}
use Rattle.std.proofs.lemmas.List.{length-append}
use Rattle.std.proofs.lemmas.List.Elements.{Contains-append_left}
use Rattle.disk_model.specs.Files.{Files}
use Rattle.map_types.specs.declared.commands.Command.{Command}
use Rattle.ticket_order.specs.declared.stripe.Entry.{Entry}
use Rattle.ticket_order.specs.declared.record.StepMade.{StepMade}
use Rattle.ticket_order.specs.declared.record.StepMade.TheVariants.{Looked}
use Rattle.ticket_order.specs.declared.record.Opening.{Opening}
use Rattle.ticket_order.specs.declared.record.Record.{Record}
use Rattle.store_layout.specs.OpeningLaws.{FrontStays}
use Rattle.gate_log.specs.States.{commands_of}
use Rattle.store_invariant.specs.Laws.{StandingStays}
use Rattle.flusher.specs.declared.keeper.Keeper.{Keeper}
use Rattle.flusher.specs.declared.sweeper.Sweep.{Sweep}
use Rattle.flusher.specs.declared.sweeper.Walking.{Walking}
use Rattle.flusher.specs.declared.sweeper.Walking.TheVariants.{Rests, SweepTakes, SweepGives}
use Rattle.store_layout.specs.Hands.{Hand}
use Rattle.flusher.specs.Gathering.{Accounts, AreTaken, AreWithin, Gathers, HasSweptBelow}
use Rattle.flusher.specs.Sweeping.{StandsBy}
use Rattle.flusher.specs.KeeperSteps.{is_walking}
use Rattle.flusher.specs.Fitting.{Fits, IsBeside}
use Rattle.ticket_order.proofs.Entries.{grown, shrunk}
use Rattle.flusher.proofs.Keys.{keys_beside}
use Rattle.flusher.proofs.Storing.{stores_seen}

gathers_beside : (hand : Hand) (gone : List Command) (p w : Record) → IsBeside p w → Gathers hand gone p → Gathers hand gone w
gathers_beside hand gone p w b k =
    let on : Accounts hand gone p.opening.first p.taken (p.seen ++ b.seen.more) = record {
      low = k.accounts.low;
      reached = k.accounts.reached;
      each = k.accounts.each;
      was_taken = k.accounts.was_taken;
      held = k.accounts.held;
      known = λ e has. grown p.opening.first p.seen b.seen.more e (k.accounts.known e has);
    } in
    record {
      keeper = b.keeper ∙ k.keeper;
      accounts = subst (λ (o : Opening). Accounts hand gone o.first w.taken w.seen) (sym b.opening)
          (subst (λ (es : List Entry). Accounts hand gone p.opening.first es w.seen) (sym b.taken) (subst (λ (xs : List Command). Accounts hand gone p.opening.first p.taken xs) (sym b.seen.is) on));
      within = subst (λ (o : Opening). AreWithin o.key_limit w.taken) (sym b.opening) (subst (AreWithin p.opening.key_limit) (sym b.taken) k.within);
    }

swept_beside : (n count stripe : ℕ) (p w : Record) → IsBeside p w → HasSweptBelow n count stripe p → HasSweptBelow n count stripe w
swept_beside n count stripe p w b h =
    let first : w.opening.first ≡ p.opening.first = ap (λ (o : Opening). o.first) b.opening in
    let all : AreTaken n count stripe p.opening.first p.taken (p.seen ++ b.seen.more) = λ e has below of_stripe.
    h.all e (shrunk p.opening.first p.seen b.seen.more e has (omega (arith, below, h.reached))) below of_stripe in
    record {
      looked = subst (λ (s : List StepMade). Contains s (Looked count)) (sym b.steps) (Contains-append_left p.steps b.made (Looked count) h.looked);
      reached = omega (arith, h.reached, first, ap (λ (xs : List Command). length xs) b.seen.is, length-append p.seen b.seen.more);
      all = subst (λ (t : ℕ). AreTaken n count stripe t w.taken w.seen) (sym first)
          (subst (λ (es : List Entry). AreTaken n count stripe p.opening.first es w.seen) (sym b.taken) (subst (λ (xs : List Command). AreTaken n count stripe p.opening.first p.taken xs) (sym b.seen.is) all));
    }

stands_beside : (n : ℕ) (o : Option Sweep) (v : Walking) (hand : Hand) (gone : List Command) (p w : Record) → is_walking v ≡ false → IsBeside p w → w.holding ≡ None → StandsBy n o v hand gone p → StandsBy n o v hand gone w
stands_beside n None Rests hand gone p w r b free h = record { free = free; gathers = gathers_beside hand gone p w b h.gathers }
stands_beside n None SweepTakes hand gone p w r b free h = absurd h
stands_beside n None (SweepGives walk) hand gone p w r b free h = absurd h
stands_beside n (Some sweep) Rests hand gone p w r b free h = record {
  free = free;
  within = h.within;
  below = swept_beside n sweep.count sweep.stripe p w b h.below;
  gathers = gathers_beside hand gone p w b h.gathers;
}
stands_beside n (Some sweep) SweepTakes hand gone p w r b free h = cc
stands_beside n (Some sweep) (SweepGives walk) hand gone p w r b free h = cc

pub fits_beside : {D : Type 0} (states : D → List Files) (honest : D → Type 0) (n : ℕ) (done : List Command) (keeper : Keeper D) (p w : Record) → StandingStays → FrontStays → Fits states honest n done keeper p
    → is_walking keeper.sweeper.walking ≡ false → IsBeside p w → w.holding ≡ None → Fits states honest n done keeper w
fits_beside {D} states honest n done keeper p w stay front f r b free = record {
  stands = stands_beside n keeper.sweeper.sweep keeper.sweeper.walking keeper.sweeper.in_hand (done ++ commands_of keeper.staged.items) p w r b free f.stands;
  counts = record {
    committed = ap (λ (o : Opening). o.first + length done) b.opening ∙ f.counts.committed;
    next = f.counts.next;
    count = f.counts.count;
    tickets = f.counts.tickets;
    fits = f.counts.fits;
    empty = f.counts.empty;
  };
  tells = record { published = f.tells.published ∙ sym b.published; durable = f.tells.durable; failed = f.tells.failed ∙ sym b.failed };
  stripes = f.stripes;
  rotation = f.rotation;
  keys = keys_beside keeper.log p w b.opening f.keys;
  stores = stores_seen states honest keeper p w stay front b.opening b.seen f.stores;
}
