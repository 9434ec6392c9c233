use Rattle.std.proofs.Common.{◌∙◌, ap, arith, refl, ℕ, []}
use Rattle.store_layout.specs.Hands.{Hand}
use Rattle.flusher.proofs.FittingKeepers.{fits_opened}
use Rattle.flusher.proofs.keeper.Keeper.opened.Goals as goal

pub returns-clause-fits : goal.returns-clause-fits
returns-clause-fits g c = λ p is u found.
    fits_opened g.D.Disk.states g.D.Disk.honest c.args.stripes.count c.args.sealed c.args.log c.args.must_close _ p c.beginnings_of_stores.ensures.opened
    (omega (arith, c.committed-first.type_inv, c.committed-first.ensures)) (record {
      store = refl;
      hand = c.new.ensures.hand ∙ ap (λ (t : ℕ). let h : Hand = record { next = t; slots = [] } in h) c.committed-first.ensures;
      sweep = c.new.ensures.sweep.0;
      walking = c.new.ensures.sweep.1;
      staged = c.new-2.ensures.items;
      must_close_is = refl;
      works = refl;
      failed = refl;
      published = c.committed-first.ensures;
      stripes_are = refl;
    }) is u found
