use Rattle.std.proofs.Common.{◌<◌, length, arith}
use Rattle.ticket_order.specs.StepRules.{MayGive}
use Rattle.one_history.specs.Turns.{record_of}
use Rattle.one_history.proofs.Giving.{kept_gave, gives, moves_gave, in_slots}
use Rattle.plain_words.proofs.Seeing.{seen_gave}
use Rattle.plain_words.proofs.words.PlainWords.give.Goals as goal

pub index_mut-requires : goal.index_mut-requires
index_mut-requires c =
    let may : MayGive c.self.inside.ghost_book.book.stripes (record_of c.args.pass c.self.inside.ghost_book.book) c.args.stripe c.args.content c.args.purpose.now = rw c.self.view_is c.requires.fits in
    let within : c.args.stripe < length c.self.inside.slots.items = in_slots _ _ _ _ _ _ _ c.self.invariant.0 (rw c.self.view_is c.requires.pass) _ _ _ may in
    omega arith

pub invariant_of-self : goal.invariant_of-self
invariant_of-self c =
    let may : MayGive c.self.inside.ghost_book.book.stripes (record_of c.args.pass c.self.inside.ghost_book.book) c.args.stripe c.args.content c.args.purpose.now = rw c.self.view_is c.requires.fits in
    rw (c.note.ensures, c.raise_by.ensures) (
      kept_gave _ _ _ _ _ _ _ c.self.invariant.0 (rw c.self.view_is c.requires.pass) _ _ _ may,
      seen_gave _ _ _ _ _ _ _ c.self.invariant.0 (rw c.self.view_is c.requires.pass) _ c.self.invariant.1 _ _ _ may,
      c.self.invariant.2,
    )

pub returns-clause-step : goal.returns-clause-step
returns-clause-step c =
    let may : MayGive c.self.inside.ghost_book.book.stripes (record_of c.args.pass c.self.inside.ghost_book.book) c.args.stripe c.args.content c.args.purpose.now = rw c.self.view_is c.requires.fits in
    rw (c.note.ensures, ← c.self.view_is) (gives _ _ _ _ _ _ _ c.self.invariant.0 (rw c.self.view_is c.requires.pass) _ _ _ may)

pub returns-clause-moved : goal.returns-clause-moved
returns-clause-moved c =
    let may : MayGive c.self.inside.ghost_book.book.stripes (record_of c.args.pass c.self.inside.ghost_book.book) c.args.stripe c.args.content c.args.purpose.now = rw c.self.view_is c.requires.fits in
    rw (c.note.ensures, ← c.self.view_is) (moves_gave _ _ _ _ _ _ _ c.self.invariant.0 (rw c.self.view_is c.requires.pass) _ _ _ may)
