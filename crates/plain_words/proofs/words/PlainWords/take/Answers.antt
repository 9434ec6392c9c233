use Rattle.std.proofs.Common.{◌≡◌, ◌<◌, None, length, arith, sym, ◌∙◌}
use Rattle.std.proofs.lemmas.List.{get_or_default, set-get_or}
use Rattle.one_history.specs.declared.slot.Slot.TheVariants.{Home, HeldBy}
use Rattle.one_history.specs.Turns.{record_of}
use Rattle.one_history.specs.SharedWords.{slot_of}
use Rattle.one_history.proofs.Taking.{kept_took, takes_stripe, moves_took}
use Rattle.one_history.proofs.Watching.{kept_found_held, misses, moves_found_held}
use Rattle.plain_words.proofs.Seeing.{seen_took, seen_found_held}
use Rattle.plain_words.proofs.words.PlainWords.take.Goals as goal

pub raise_to_outbox-requires-clause-ends : goal.raise_to_outbox-requires-clause-ends
raise_to_outbox-requires-clause-ends c =
    let lt : c.args.stripe < c.self.inside.ghost_book.book.stripes = rw c.self.view_is c.requires.within in
    let fits : c.args.stripe < length c.self.inside.slots.items = omega (arith, c.self.invariant.0.stripes_are, c.self.invariant.0.sized) in
    let home : slot_of c.args.stripe c.self.inside.slots.items ≡ Home c.in-Home.content =
    get_or_default _ c.args.stripe _ _ fits ∙ (sym c.index_mut-place.ensures.value ∙ (sym c.replace.ensures.value ∙ c.in-Home.is)) in
    let within : c.args.pass < length c.self.inside.ghost_book.book.passes = rw c.self.view_is c.requires.pass in
    let empty : (record_of c.args.pass c.self.inside.ghost_book.book).holding ≡ None = rw c.self.view_is c.requires.empty_handed in
    let took = takes_stripe _ _ _ _ _ _ _ c.self.invariant.0 within _ _ lt empty home in
    took.ends

pub invariant_of-self : goal.invariant_of-self
invariant_of-self c =
    let lt : c.args.stripe < c.self.inside.ghost_book.book.stripes = rw c.self.view_is c.requires.within in
    let fits : c.args.stripe < length c.self.inside.slots.items = omega (arith, c.self.invariant.0.stripes_are, c.self.invariant.0.sized) in
    let home : slot_of c.args.stripe c.self.inside.slots.items ≡ Home c.in-Home.content =
    get_or_default _ c.args.stripe _ _ fits ∙ (sym c.index_mut-place.ensures.value ∙ (sym c.replace.ensures.value ∙ c.in-Home.is)) in
    rw (c.note.ensures, c.replace.ensures.after, c.raise_to_outbox.ensures) (
      kept_took _ _ _ _ _ _ _ c.self.invariant.0 (rw c.self.view_is c.requires.pass) _ _ lt (rw c.self.view_is c.requires.empty_handed) home,
      seen_took _ _ _ _ _ _ _ c.self.invariant.0 (rw c.self.view_is c.requires.pass) _ c.self.invariant.1 _ _ lt (rw c.self.view_is c.requires.empty_handed) home,
      c.self.invariant.2,
    )

pub invariant_of-self-in-HeldBy : goal.invariant_of-self-in-HeldBy
invariant_of-self-in-HeldBy c =
    let lt : c.args.stripe < c.self.inside.ghost_book.book.stripes = rw c.self.view_is c.requires.within in
    let fits : c.args.stripe < length c.self.inside.slots.items = omega (arith, c.self.invariant.0.stripes_are, c.self.invariant.0.sized) in
    let held_here : slot_of c.args.stripe c.self.inside.slots.items ≡ HeldBy c.in-HeldBy.holder =
    get_or_default _ c.args.stripe _ _ fits ∙ (sym c.index_mut-place.ensures.value ∙ (sym c.replace.ensures.value ∙ c.in-HeldBy.is)) in
    let held = sym c.in-HeldBy.is ∙ (c.replace.ensures.value ∙ c.index_mut-place.ensures.value) in
    rw (c.note-in-HeldBy.ensures, held, set-get_or) (
      kept_found_held _ _ _ _ _ _ _ c.self.invariant.0 (rw c.self.view_is c.requires.pass) _ _ lt (rw c.self.view_is c.requires.empty_handed) held_here,
      seen_found_held _ _ _ _ _ _ _ c.self.invariant.0 (rw c.self.view_is c.requires.pass) _ c.self.invariant.1 _ _ lt (rw c.self.view_is c.requires.empty_handed) held_here,
      c.self.invariant.2,
    )

pub returns-in-Home-clause-step : goal.returns-in-Home-clause-step
returns-in-Home-clause-step c =
    let lt : c.args.stripe < c.self.inside.ghost_book.book.stripes = rw c.self.view_is c.requires.within in
    let fits : c.args.stripe < length c.self.inside.slots.items = omega (arith, c.self.invariant.0.stripes_are, c.self.invariant.0.sized) in
    let home : slot_of c.args.stripe c.self.inside.slots.items ≡ Home c.in-Home.content =
    get_or_default _ c.args.stripe _ _ fits ∙ (sym c.index_mut-place.ensures.value ∙ (sym c.replace.ensures.value ∙ c.in-Home.is)) in
    rw (c.note.ensures, ← c.self.view_is) (takes_stripe _ _ _ _ _ _ _ c.self.invariant.0 (rw c.self.view_is c.requires.pass) _ _ lt (rw c.self.view_is c.requires.empty_handed) home)

pub returns-in-Home-clause-moved : goal.returns-in-Home-clause-moved
returns-in-Home-clause-moved c =
    let lt : c.args.stripe < c.self.inside.ghost_book.book.stripes = rw c.self.view_is c.requires.within in
    let fits : c.args.stripe < length c.self.inside.slots.items = omega (arith, c.self.invariant.0.stripes_are, c.self.invariant.0.sized) in
    let home : slot_of c.args.stripe c.self.inside.slots.items ≡ Home c.in-Home.content =
    get_or_default _ c.args.stripe _ _ fits ∙ (sym c.index_mut-place.ensures.value ∙ (sym c.replace.ensures.value ∙ c.in-Home.is)) in
    rw (c.note.ensures, ← c.self.view_is) (moves_took _ _ _ _ _ _ _ c.self.invariant.0 (rw c.self.view_is c.requires.pass) _ _ lt (rw c.self.view_is c.requires.empty_handed) home)

pub returns-in-HeldBy-clause-step : goal.returns-in-HeldBy-clause-step
returns-in-HeldBy-clause-step c = rw (c.note-in-HeldBy.ensures, ← c.self.view_is) (misses _ _ _ _ _ _ _ c.self.invariant.0 (rw c.self.view_is c.requires.pass) _)

pub returns-in-HeldBy-clause-moved : goal.returns-in-HeldBy-clause-moved
returns-in-HeldBy-clause-moved c =
    let lt : c.args.stripe < c.self.inside.ghost_book.book.stripes = rw c.self.view_is c.requires.within in
    let fits : c.args.stripe < length c.self.inside.slots.items = omega (arith, c.self.invariant.0.stripes_are, c.self.invariant.0.sized) in
    let held : slot_of c.args.stripe c.self.inside.slots.items ≡ HeldBy c.in-HeldBy.holder =
    get_or_default _ c.args.stripe _ _ fits ∙ (sym c.index_mut-place.ensures.value ∙ (sym c.replace.ensures.value ∙ c.in-HeldBy.is)) in
    rw (c.note-in-HeldBy.ensures, ← c.self.view_is) (moves_found_held _ _ _ _ _ _ _ c.self.invariant.0 (rw c.self.view_is c.requires.pass) _ _ lt (rw c.self.view_is c.requires.empty_handed) held)
