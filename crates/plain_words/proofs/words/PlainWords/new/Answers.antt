use Rattle.std.proofs.Common.{◌<◌, arith, refl}
use Rattle.one_history.proofs.Starts.{kept_at_start}
use Rattle.plain_words.proofs.Seeing.{seen_at_start}
use Rattle.plain_words.proofs.words.PlainWords.new.Goals as goal

pub invariant_of-result : goal.invariant_of-result
invariant_of-result c =
    let few : c.args.workers < 65536 = omega arith in
    rw (c.new-ghost_book.ensures, c.deref.ensures.value, c.in_ok-seen.ensures.items_if_clones_equal (λ y e. e), c.from.ensures) (
      kept_at_start _ _ _ _ _ _ c.requires.count c.requires.parts c.in_ok-slots.ensures.ok few,
      seen_at_start _ _ _ _,
      refl,
    )
