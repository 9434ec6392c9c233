-- An empty body. The borrow is opened, and closed at the book after the step.
use Rattle.std.proofs.Common.{[], ◌∷◌, refl, w64}
use Rattle.std.proofs.raw_atomic.Walks.{proved}
use mir.Syntax.{named}
use mir.Val.{vunit}
use base.Logic.{id⊢}
use base.Fml.{ftrue, flft}
use contract.Running.{tables}
use types.Kit.{‵, raw, ◌⊛◌, ◌$◌, ◌∵◌, !, qed, done, move, keep, use1, split, join, fsplit3, feq_i, suffices, frame, group}
use types.Run.{enter, of_opd, unit_lit, returns}
use types.ByLocal.{alloc_all, pass_all, free_all, look_at, sets}
use denote.Builtin.{usize, RefOf}
use denote.Exit.{yes}
use denote.Plain.{uint_vals, uint_Tells}
use denote.Ref.{MutRef, ShrRef, mut_vals, mut_Tells, shr_vals, shr_Tells}
use denote.Signature.{Slot, plain, named_lft}
use denote.Steps.{nothing, opens, closes}
use denote.Triple.Walked.{Stays, walk_of, says, stay_ref, Goes-ref, stay_dropped, Goes-dropped, ends_at}
use Rattle.plain_words.specs.Noted.{after}
use Rattle.plain_words.specs.declared.ghost_book.GhostBook.{GhostBook}
use Rattle.plain_words.specs.contracts.ghost_book.GhostBook.{the_row as R}
use Rattle.plain_words.specs.contracts.ghost_book.Turn as Turn
use Rattle.plain_words.specs.contracts.ghost_book.GhostBook.note as it
use Rattle.plain_words.proofs.ghost_book.GhostBook.note.Statement.{statement}
use Rattle.plain_words.proofs.ghost_book.GhostBook.note.Code as code

abbrev turn : Slot 3
turn = RefOf (1 ∷ []) tt (plain (λ κs. Turn.the_row (named_lft 3 2 tt κs))) (λ _. tt)

abbrev stayed : Stays it.ended.signature.params it.ended.kept
stayed = (stay_ref (0 ∷ []) tt (plain (λ _. R)), (stay_dropped (plain (λ _. usize)) yes, (stay_dropped turn yes, tt)))

pub note_spec : {M : Type 1} → statement M
note_spec 𝓤 𝓛 𝓜 𝓡 wired =
    let c = it.clauses 𝓛 𝓜.mem 𝓡.returns in let 𝓣 = tables 𝓤 𝓛.H 𝓜 𝓡 𝓡.env in let W = walk_of 𝓛 it.ended stayed c in
    proved 𝓛 it.ended stayed c 𝓜 𝓡 (Goes-ref 𝓛 3 0 tt (plain (λ _. R)), (Goes-dropped 𝓛 3 (plain (λ _. usize)) yes (λ κs x w. refl), (Goes-dropped 𝓛 3 turn yes (λ κs x w. refl), tt)))
    it.Key.name code.function (code.unfolded 𝓤 𝓛.H 𝓜 𝓡 wired)
    (λ κs. (mut_vals, (uint_vals w64, (shr_vals, tt)))) (λ κs. (mut_Tells (named 0) κs.0 R, (uint_Tells w64, (shr_Tells (named 1) κs.1.0 (Turn.the_row (named_lft 3 2 tt κs)), tt)))) (λ κs qs bounds a asks are.
    let b = a.0.ref_ptr.0 in let o = a.0.ref_ptr.1 in let vs = mut_vals a.0 in
    let next : GhostBook = record { marker = a.0.now.marker; book = after a.1.0 a.1.1.0.now a.0.now.book } in
    let y : W.Ghost = ((κs, qs, bounds, a, (vs, (uint_vals w64 a.1.0, (shr_vals a.1.1.0, tt)))), asks) in
    qed 𝓛 (((‵ (flft κs.0 qs.0) ⊛ ‵ (flft κs.1.0 qs.1.0) ⊛ ‵ (flft κs.1.1.0 qs.1.1.0) ⊛ ‵ ftrue) ⊛ ‵ ((MutRef (named 0) κs.0 R).own_val a.0 vs)
    ⊛ ‵ (usize.own_val a.1.0 (uint_vals w64 a.1.0)) ⊛ ‵ ((ShrRef (named 1) κs.1.0 (Turn.the_row (named_lft 3 2 tt κs))).own_val a.1.1.0 (shr_vals a.1.1.0)) ⊛ ‵ ftrue) ∷ raw ((c κs a).requires asks) ∷ []) ∵
    split ! $ split ! $ move ! (2 ∷ []) $ split ! $ keep ! (0 ∷ 2 ∷ 3 ∷ []) $
    enter ! _ _ _ _ _ $ alloc_all ! (λ l. pass_all ! refl ((tt, tt), ((tt, record { fits = are.1.0.1 }), ((tt, tt), tt))) $
    fsplit3 ! $ move ! (1 ∷ 2 ∷ 3 ∷ []) $ opens ! tt R b o (λ us.
    sets ! (of_opd ! (unit_lit !)) refl (tt, tt) $
    move ! (1 ∷ []) $ use1 𝓛 (‵ (R.own_val next us)) (id⊢ 𝓤 _) $ move ! (1 ∷ 0 ∷ []) $ closes ! tt R next us b o $
    returns ! (look_at ! 0 refl) $ free_all ! refl $ move ! (3 ∷ []) $
    suffices ! _ (ends_at 𝓛 it.ended stayed c y vunit tt (next, (tt, (tt, tt))) (tt, (tt, (tt, tt)))) $ says ! refl $
    group ! 3 $ nothing ! $ nothing ! $ join ! $ nothing ! $ join ! $ move ! (1 ∷ 0 ∷ []) $ join ! $ move ! (1 ∷ 2 ∷ []) $ join ! $ frame ! $ frame ! $
    feq_i ! _ (vunit ∷ []) _ refl $ done !)))
