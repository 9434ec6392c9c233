-- No bytes are made. The event is known by what the references lead to, and they are given back as they came.
use mathlib.Core.Path.{refl}
use mathlib.Core.List.{List, [], ◌∷◌}
use seplogic.Ra.Ura.{Ura}
use mir.Syntax.{named}
use mir.Val.{Val, vptr, vstruct, vnil}
use base.Logic.{SProp, ent, emp, via, fst∗}
use base.Fml.{Fml}
use prog.Memory.{Memory}
use prog.Routine.{Routine}
use prog.Wp.{WpFn, Tables}
use types.Logic.{Logic}
use contract.Lifetimes.{Lfts, Shares, AllOutlive}
use contract.Monad.{Fun}
use contract.Running.{tables, tables_of}
use sound.WpLaws.{WpFn-mono}
use types.Kit.{‵, raw, ◌$◌, ◌∵◌, !, qed, move, suffices, done}
use types.Run.{no_more, returns, enter}
use types.Part.{agg}
use types.ByLocal.{alloc_all, pass_all, free_all, look_at, sets}
use denote.Exit.{yes}
use denote.RattleType.{owns}
use denote.Ref.{shr_vals, shr_Tells}
use denote.Shadow.{pure_i}
use denote.Signature.{Slot, plain, named_lft, types_at}
use denote.Triple.Entry.{on_entry, alive, Args}
use denote.Triple.Spec.{Meets, triple_of}
use denote.Triple.Table.{entered}
use denote.Triple.Walked.{says, stay_none_ref, Stays, AllGo, walk_of, Walks, ends_at, walked, Goes-none_ref, walk_Meets}
use Rattle.disk_model.specs.Events.{event_of}
use Rattle.disk_model.specs.declared.past.Past.{Past}
use Rattle.disk_model.specs.contracts.past.Past as past
use Rattle.disk_model.specs.contracts.past.Note as note
use Rattle.disk_model.specs.contracts.past.Past.with.Key.{name as key}
use Rattle.disk_model.specs.contracts.past.Past.with as f
use Rattle.disk_model.proofs.past.Past.with.Statement as stated
use Rattle.disk_model.proofs.past.Past.with.Code as code

abbrev pasts : Slot 3
pasts = plain (λ κs. past.the_row)

abbrev notes : Slot 3
notes = plain (λ κs. note.the_row (named_lft 3 2 tt κs))

abbrev stayed : Stays f.ended.signature.params f.ended.kept
stayed = (stay_none_ref (0 ∷ []) tt pasts yes, (stay_none_ref (1 ∷ []) tt notes yes, tt))

module _ {M : Type 1} {𝓤 : Ura M} (𝓛 : Logic 𝓤) (mem : Memory → SProp 𝓤) (run : Routine → Fun 𝓤) (𝓣 : Tables 𝓤 𝓛.H) where
  abbrev W : List Val → (Val → SProp 𝓤) → SProp 𝓤
  W = WpFn 𝓤 𝓛.H 𝓣.C 𝓣.Λ code.function

  module _ (κs : Lfts 3) (qs : Shares 3) (bounds : AllOutlive 3 f.signature.outlives κs) (a : Args f.signature κs) where
    abbrev place : Val
    place = vptr a.0.ref_ptr.0 a.0.ref_ptr.1

    abbrev note_place : Val
    note_place = vptr a.1.0.ref_ptr.0 a.1.0.ref_ptr.1

    abbrev made : Past
    made = record { events = event_of a.1.0.now ∷ a.0.now.events }

    abbrev bound : (walk_of 𝓛 f.ended stayed (f.clauses 𝓛 mem run)).Ghost
    bound = ((κs, qs, bounds, a, (place ∷ [], (note_place ∷ [], tt))), tt)

    abbrev passed : Fml
    passed = owns (types_at f.signature.params κs) a (place ∷ [], (note_place ∷ [], tt))

    walk : ent 𝓤 (on_entry 𝓛 f.signature κs qs a (place ∷ [], (note_place ∷ [], tt))) (W (place ∷ note_place ∷ []) ((walk_of 𝓛 f.ended stayed (f.clauses 𝓛 mem run)).post bound))
    walk =
        qed 𝓛 (raw (alive 𝓛 f.signature κs qs) ∷ ‵ passed ∷ []) ∵ enter ! 𝓣.C 𝓣.Λ code.function (place ∷ note_place ∷ []) _ $
        alloc_all ! (λ l. pass_all ! refl ((tt, tt), ((tt, tt), tt)) $ sets ! (agg ! (no_more !)) refl (tt, tt) $
        returns ! (look_at ! 0 refl) $ free_all ! refl $
        suffices ! _ (ends_at 𝓛 f.ended stayed (f.clauses 𝓛 mem run) bound (vstruct vnil) made (tt, (tt, tt)) (tt, (tt, tt))) $
        says ! refl $ pure_i ! (past.the_row.own_val made (vstruct vnil ∷ [])) ((λ vss. (tt, tt)), tt) ((tt, (refl, tt)), tt) $
        move ! (1 ∷ 2 ∷ 0 ∷ []) $ done !)

  walks : Walks 𝓛 f.ended stayed W (f.clauses 𝓛 mem run)
  walks =
      walked 𝓛 f.ended stayed (f.clauses 𝓛 mem run) W (λ κs. (shr_vals, (shr_vals, tt)))
      (λ κs. (shr_Tells (named 0) κs.0 past.the_row, (shr_Tells (named 1) κs.1.0 (note.the_row (named_lft 3 2 tt κs)), tt)))
      (λ κs qs bounds a g are. via 𝓤 _ (fst∗ 𝓤 _ (emp 𝓤)) (walk κs qs bounds a))

  goes : AllGo 𝓛 3 f.signature.params f.ended.kept stayed
  goes = (Goes-none_ref 𝓛 3 (0 ∷ []) tt pasts yes, (Goes-none_ref 𝓛 3 (1 ∷ []) tt notes yes, tt))

  meets : Meets 𝓛 f.signature W (f.spec 𝓛 mem run)
  meets = walk_Meets 𝓛 f.ended stayed goes (f.clauses 𝓛 mem run) W (WpFn-mono 𝓤 𝓛.H 𝓛.laws 𝓣 code.function) walks

pub with_spec : {M : Type 1} → stated.statement M
unfolding tables_of
with_spec 𝓤 𝓛 𝓜 𝓡 wired =
    let 𝓣 = tables 𝓤 𝓛.H 𝓜 𝓡 𝓡.env in
    entered 𝓤 𝓛.H (triple_of 𝓛 f.signature (f.spec 𝓛 𝓜.mem 𝓡.returns)) 𝓣.C 𝓣.Λ key code.function (code.unfolded 𝓤 𝓛.H 𝓜 𝓡 wired)
    (meets 𝓛 𝓜.mem 𝓡.returns (tables_of 𝓤 𝓛.H 𝓜 𝓣))
