-- A value of no bytes, at where the history begins.
use Rattle.std.proofs.Common.{List, [], ◌∷◌, refl, w16, w64}
use Rattle.std.proofs.raw_atomic.Walks.{proved}
use mir.Syntax.{named}
use mir.Val.{Val, vstruct, vnil}
use base.Fml.{ftrue, flft}
use contract.Running.{tables}
use types.Kit.{‵, raw, ◌⊛◌, ◌$◌, ◌∵◌, !, qed, move, keep, split, join, suffices, done}
use types.Run.{no_more, and_then, returns, enter}
use types.Part.{agg}
use types.ByLocal.{alloc_all, pass_all, free_all, look_at, get, sets}
use denote.Builtin.{u16, u64}
use denote.Exit.{yes}
use denote.Plain.{uint_vals, uint_Tells}
use denote.Shadow.{pure_i}
use denote.Signature.{plain, types_at}
use denote.RattleType.{owns}
use denote.Slice.{shr_slice_vals, shr_slice_Tells}
use denote.Steps.{nothing}
use denote.Triple.Walked.{Stays, says, stay_dropped, Goes-dropped, ends_at}
use Rattle.atomic_methods.specs.contracts.parts.Part as Part
use Rattle.one_history.specs.Turns.{opening_of}
use Rattle.one_history.proofs.GivenParts.{parts, nothing_in}
use Rattle.stripe_locks.specs.declared.beginning.Beginning.{Beginning}
use Rattle.stripe_locks.specs.contracts.beginning.Beginning.{the_row as R}
use Rattle.stripe_locks.specs.contracts.beginning.Beginning.new as it
use Rattle.stripe_locks.proofs.beginning.Beginning.new.Statement.{statement}
use Rattle.stripe_locks.proofs.beginning.Beginning.new.Code as code

abbrev stayed : Stays it.ended.signature.params it.ended.kept
stayed = (stay_dropped (plain (λ _. u64)) yes, (stay_dropped parts yes, (stay_dropped (plain (λ _. u16)) yes, tt)))

pub new_spec : {M : Type 1} → statement M
new_spec 𝓤 𝓛 𝓜 𝓡 wired =
    let c = it.clauses 𝓛 𝓜.mem 𝓡.returns in let 𝓣 = tables 𝓤 𝓛.H 𝓜 𝓡 𝓡.env in
    proved 𝓛 it.ended stayed c 𝓜 𝓡 (Goes-dropped 𝓛 1 (plain (λ _. u64)) yes (λ κs x w. refl), (Goes-dropped 𝓛 1 parts yes (λ κs x w. refl), (Goes-dropped 𝓛 1 (plain (λ _. u16)) yes (λ κs x w. refl), tt)))
    it.Key.name code.function (code.unfolded 𝓤 𝓛.H 𝓜 𝓡 wired)
    (λ κs. (uint_vals w64, (shr_slice_vals, (uint_vals w16, tt)))) (λ κs. (uint_Tells w64, (shr_slice_Tells (named 0) κs.0 Part.the_row, (uint_Tells w16, tt)))) (λ κs qs bounds a asks are.
    let made : Beginning = record { marker = record {}; opening = opening_of a.0 a.1.0.now a.1.1.0 } in
    let vs : List Val × (List Val × (List Val × Unit {0})) = (uint_vals w64 a.0, (shr_slice_vals a.1.0, (uint_vals w16 a.1.1.0, tt))) in
    qed 𝓛 ((((‵ (flft κs.0 qs.0) ⊛ ‵ ftrue) ⊛ ‵ (owns (types_at it.signature.params κs) a vs))) ∷ raw ((c κs a).requires asks) ∷ []) ∵ split ! $ keep ! (0 ∷ []) $
    enter ! _ _ _ _ _ $ alloc_all ! (λ l. pass_all ! refl ((tt, record { fits = are.0.1 }), ((tt, (tt, (record { fits = are.1.0.0.1.0 }, tt))), ((tt, record { fits = are.1.1.0.1 }), tt))) $
    sets ! (agg ! (no_more !)) refl (tt, tt) $ sets ! (agg ! (and_then ! (get ! refl) (no_more !))) refl (tt, (tt, tt)) $
    returns ! (look_at ! 0 refl) $ free_all ! refl $
    pure_i ! (R.own_val made (nothing_in ∷ [])) ((λ vss. (tt, ((λ uss. (tt, tt)), tt))), tt) (((vstruct vnil ∷ [], tt), (refl, ((tt, (refl, tt)), tt))), tt) $
    suffices ! _ (ends_at 𝓛 it.ended stayed c ((κs, qs, bounds, a, vs), asks) nothing_in made (tt, (tt, (tt, tt))) (tt, (tt, (tt, tt)))) $ says ! refl $
    nothing ! $ nothing ! $ join ! $ nothing ! $ join ! $ nothing ! $ join ! $ join ! $ move ! (1 ∷ 0 ∷ []) $ done !))
