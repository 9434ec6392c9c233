-- A request of the whole map, and the first byte of its frame.
use Rattle.std.proofs.Common.{◌≡◌, ◌⊎◌, ℕ, Bool, true, false, cond, eqb, List, [], ◌∷◌, pos, Result, Ok, Err, refl, sym, ◌∙◌, inl, inr}
use Rattle.std.proofs.lemmas.Bool.{eqb-true}
use Rattle.map_types.specs.declared.refusals.Refusal.{Refusal}
use Rattle.map_types.specs.declared.texts.Value.{Value}
use Rattle.map_types.specs.declared.commands.Command.{Command}
use Rattle.map_types.specs.declared.commands.Func.TheVariants.{Sum}
use Rattle.map_types.specs.declared.commands.Question.{Question}
use Rattle.map_types.specs.declared.commands.Question.TheVariants.{Get, GetOrDefault, ContainsKey}
use Rattle.map_types.specs.declared.texts.Value.TheVariants.{Int}
use Rattle.log_records.specs.Reading.{◌>>=◌, key_at, some_value_at, record_at}
use Rattle.wire_frames.specs.declared.requests.Bulk.{Bulk}
use Rattle.wire_frames.specs.declared.requests.Bulk.TheVariants.{Count, Reduce, Search}
use Rattle.wire_frames.specs.declared.requests.Request.{Request}
use Rattle.wire_frames.specs.declared.requests.Request.TheVariants as requests
use Rattle.wire_frames.specs.Messages.{Message, AsksWholeMap, Says}
use Rattle.wire_frames.specs.Requests.{wire_layout, asking, question_at, get_or_default_at, reduce_at, search_at, change_at, request_at, alone, request_of, IsBulkMethod, HasBulkMethod}
use Rattle.wire_frames.specs.Feed.{WholeMapBeginsBulk}
use Rattle.wire_frames.proofs.Fronts.{Reading, done}

-- what was read asks nothing of the whole map
abbrev IsSingle : Reading → Type 0
IsSingle (Err refusal) = Unit {0}
IsSingle (Ok (requests.Read read, rest)) = Unit {0}
IsSingle (Ok (requests.Change command, rest)) = Unit {0}
IsSingle (Ok (requests.Bulk bulk, rest)) = ⊥

not_whole : (bulk : Bulk) (r : Reading) → IsSingle r → (r >>= alone) ≡ Ok (requests.Bulk bulk) → ⊥
not_whole bulk (Err refusal) is e = cc
not_whole bulk (Ok (requests.Read read, [])) is e = cc
not_whole bulk (Ok (requests.Read read, byte ∷ rest)) is e = cc
not_whole bulk (Ok (requests.Change command, [])) is e = cc
not_whole bulk (Ok (requests.Change command, byte ∷ rest)) is e = cc
not_whole bulk (Ok (requests.Bulk other, rest)) is e = is

question_single : (question : Question) (rest : List ℕ) → IsSingle (question_at question rest)
unfolding question_at
question_single question rest = by (key_at wire_layout rest)
  where
    by : (r : Result (List ℕ × List ℕ) Refusal) → IsSingle (r >>= λ key. done (asking key.0 question, key.1))
    by (Err refusal) = tt
    by (Ok key) = tt

default_single : (rest : List ℕ) → IsSingle (get_or_default_at rest)
unfolding get_or_default_at
default_single rest = by (key_at wire_layout rest)
  where
    then : (key : List ℕ) (r : Result (Value × List ℕ) Refusal) → IsSingle (r >>= λ value. done (asking key (GetOrDefault value.0), value.1))
    then key (Err refusal) = tt
    then key (Ok value) = tt

    by : (r : Result (List ℕ × List ℕ) Refusal) → IsSingle (r >>= λ key. some_value_at key.1 >>= λ value. done (asking key.0 (GetOrDefault value.0), value.1))
    by (Err refusal) = tt
    by (Ok key) = then key.0 (some_value_at key.1)

change_single : (bytes : List ℕ) → IsSingle (change_at bytes)
unfolding change_at
change_single bytes = by (record_at wire_layout bytes)
  where
    by : (r : Result (Command × List ℕ) Refusal) → IsSingle (r >>= λ command. done (requests.Change command.0, command.1))
    by (Err refusal) = tt
    by (Ok command) = tt

-- a test that chose between two readings of whole bytes
chose : (b : Bool) (r s : Reading) (read : Result Request Refusal) → (cond b r s >>= alone) ≡ read → ((b ≡ true) × ((r >>= alone) ≡ read)) ⊎ ((b ≡ false) × ((s >>= alone) ≡ read))
chose true r s read e = inl (refl, e)
chose false r s read e = inr (refl, e)

-- ---- the methods

pub bulk_methods : (method : ℕ) → IsBulkMethod method → (method ≡ 32 → ⊥) → (method ≡ 33 → ⊥) → method ≡ 34
bulk_methods method (Count, e) count reduce = absurd (count e)
bulk_methods method (Reduce func threshold, e) count reduce = absurd (reduce e)
bulk_methods method (Search threshold value, e) count reduce = e

pub is_count : (method : ℕ) → method ≡ 32 → IsBulkMethod method
is_count method e = (Count, e)

pub is_reduce : (method : ℕ) → method ≡ 33 → IsBulkMethod method
is_reduce method e = (Reduce Sum 0, e)

pub is_search : (method : ℕ) → method ≡ 34 → IsBulkMethod method
is_search method e = (Search 0 (Int (pos 0)), e)

-- ---- a frame

bulk_method : (body : List ℕ) (bulk : Bulk) → request_of body ≡ Ok (requests.Bulk bulk) → HasBulkMethod body
unfolding request_of request_at
bulk_method [] bulk e = absurd cc
bulk_method (method ∷ rest) bulk e =
    let whole : Result Request Refusal = Ok (requests.Bulk bulk) in
    let sought : Reading = cond (eqb method 34) (search_at rest) (change_at (method ∷ rest)) in
    let reduced : Reading = cond (eqb method 33) (reduce_at rest) sought in
    let counted : Reading = cond (eqb method 32) (done (requests.Bulk Count, rest)) reduced in
    let contained : Reading = cond (eqb method 3) (question_at ContainsKey rest) counted in
    let defaulted : Reading = cond (eqb method 2) (get_or_default_at rest) contained in
    elim (chose (eqb method 1) (question_at Get rest) defaulted whole e) [
      | inl get ↦ absurd (not_whole bulk (question_at Get rest) (question_single Get rest) get.1)
      | inr a ↦ elim (chose (eqb method 2) (get_or_default_at rest) contained whole a.1) [
        | inl default ↦ absurd (not_whole bulk (get_or_default_at rest) (default_single rest) default.1)
        | inr b ↦ elim (chose (eqb method 3) (question_at ContainsKey rest) counted whole b.1) [
          | inl contains ↦ absurd (not_whole bulk (question_at ContainsKey rest) (question_single ContainsKey rest) contains.1)
          | inr c ↦ elim (chose (eqb method 32) (done (requests.Bulk Count, rest)) reduced whole c.1) [
            | inl count ↦ is_count method (eqb-true method 32 count.0)
            | inr d ↦ elim (chose (eqb method 33) (reduce_at rest) sought whole d.1) [
              | inl reduce ↦ is_reduce method (eqb-true method 33 reduce.0)
              | inr f ↦ elim (chose (eqb method 34) (search_at rest) (change_at (method ∷ rest)) whole f.1) [
                | inl search ↦ is_search method (eqb-true method 34 search.0)
                | inr change ↦ absurd (not_whole bulk (change_at (method ∷ rest)) (change_single (method ∷ rest)) change.1)
              ]
            ]
          ]
        ]
      ]
    ]

pub whole_map_begins_bulk : WholeMapBeginsBulk
whole_map_begins_bulk old new message (on, inl t) asks = let same = t.1 in let is = asks.1 in absurd cc
whole_map_begins_bulk old new message (on, inr t) asks =
    record { opened = on; body = t.0; rest = new.left; is_body = t.1; parts = t.2; method = said t.0 message t.4 asks }
  where
    said : (body : List ℕ) (message : Message) → Says body message → AsksWholeMap message → HasBulkMethod body
    said body message (inl e) asks = let is = asks.1 in absurd cc
    said body message (inr e) asks = bulk_method body asks.0 (sym e ∙ asks.1)
