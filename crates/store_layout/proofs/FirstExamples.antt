-- A new store, and its first change.
use Rattle.std.proofs.Common.{◌≢◌, ◌≤◌, inl, ℕ, pos, None, List, [], ◌∷◌, ◌++◌, length, refl, sym, ap, FitsSigned, arith}
use Rattle.std.specs.Str.{IsUtf8, chars}
use Rattle.std.specs.Int.{w64}
use Rattle.std.specs.FinMap as finite
use Rattle.java_hash.specs.Hash.{hash_of, weighted_sum}
use Rattle.java_hash.specs.Stripes.{stripe_of}
use Rattle.java_hash.specs.Units.{units_of}
use Rattle.map_types.specs.declared.commands.Change.TheVariants.{Put}
use Rattle.map_types.specs.declared.commands.Command.{Command}
use Rattle.map_types.specs.declared.texts.Value.{Value}
use Rattle.map_model.specs.Maps.{Map}
use Rattle.log_records.specs.Layout.{first_layout, second_layout}
use Rattle.log_records.specs.Spelling.{IsCommand}
use Rattle.store_layout.specs.Logs.{Batch, IsClosed, frame, header}
use Rattle.store_layout.specs.Checkpoints.{checkpoint_header, marked_bytes, IsCheckpoint}
use Rattle.store_layout.specs.Opening.{first_checkpoint}
use Rattle.store_layout.specs.Examples.{files, new_checkpoint, new_log, log_with_five, second_log, SecondVersion, a, b, number, old_checkpoint, NewStore, FirstChange, UncommittedChange}
use Rattle.store_layout.proofs.NewStores.{no_entries, no_map, first_is_whole, first_stands}

pub new_sealed : IsCheckpoint first_layout (first_checkpoint 1) new_checkpoint
unfolding checkpoint_header marked_bytes
new_sealed = record {
  rest = [];
  bytes = ap (λ (es : List (List ℕ × Value)). 165 ∷ ((checkpoint_header first_layout 0 0 0 1 (length (marked_bytes first_layout 0 es ++ [])) ++ (marked_bytes first_layout 0 es ++ [])) ++ [])) (sym no_entries);
  whole = (first_is_whole first_layout 1 refl).0;
}

pub old_sealed : IsCheckpoint first_layout (first_checkpoint 2) old_checkpoint
unfolding checkpoint_header marked_bytes
old_sealed = record {
  rest = [];
  bytes = ap (λ (es : List (List ℕ × Value)).
      165 ∷ ((checkpoint_header first_layout 0 0 0 2 (length (marked_bytes first_layout 0 es ++ (marked_bytes first_layout 0 es ++ []))) ++ (marked_bytes first_layout 0 es ++ (marked_bytes first_layout 0 es ++ []))) ++ [])) (sym no_entries);
  whole = (first_is_whole first_layout 2 refl).0;
}

new_closed : (gate : ℕ) (rest : List ℕ) → gate ≢ 165 → IsClosed first_layout 0 0 [] (1 ∷ (0 ∷ 0 ∷ 0 ∷ 0 ∷ 0 ∷ 0 ∷ 0 ∷ 0 ∷ 0 ∷ 0 ∷ 0 ∷ 0 ∷ 0 ∷ 0 ∷ 0 ∷ 0 ∷ gate ∷ rest))
unfolding header
new_closed gate rest shut = record {
  gate = gate;
  rest = rest;
  bytes = refl;
  closed = shut;
  log = record { generation_fits = omega arith; low_fits = omega arith; in_order = tt };
}

pub new_store : NewStore
new_store = first_stands (files new_checkpoint [] new_log []) 1 new_sealed refl (new_closed 0 [] (λ e. omega (arith, e)))

pub uncommitted_change : UncommittedChange
uncommitted_change gate shut = first_stands (files new_checkpoint [] (log_with_five gate) []) 1 new_sealed refl (new_closed gate _ shut)

-- ---- commands on a and b

abbrev pub put_at : List ℕ → ℕ → Command
put_at key n = record { key = key; change = Put (number n) }

pub a_is_text : IsUtf8 a
unfolding lib.Utf8.encode
a_is_text = (97 ∷ [], (refl, refl))

pub b_is_text : IsUtf8 b
unfolding lib.Utf8.encode
b_is_text = (98 ∷ [], (refl, refl))

pub small_fits : (n : ℕ) → n ≤ 255 → FitsSigned w64 (pos n)
small_fits n small = omega (arith, small)

pub is_command : (key : List ℕ) (n : ℕ) → length key ≤ 255 → n ≤ 255 → IsUtf8 key → IsCommand first_layout (put_at key n)
is_command key n short small text = ((short, text), small_fits n small)

-- the batch of its first change
unfoldable pub five : Batch
five = record { first = 0; commands = put_at a 5 ∷ [] }

first_closed : IsClosed first_layout 0 0 (five ∷ []) (log_with_five 165)
unfolding header frame five
first_closed = record {
  gate = 0;
  rest = [];
  bytes = refl;
  closed = λ e. omega (arith, e);
  log = record {
    generation_fits = omega arith;
    low_fits = omega arith;
    in_order = (record { fits = omega arith; some = omega arith; few = omega arith; short = omega arith; well_formed = (is_command a 5 (omega arith) (omega arith) a_is_text, tt) }, refl, tt);
  };
}

pub first_change : FirstChange
unfolding five stripe_of hash_of weighted_sum units_of chars
first_change = record {
  found = record { checkpoint = first_checkpoint 1; first = five ∷ []; second = None };
  holds = record {
    checkpoint = new_sealed;
    other = inl refl;
    logs = first_closed;
    reaches = omega arith;
  };
  prefix = refl;
  map = ap (λ (m : Map). finite.insert m a (number 5)) (no_map 1);
}

pub second_closed : IsClosed second_layout 0 0 (five ∷ []) second_log
unfolding header frame five
second_closed = record {
  gate = 0;
  rest = [];
  bytes = refl;
  closed = λ e. omega (arith, e);
  log = record {
    generation_fits = omega arith;
    low_fits = omega arith;
    in_order = (record { fits = omega arith; some = omega arith; few = omega arith; short = omega arith; well_formed = (((omega arith, a_is_text), small_fits 5 (omega arith)), tt) }, refl, tt);
  };
}

pub second_version : SecondVersion
unfolding five stripe_of hash_of weighted_sum units_of chars
second_version = record {
  found = record { checkpoint = first_checkpoint 1; first = five ∷ []; second = None };
  holds = record {
    checkpoint = new_sealed;
    other = inl refl;
    logs = second_closed;
    reaches = omega arith;
  };
  prefix = refl;
  map = ap (λ (m : Map). finite.insert m a (number 5)) (no_map 1);
}
