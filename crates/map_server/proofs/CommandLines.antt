-- What the program does with the words of its command line.
use Rattle.std.proofs.Common.{◌≡◌, ◌⊎◌, ℕ, List, [], ◌∷◌, Option, None, Some, refl, sym, ◌∙◌, ap, subst, inl, inr, codes, arith}
use Rattle.std.specs.declared.io.Error.{Error}
use Rattle.clap.specs.Words.{Row, Text, Kinds, IsAmong}
use Rattle.clap.specs.declared.error.kind.ErrorKind.{ErrorKind}
use Rattle.clap.specs.declared.error.kind.ErrorKind.TheVariants.{OutOfMemory}
use Rattle.clap.proofs.OnLiterals.{clap_on_literals}
use Rattle.disk_model.specs.Files.{Files}
use Rattle.wire_frames.specs.declared.receiving.ReplyError.{ReplyError}
use Rattle.cmd_call.specs.declared.servers.Server.{Server}
use Rattle.map_server.specs.CommandLine.{faults, name_of, named_by, Advises, Asks, FindsNoMemory, Names}
use Rattle.map_server.specs.Program.{Does, Ran, Serves}
use Rattle.map_server.specs.declared.order.Order.{Order}
use Rattle.map_server.specs.declared.order.Order.TheVariants.{Mem, Init, Check, Serve, Call, Sim}

pub mem_is_known : (name : Text) → faults (name ∷ codes "mem" ∷ []) ≡ []
unfolding clap_on_literals
mem_is_known name = refl

-- only for want of memory does it advise where nothing is wrong with the words
no_memory : (kinds : Kinds) (fault : ErrorKind) (w0 w1 : Option (List ℕ)) (status : ℕ) → (fault ≡ OutOfMemory) ⊎ IsAmong fault kinds → Advises fault w0 w1 status → kinds ≡ [] → FindsNoMemory w0 w1 status
no_memory kinds fault w0 w1 status (inl e) a none = subst (λ k. Advises k w0 w1 status) e a
no_memory kinds fault w0 w1 status (inr h) a none = absurd (let no : IsAmong fault [] = subst (IsAmong fault) none h in no)

pub mem_is_named : (name : Text) → name_of (named_by (name ∷ codes "mem" ∷ [])) ≡ Some (codes "mem")
unfolding clap_on_literals
mem_is_named name = refl

first_letter : Option Text → ℕ
first_letter None = 0
first_letter (Some []) = 0
first_letter (Some (letter ∷ text)) = letter

-- where `mem` is named, the name has its first letter
first_of_mem : (named : Option (Text × List Row)) (letter : ℕ) (text : Text) (Given : List Row → Type 0)
    → Names named (letter ∷ text) Given → name_of named ≡ Some (codes "mem") → letter ≡ 109
unfolding first_letter
first_of_mem named letter text Given is mem = ap first_letter (sym (ap name_of is.1) ∙ mem)

module _ {D R W L : Type 0} (states : D → List Files) (failures : D → ℕ) (honest : D → Type 0) (IsOpened IsCreated : Text → D → Type 0)
    (IsRefused : Text → Error → Type 0) (Fails : Option (List ℕ) → Option (List ℕ) → ReplyError → Type 0) (remaining : R → Option (List ℕ)) (contents : W → Option (List ℕ)) (IsConnected : Server → R → W → Type 0)
    (IsUnreachable : Server → Error → Type 0) (IsListener : Text → ℕ → L → Type 0) (words : List Text) where
  serves_mem : (order : Order) (r0 r1 w0 w1 : Option (List ℕ)) (status : ℕ) → Asks (named_by words) order
      → Does states failures honest IsOpened IsCreated IsRefused Fails remaining contents IsConnected IsUnreachable IsListener order r0 r1 w0 w1 status
      → name_of (named_by words) ≡ Some (codes "mem") → Serves r0 r1 w0 w1 status
  serves_mem Mem r0 r1 w0 w1 status asked done is = done
  serves_mem (Init directory stripes) r0 r1 w0 w1 status asked done is = let bad = first_of_mem (named_by words) 105 _ _ asked is in absurd (omega arith)
  serves_mem (Check directory) r0 r1 w0 w1 status asked done is = let bad = first_of_mem (named_by words) 99 _ _ asked is in absurd (omega arith)
  serves_mem (Serve server) r0 r1 w0 w1 status asked done is = let bad = first_of_mem (named_by words) 115 _ _ asked is in absurd (omega arith)
  serves_mem (Call at call) r0 r1 w0 w1 status asked done is = let bad = first_of_mem (named_by words) 99 _ _ asked is in absurd (omega arith)
  serves_mem (Sim file) r0 r1 w0 w1 status asked done is = let bad = first_of_mem (named_by words) 115 _ _ asked is in absurd (omega arith)

  pub obeys : (order : Order) (r0 r1 w0 w1 : Option (List ℕ)) (status : ℕ) → faults words ≡ [] → Asks (named_by words) order
      → Does states failures honest IsOpened IsCreated IsRefused Fails remaining contents IsConnected IsUnreachable IsListener order r0 r1 w0 w1 status
      → Ran states failures honest IsOpened IsCreated IsRefused Fails remaining contents IsConnected IsUnreachable IsListener words r0 r1 w0 w1 status
  obeys order r0 r1 w0 w1 status none asked done = record {
    mem = λ name e. serves_mem order r0 r1 w0 w1 status asked done (ap (λ (ws : List Text). name_of (named_by ws)) e ∙ mem_is_named name);
    known = λ e. inl (record { order = order; asked = asked; done = done });
    unknown = λ some. absurd (some none);
  }

  pub advised : (r w0 w1 : Option (List ℕ)) (status : ℕ) (fault : ErrorKind) → (fault ≡ OutOfMemory) ⊎ IsAmong fault (faults words) → Advises fault w0 w1 status
      → Ran states failures honest IsOpened IsCreated IsRefused Fails remaining contents IsConnected IsUnreachable IsListener words r r w0 w1 status
  advised r w0 w1 status fault is a =
      let wanting : faults words ≡ [] → FindsNoMemory w0 w1 status = λ e. no_memory (faults words) fault w0 w1 status is a e in
      record {
        mem = λ name e. let m = wanting (ap faults e ∙ mem_is_known name) in inr (refl, m.1, m.0);
        known = λ e. inr (refl, wanting e);
        unknown = λ e. (refl, record { fault = fault; is = is; advises = a });
      }
