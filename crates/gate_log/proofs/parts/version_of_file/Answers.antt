use Rattle.std.proofs.Common.{◌≡◌, ◌≢◌, ◌↔◌, ℕ, true, false, Option, Some, None, IfSome, IfNone, refl, arith}
use Rattle.std.proofs.lemmas.Bool.Decides.{nat_tests}
use Rattle.log_records.specs.declared.versions.Version.{Version}
use Rattle.log_records.specs.declared.versions.Version.TheVariants.{First, Second}
use Rattle.log_records.specs.Layout.{layout_of}
use Rattle.store_layout.specs.Logs.{is_read}
use Rattle.gate_log.proofs.parts.version_of_file.Goals as goal

abbrev IsOf : ℕ → Option Version → Type 0
IsOf byte found = (version : Version) → ((found ≡ Some version) ↔ (byte ≡ (layout_of version).version))

own_read : (version : Version) → is_read (layout_of version).version ≡ true
own_read First = refl
own_read Second = refl

some_read : (byte : ℕ) (found : Option Version) → IsOf byte found → IfSome found (λ version. is_read byte ≡ true)
some_read byte (Some version) is = rw ((is version).0 refl) (own_read version)
some_read byte None is = tt

none_read : (byte : ℕ) (found : Option Version) → IsOf byte found → IfNone found (is_read byte ≡ false)
none_read byte (Some version) is = tt
none_read byte None is =
    let not_first : byte ≢ 1 = λ e. absurd (let no = (is First).1 e in cc) in
    let not_second : byte ≢ 2 = λ e. absurd (let no = (is Second).1 e in cc) in
    grind (arith, nat_tests, not_first, not_second)

pub returns-clause-read : goal.returns-clause-read
returns-clause-read c = some_read c.args.byte c.of.result c.of.ensures

pub returns-clause-none : goal.returns-clause-none
returns-clause-none c = none_read c.args.byte c.of.result c.of.ensures
