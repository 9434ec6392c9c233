-- The version that a byte of a checkpoint's file names, and its layout.
use Rattle.std.proofs.Common.{◌≡◌, ◌≢◌, ◌↔◌, ℕ, true, false, Option, None, Some, IfSome, IfNone, refl, sym, ap, arith}
use Rattle.std.proofs.lemmas.Bool.Decides.{nat_tests}
use Rattle.log_records.specs.declared.versions.Version.{Version}
use Rattle.log_records.specs.declared.versions.Version.TheVariants.{First, Second}
use Rattle.log_records.specs.Layout.{layout_of}
use Rattle.store_layout.specs.Logs.{is_read, layout_for}

-- a version's layout is the one for its byte
pub layout_for_byte : (version : Version) (byte : ℕ) → (layout_of version).version ≡ byte → layout_for byte ≡ layout_of version
layout_for_byte First byte is = ap layout_for (sym is)
layout_for_byte Second byte is = ap layout_for (sym is)

own_read : (version : Version) → is_read (layout_of version).version ≡ true
own_read First = refl
own_read Second = refl

-- what is found is the version with this byte, if there is one
abbrev pub IsOf : ℕ → Option Version → Type 0
IsOf byte found = (version : Version) → ((found ≡ Some version) ↔ (byte ≡ (layout_of version).version))

pub some_read : (byte : ℕ) (found : Option Version) → IsOf byte found → IfSome found (λ version. ((layout_of version).version ≡ byte) × (is_read byte ≡ true))
some_read byte (Some version) is = let own = (is version).0 refl in (sym own, rw own (own_read version))
some_read byte None is = tt

pub none_read : (byte : ℕ) (found : Option Version) → IsOf byte found → IfNone found (is_read byte ≡ false)
none_read byte (Some version) is = tt
none_read byte None is =
    let not_first : byte ≢ 1 = λ e. absurd (let no = (is First).1 e in cc) in
    let not_second : byte ≢ 2 = λ e. absurd (let no = (is Second).1 e in cc) in
    grind (arith, nat_tests, not_first, not_second)
