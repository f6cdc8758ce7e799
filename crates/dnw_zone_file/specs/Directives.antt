-- The words that begin entries which are no records (RFC 1035, section 5.1; RFC 2308, section 4), in upper or lower case.
use Rattle.std.specs.Prelude.{◌≡◌, ℕ, List, [], ◌∷◌, map}
use Rattle.std.specs.Char.{to_ascii_lowercase}
use Rattle.dnw_zone_file.specs.declared.directive.Directive.{Directive}
use Rattle.dnw_zone_file.specs.declared.directive.Directive.TheVariants.{Origin, Include, Ttl, Generate}

-- `$ORIGIN`, `$INCLUDE`, `$TTL` and `$GENERATE`
abbrev pub directive_name : Directive → List ℕ
directive_name Origin = 36 ∷ 79 ∷ 82 ∷ 73 ∷ 71 ∷ 73 ∷ 78 ∷ []
directive_name Include = 36 ∷ 73 ∷ 78 ∷ 67 ∷ 76 ∷ 85 ∷ 68 ∷ 69 ∷ []
directive_name Ttl = 36 ∷ 84 ∷ 84 ∷ 76 ∷ []
directive_name Generate = 36 ∷ 71 ∷ 69 ∷ 78 ∷ 69 ∷ 82 ∷ 65 ∷ 84 ∷ 69 ∷ []

abbrev pub IsDirective : List ℕ → Directive → Type 0
IsDirective word directive = map to_ascii_lowercase word ≡ map to_ascii_lowercase (directive_name directive)
