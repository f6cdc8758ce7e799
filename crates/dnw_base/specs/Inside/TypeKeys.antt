-- Names of types as numbers, by which they are found: the octets in lower case, the first one highest, and then the length, in
-- 4 bits.
use Rattle.std.specs.Prelude.{ℕ, ◌+◌, ◌*◌, ◌==◌, ◌&&◌, List, [], ◌∷◌, length, Option, find, option_map}
use Rattle.std.specs.Char.{to_ascii_lowercase}
use Rattle.dnw_base.specs.declared.record_type.RecordType.{RecordType}
use Rattle.dnw_base.specs.RecordTypes.{is_registered, named_types, type_name}
use Rattle.dnw_base.specs.TypeNames.{further_names}

abbrev pub letters_after : ℕ → List ℕ → ℕ
letters_after n [] = n
letters_after n (c ∷ cs) = letters_after (256 * n + to_ascii_lowercase c) cs

abbrev pub name_key : List ℕ → ℕ
name_key name = 16 * letters_after 0 name + length name

-- the variant that is registered by a name with this key
unfoldable pub named_by_key : ℕ → Option RecordType
named_by_key key = find (λ kind. is_registered kind && (name_key (type_name kind) == key)) named_types

-- the code of the further name with this key
unfoldable pub further_by_key : ℕ → Option ℕ
further_by_key key = option_map (λ e. e.code) (find (λ e. name_key e.name == key) further_names)
