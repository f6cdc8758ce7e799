-- Classes, with their codes and names (RFC 1035, section 3.2.4, and RFC 6895, section 3.2). In an OPT record the class
-- is a size instead (RFC 6891, section 6.1.2).
use Rattle.std.specs.Prelude.{ℕ, max, ◌==◌, List, [], ◌∷◌, ◌++◌, Option, Some, find, codes, unwrap_or, option_map, if◌then◌else◌}
use Rattle.std.specs.Option.{option_or}
use Rattle.std.specs.Ordering.{nat_cmp, on, then_cmp}
use Rattle.std.specs.declared.cmp.Ordering.{Ordering}
use Rattle.std.specs.Str.{bytes_eq, str_eq_ignore_ascii_case}
use Rattle.std.specs.Hash as fed
use Rattle.std.specs.Hash.{HashWrites}
use Rattle.dnw_base.specs.declared.dns_class.DNSClass.{DNSClass}
use Rattle.dnw_base.specs.declared.dns_class.DNSClass.TheVariants.{IN, CH, HS, NONE, ANY, OPT, Unknown}
use Rattle.dnw_base.specs.Entries.{Entry, entry}
use Rattle.dnw_base.specs.Limits.{min_payload}
use Rattle.dnw_base.specs.CodeTexts.{numbered, code_after}

-- the table of the classes
abbrev pub class_entry : DNSClass → Entry
class_entry IN = entry 1 (codes "IN")
class_entry CH = entry 3 (codes "CH")
class_entry HS = entry 4 (codes "HS")
class_entry NONE = entry 254 (codes "NONE")
class_entry ANY = entry 255 (codes "ANY")
class_entry (OPT size) = entry (max size min_payload) (codes "OPT")
class_entry (Unknown code) = entry code (codes "UNKNOWN")

abbrev pub class_code : DNSClass → ℕ
class_code class = (class_entry class).code

abbrev pub class_name : DNSClass → List ℕ
class_name class = (class_entry class).name

-- the classes that have a name of their own, by their codes
abbrev pub named_classes : List DNSClass
named_classes = IN ∷ CH ∷ HS ∷ NONE ∷ ANY ∷ []

-- the class with this code: the named one, or `Unknown` if none has it
unfoldable pub class_of_code : ℕ → DNSClass
class_of_code code = unwrap_or (find (λ class. class_code class == code) named_classes) (Unknown code)

-- the first of the classes with this name, if any
abbrev pub find_class : List DNSClass → List ℕ → Option DNSClass
find_class classes name = find (λ class. bytes_eq (class_name class) name) classes

-- the class that a text gives, if any: any class for `*` (RFC 1035, section 3.2.5), else the one with this name
unfoldable pub class_of_name : List ℕ → Option DNSClass
class_of_name name = if bytes_eq name (codes "*") then Some ANY else find_class named_classes name

-- the class with this name, in upper or lower case, if any; `*` is any class
abbrev pub class_of_any_case : List ℕ → Option DNSClass
class_of_any_case text =
    if bytes_eq text (codes "*") then Some ANY
    else find (λ class. str_eq_ignore_ascii_case (class_name class) text) named_classes

-- the class that a text gives, by its code or its name, if any
unfoldable pub class_of_text : List ℕ → Option DNSClass
class_of_text text = option_or (option_map class_of_code (code_after (codes "CLASS") text)) (class_of_any_case text)

-- the named classes come before `OPT`, and that before `Unknown`
abbrev pub class_rank : DNSClass → ℕ
class_rank (OPT size) = 1
class_rank (Unknown code) = 2
class_rank class = 0

-- the text of a class in a zone file: its name, or `CLASS` and its code if it has none of its own (RFC 3597, section 5)
abbrev pub class_text : DNSClass → List ℕ
class_text class = if class_rank class == 0 then class_name class else numbered (codes "CLASS") (class_code class)

-- the number that a class holds
abbrev pub class_number : DNSClass → ℕ
class_number (OPT size) = size
class_number (Unknown code) = code
class_number class = 0

-- by code; of classes with one code by rank; of those with one rank by their number
abbrev pub class_cmp : DNSClass → DNSClass → Ordering
class_cmp = then_cmp (on class_code nat_cmp) (then_cmp (on class_rank nat_cmp) (on class_number nat_cmp))

abbrev pub class_hash : DNSClass → HashWrites
class_hash class = fed.u16 (class_code class) ++ (fed.u8 (class_rank class) ++ fed.u16 (class_number class))
