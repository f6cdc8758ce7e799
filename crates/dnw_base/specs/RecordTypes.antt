-- Record types, with their codes and names (RFC 6895, section 3.1, and the IANA registry "Resource Record (RR) TYPEs").
use Rattle.std.specs.Prelude.{ℕ, Bool, true, false, ◌==◌, ◌&&◌, List, [], ◌∷◌, ◌++◌, Option, Some, find, codes, unwrap_or, option_map, if◌then◌else◌}
use Rattle.std.specs.Option.{option_or}
use Rattle.std.specs.Ordering.{nat_cmp, bool_cmp, on, then_cmp}
use Rattle.std.specs.declared.cmp.Ordering.{Ordering}
use Rattle.std.specs.Str.{bytes_eq, str_eq_ignore_ascii_case}
use Rattle.std.specs.Hash as fed
use Rattle.std.specs.Hash.{HashWrites}
use Rattle.dnw_base.specs.declared.record_type.RecordType.{RecordType}
use Rattle.dnw_base.specs.declared.record_type.RecordType.TheVariants as rr
use Rattle.dnw_base.specs.Entries.{Entry, entry}
use Rattle.dnw_base.specs.CodeTexts.{numbered, code_after}
use Rattle.dnw_base.specs.TypeNames.{further_name, further_code}

-- the table of the types
abbrev pub type_entry : RecordType → Entry
type_entry rr.ZERO = entry 0 (codes "ZERO")
type_entry rr.A = entry 1 (codes "A")
type_entry rr.NS = entry 2 (codes "NS")
type_entry rr.CNAME = entry 5 (codes "CNAME")
type_entry rr.SOA = entry 6 (codes "SOA")
type_entry rr.NULL = entry 10 (codes "NULL")
type_entry rr.PTR = entry 12 (codes "PTR")
type_entry rr.HINFO = entry 13 (codes "HINFO")
type_entry rr.MX = entry 15 (codes "MX")
type_entry rr.TXT = entry 16 (codes "TXT")
type_entry rr.SIG = entry 24 (codes "SIG")
type_entry rr.KEY = entry 25 (codes "KEY")
type_entry rr.AAAA = entry 28 (codes "AAAA")
type_entry rr.SRV = entry 33 (codes "SRV")
type_entry rr.NAPTR = entry 35 (codes "NAPTR")
type_entry rr.CERT = entry 37 (codes "CERT")
type_entry rr.DNAME = entry 39 (codes "DNAME")
type_entry rr.OPT = entry 41 (codes "OPT")
type_entry rr.DS = entry 43 (codes "DS")
type_entry rr.SSHFP = entry 44 (codes "SSHFP")
type_entry rr.RRSIG = entry 46 (codes "RRSIG")
type_entry rr.NSEC = entry 47 (codes "NSEC")
type_entry rr.DNSKEY = entry 48 (codes "DNSKEY")
type_entry rr.NSEC3 = entry 50 (codes "NSEC3")
type_entry rr.NSEC3PARAM = entry 51 (codes "NSEC3PARAM")
type_entry rr.TLSA = entry 52 (codes "TLSA")
type_entry rr.SMIMEA = entry 53 (codes "SMIMEA")
type_entry rr.CDS = entry 59 (codes "CDS")
type_entry rr.CDNSKEY = entry 60 (codes "CDNSKEY")
type_entry rr.OPENPGPKEY = entry 61 (codes "OPENPGPKEY")
type_entry rr.CSYNC = entry 62 (codes "CSYNC")
type_entry rr.SVCB = entry 64 (codes "SVCB")
type_entry rr.HTTPS = entry 65 (codes "HTTPS")
type_entry rr.TSIG = entry 250 (codes "TSIG")
type_entry rr.IXFR = entry 251 (codes "IXFR")
type_entry rr.AXFR = entry 252 (codes "AXFR")
type_entry rr.ANY = entry 255 (codes "ANY")
type_entry rr.CAA = entry 257 (codes "CAA")
type_entry rr.ANAME = entry 65305 (codes "ANAME")
type_entry (rr.Unknown code) = entry code (codes "Unknown")

-- the types that have a name of their own, by their codes
abbrev pub named_types : List RecordType
named_types =
    rr.ZERO ∷ rr.A ∷ rr.NS ∷ rr.CNAME ∷ rr.SOA ∷ rr.NULL ∷ rr.PTR ∷ rr.HINFO ∷ rr.MX ∷ rr.TXT ∷ rr.SIG ∷ rr.KEY ∷ rr.AAAA
    ∷ rr.SRV ∷ rr.NAPTR ∷ rr.CERT ∷ rr.DNAME ∷ rr.OPT ∷ rr.DS ∷ rr.SSHFP ∷ rr.RRSIG ∷ rr.NSEC ∷ rr.DNSKEY ∷ rr.NSEC3
    ∷ rr.NSEC3PARAM ∷ rr.TLSA ∷ rr.SMIMEA ∷ rr.CDS ∷ rr.CDNSKEY ∷ rr.OPENPGPKEY ∷ rr.CSYNC ∷ rr.SVCB ∷ rr.HTTPS ∷ rr.TSIG
    ∷ rr.IXFR ∷ rr.AXFR ∷ rr.ANY ∷ rr.CAA ∷ rr.ANAME ∷ []

abbrev pub type_code : RecordType → ℕ
type_code kind = (type_entry kind).code

abbrev pub type_name : RecordType → List ℕ
type_name kind = (type_entry kind).name

abbrev pub is_unknown : RecordType → Bool
is_unknown (rr.Unknown code) = true
is_unknown kind = false

-- the type with this code: the named one, or `Unknown` if none has it
unfoldable pub type_of_code : ℕ → RecordType
type_of_code code = unwrap_or (find (λ kind. type_code kind == code) named_types) (rr.Unknown code)

-- the types that a text can name: all that have a name but those that no zone file and no question has
abbrev pub is_written : RecordType → Bool
is_written rr.ZERO = false
is_written rr.OPT = false
is_written rr.IXFR = false
is_written (rr.Unknown code) = false
is_written kind = true

-- the first of the types that a text can name and that has this name, if any
abbrev pub find_named : List RecordType → List ℕ → Option RecordType
find_named types name = find (λ kind. is_written kind && bytes_eq (type_name kind) name) types

-- the type that a text gives, if any: any type for `*` (RFC 1035, section 3.2.3), else the one with this name
unfoldable pub type_of_name : List ℕ → Option RecordType
type_of_name name = if bytes_eq name (codes "*") then Some rr.ANY else find_named named_types name

-- the variants that IANA's registry has: code 0 is reserved there, and that of ANAME was never assigned
abbrev pub is_registered : RecordType → Bool
is_registered rr.ZERO = false
is_registered rr.ANAME = false
is_registered (rr.Unknown code) = false
is_registered kind = true

-- the name of a type in the registry, if it has one
abbrev pub registered_name : RecordType → Option (List ℕ)
registered_name kind = if is_registered kind then Some (type_name kind) else further_name (type_code kind)

-- the text of a type in a zone file: its name in the registry, or `TYPE` and its code if it has none (RFC 3597, section 5)
abbrev pub type_text : RecordType → List ℕ
type_text kind = unwrap_or (registered_name kind) (numbered (codes "TYPE") (type_code kind))

-- the type with this name in the registry, in upper or lower case, if any
unfoldable pub registered_type : List ℕ → Option RecordType
registered_type name =
    option_or
    (find (λ kind. is_registered kind && str_eq_ignore_ascii_case (type_name kind) name) named_types)
    (option_map rr.Unknown (further_code name))

-- the type that a text gives, if any: by its code; any type for `*` (RFC 1035, section 3.2.3); or by its name
unfoldable pub type_of_text : List ℕ → Option RecordType
type_of_text text =
    option_or
    (option_map type_of_code (code_after (codes "TYPE") text))
    (if bytes_eq text (codes "*") then Some rr.ANY else registered_type text)

-- by code; of two types with one code, the named one first
abbrev pub type_cmp : RecordType → RecordType → Ordering
type_cmp = then_cmp (on type_code nat_cmp) (on is_unknown bool_cmp)

abbrev pub type_hash : RecordType → HashWrites
type_hash kind = fed.u16 (type_code kind) ++ fed.bool (is_unknown kind)

-- the types of DNSSEC (RFC 4034, RFC 5155 and RFC 7344), and those of signed messages (RFC 2931 and RFC 8945)
abbrev pub is_dnssec : RecordType → Bool
is_dnssec rr.CDNSKEY = true
is_dnssec rr.CDS = true
is_dnssec rr.DNSKEY = true
is_dnssec rr.DS = true
is_dnssec rr.KEY = true
is_dnssec rr.NSEC = true
is_dnssec rr.NSEC3 = true
is_dnssec rr.NSEC3PARAM = true
is_dnssec rr.RRSIG = true
is_dnssec rr.SIG = true
is_dnssec rr.TSIG = true
is_dnssec kind = false
