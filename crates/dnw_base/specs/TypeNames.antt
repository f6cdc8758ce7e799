-- The names of IANA's registry "Resource Record (RR) TYPEs" (RFC 6895, section 3.1) that no variant of `RecordType` has, by their
-- codes: all that are assigned, obsolete and experimental ones among them.
use Rattle.std.specs.Prelude.{ℕ, ◌==◌, List, [], ◌∷◌, Option, find, codes, option_map}
use Rattle.std.specs.Str.{str_eq_ignore_ascii_case}
use Rattle.dnw_base.specs.Entries.{Entry, entry}

abbrev pub further_names : List Entry
further_names =
    entry 3 (codes "MD") ∷ entry 4 (codes "MF") ∷ entry 7 (codes "MB") ∷ entry 8 (codes "MG") ∷ entry 9 (codes "MR")
    ∷ entry 11 (codes "WKS") ∷ entry 14 (codes "MINFO") ∷ entry 17 (codes "RP") ∷ entry 18 (codes "AFSDB")
    ∷ entry 19 (codes "X25") ∷ entry 20 (codes "ISDN") ∷ entry 21 (codes "RT") ∷ entry 22 (codes "NSAP")
    ∷ entry 23 (codes "NSAP-PTR") ∷ entry 26 (codes "PX") ∷ entry 27 (codes "GPOS") ∷ entry 29 (codes "LOC")
    ∷ entry 30 (codes "NXT") ∷ entry 31 (codes "EID") ∷ entry 32 (codes "NIMLOC") ∷ entry 34 (codes "ATMA")
    ∷ entry 36 (codes "KX") ∷ entry 38 (codes "A6") ∷ entry 40 (codes "SINK") ∷ entry 42 (codes "APL")
    ∷ entry 45 (codes "IPSECKEY") ∷ entry 49 (codes "DHCID") ∷ entry 55 (codes "HIP") ∷ entry 56 (codes "NINFO")
    ∷ entry 57 (codes "RKEY") ∷ entry 58 (codes "TALINK") ∷ entry 63 (codes "ZONEMD") ∷ entry 66 (codes "DSYNC")
    ∷ entry 67 (codes "HHIT") ∷ entry 68 (codes "BRID") ∷ entry 99 (codes "SPF") ∷ entry 100 (codes "UINFO")
    ∷ entry 101 (codes "UID") ∷ entry 102 (codes "GID") ∷ entry 103 (codes "UNSPEC") ∷ entry 104 (codes "NID")
    ∷ entry 105 (codes "L32") ∷ entry 106 (codes "L64") ∷ entry 107 (codes "LP") ∷ entry 108 (codes "EUI48")
    ∷ entry 109 (codes "EUI64") ∷ entry 128 (codes "NXNAME") ∷ entry 249 (codes "TKEY") ∷ entry 253 (codes "MAILB")
    ∷ entry 254 (codes "MAILA") ∷ entry 256 (codes "URI") ∷ entry 258 (codes "AVC") ∷ entry 259 (codes "DOA")
    ∷ entry 260 (codes "AMTRELAY") ∷ entry 261 (codes "RESINFO") ∷ entry 262 (codes "WALLET") ∷ entry 263 (codes "CLA")
    ∷ entry 264 (codes "IPN") ∷ entry 32768 (codes "TA") ∷ entry 32769 (codes "DLV") ∷ []

-- the name of a code, if it is one of these
unfoldable pub further_name : ℕ → Option (List ℕ)
further_name code = option_map (λ e. e.name) (find (λ e. e.code == code) further_names)

-- the code of a name, in upper or lower case, if it is one of these
abbrev pub further_code : List ℕ → Option ℕ
further_code name = option_map (λ e. e.code) (find (λ e. str_eq_ignore_ascii_case e.name name) further_names)
