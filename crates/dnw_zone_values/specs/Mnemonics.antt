-- Numbers that have names in master files: algorithms of DNSSEC, types of certificates, schemes of DSYNC, protocols and services. A name is in upper or lower case.
use Rattle.std.specs.Prelude.{◌≡◌, ◌≤◌, ℕ, Bool, true, false, if◌then◌else◌, List, [], ◌∷◌, codes, Option, Some, None}
use Rattle.std.specs.Char.{is_ascii_digit}
use Rattle.std.specs.Str.{str_eq_ignore_ascii_case}
use Rattle.dnw_zone_values.specs.Numbers.{IsNumberText}

-- The number of an algorithm: the mnemonics of IANA's registry "DNS Security Algorithm Numbers" (RFC 4034, appendix A.1, began it),
-- and for 6, 7 and 12 also those that BIND prints.
abbrev pub algorithm_named : List ℕ → Option ℕ
algorithm_named name =
    if str_eq_ignore_ascii_case name (codes "RSAMD5") then Some 1
    else if str_eq_ignore_ascii_case name (codes "DH") then Some 2
    else if str_eq_ignore_ascii_case name (codes "DSA") then Some 3
    else if str_eq_ignore_ascii_case name (codes "RSASHA1") then Some 5
    else if str_eq_ignore_ascii_case name (codes "DSA-NSEC3-SHA1") then Some 6
    else if str_eq_ignore_ascii_case name (codes "NSEC3DSA") then Some 6
    else if str_eq_ignore_ascii_case name (codes "RSASHA1-NSEC3-SHA1") then Some 7
    else if str_eq_ignore_ascii_case name (codes "NSEC3RSASHA1") then Some 7
    else if str_eq_ignore_ascii_case name (codes "RSASHA256") then Some 8
    else if str_eq_ignore_ascii_case name (codes "RSASHA512") then Some 10
    else if str_eq_ignore_ascii_case name (codes "ECC-GOST") then Some 12
    else if str_eq_ignore_ascii_case name (codes "ECCGOST") then Some 12
    else if str_eq_ignore_ascii_case name (codes "ECDSAP256SHA256") then Some 13
    else if str_eq_ignore_ascii_case name (codes "ECDSAP384SHA384") then Some 14
    else if str_eq_ignore_ascii_case name (codes "ED25519") then Some 15
    else if str_eq_ignore_ascii_case name (codes "ED448") then Some 16
    else if str_eq_ignore_ascii_case name (codes "SM2SM3") then Some 17
    else if str_eq_ignore_ascii_case name (codes "ECC-GOST12") then Some 23
    else if str_eq_ignore_ascii_case name (codes "INDIRECT") then Some 252
    else if str_eq_ignore_ascii_case name (codes "PRIVATEDNS") then Some 253
    else if str_eq_ignore_ascii_case name (codes "PRIVATEOID") then Some 254
    else None

-- the number of a type of certificates (RFC 4398, section 2.1)
abbrev pub certificate_type_named : List ℕ → Option ℕ
certificate_type_named name =
    if str_eq_ignore_ascii_case name (codes "PKIX") then Some 1
    else if str_eq_ignore_ascii_case name (codes "SPKI") then Some 2
    else if str_eq_ignore_ascii_case name (codes "PGP") then Some 3
    else if str_eq_ignore_ascii_case name (codes "IPKIX") then Some 4
    else if str_eq_ignore_ascii_case name (codes "ISPKI") then Some 5
    else if str_eq_ignore_ascii_case name (codes "IPGP") then Some 6
    else if str_eq_ignore_ascii_case name (codes "ACPKIX") then Some 7
    else if str_eq_ignore_ascii_case name (codes "IACPKIX") then Some 8
    else if str_eq_ignore_ascii_case name (codes "URI") then Some 253
    else if str_eq_ignore_ascii_case name (codes "OID") then Some 254
    else None

-- the number of a scheme of DSYNC (RFC 9859, section 2.1)
abbrev pub scheme_named : List ℕ → Option ℕ
scheme_named name = if str_eq_ignore_ascii_case name (codes "NOTIFY") then Some 1 else None

-- the number of a protocol: those of IANA's registry "Protocol Numbers" that RFC 1010 has, as WKS names them (RFC 1035, section 3.4.2)
abbrev pub protocol_named : List ℕ → Option ℕ
protocol_named name =
    if str_eq_ignore_ascii_case name (codes "ICMP") then Some 1
    else if str_eq_ignore_ascii_case name (codes "IGMP") then Some 2
    else if str_eq_ignore_ascii_case name (codes "GGP") then Some 3
    else if str_eq_ignore_ascii_case name (codes "TCP") then Some 6
    else if str_eq_ignore_ascii_case name (codes "EGP") then Some 8
    else if str_eq_ignore_ascii_case name (codes "UDP") then Some 17
    else None

-- the port of a service, which is the same for each protocol: well-known ones of IANA's registry of services and ports
abbrev pub service_named : List ℕ → Option ℕ
service_named name =
    if str_eq_ignore_ascii_case name (codes "echo") then Some 7
    else if str_eq_ignore_ascii_case name (codes "discard") then Some 9
    else if str_eq_ignore_ascii_case name (codes "systat") then Some 11
    else if str_eq_ignore_ascii_case name (codes "daytime") then Some 13
    else if str_eq_ignore_ascii_case name (codes "netstat") then Some 15
    else if str_eq_ignore_ascii_case name (codes "qotd") then Some 17
    else if str_eq_ignore_ascii_case name (codes "chargen") then Some 19
    else if str_eq_ignore_ascii_case name (codes "ftp-data") then Some 20
    else if str_eq_ignore_ascii_case name (codes "ftp") then Some 21
    else if str_eq_ignore_ascii_case name (codes "ssh") then Some 22
    else if str_eq_ignore_ascii_case name (codes "telnet") then Some 23
    else if str_eq_ignore_ascii_case name (codes "smtp") then Some 25
    else if str_eq_ignore_ascii_case name (codes "time") then Some 37
    else if str_eq_ignore_ascii_case name (codes "whois") then Some 43
    else if str_eq_ignore_ascii_case name (codes "domain") then Some 53
    else if str_eq_ignore_ascii_case name (codes "bootps") then Some 67
    else if str_eq_ignore_ascii_case name (codes "bootpc") then Some 68
    else if str_eq_ignore_ascii_case name (codes "tftp") then Some 69
    else if str_eq_ignore_ascii_case name (codes "gopher") then Some 70
    else if str_eq_ignore_ascii_case name (codes "finger") then Some 79
    else if str_eq_ignore_ascii_case name (codes "http") then Some 80
    else if str_eq_ignore_ascii_case name (codes "kerberos") then Some 88
    else if str_eq_ignore_ascii_case name (codes "pop3") then Some 110
    else if str_eq_ignore_ascii_case name (codes "sunrpc") then Some 111
    else if str_eq_ignore_ascii_case name (codes "auth") then Some 113
    else if str_eq_ignore_ascii_case name (codes "nntp") then Some 119
    else if str_eq_ignore_ascii_case name (codes "ntp") then Some 123
    else if str_eq_ignore_ascii_case name (codes "imap2") then Some 143
    else if str_eq_ignore_ascii_case name (codes "snmp") then Some 161
    else if str_eq_ignore_ascii_case name (codes "bgp") then Some 179
    else if str_eq_ignore_ascii_case name (codes "ldap") then Some 389
    else if str_eq_ignore_ascii_case name (codes "https") then Some 443
    else None

abbrev pub begins_with_digit : List ℕ → Bool
begins_with_digit [] = false
begins_with_digit (c ∷ cs) = is_ascii_digit c

-- a number in decimal, or that of a name
abbrev pub IsNumberOrNamed : Bool → (List ℕ → Option ℕ) → ℕ → List ℕ → ℕ → Type 0
IsNumberOrNamed true named max text n = IsNumberText max text n
IsNumberOrNamed false named max text n = (named text ≡ Some n) × (n ≤ max)

-- a text that begins with a digit is a number, and any other is a name
abbrev pub IsNumberOrName : (List ℕ → Option ℕ) → ℕ → List ℕ → ℕ → Type 0
IsNumberOrName named max text n = IsNumberOrNamed (begins_with_digit text) named max text n
