-- The codes of the record types that rules name.
use Rattle.std.specs.Prelude.{ℕ}

-- A: an IPv4 address (RFC 1035, section 3.4.1)
abbrev pub a_code : ℕ
a_code = 1

-- NS: a name server of a zone (RFC 1035, section 3.3.11)
abbrev pub ns_code : ℕ
ns_code = 2

-- CNAME: an alias (RFC 1035, section 3.3.1)
abbrev pub cname_code : ℕ
cname_code = 5

-- SOA: the start of a zone of authority (RFC 1035, section 3.3.13)
abbrev pub soa_code : ℕ
soa_code = 6

-- PTR: a name that is pointed to (RFC 1035, section 3.3.12)
abbrev pub ptr_code : ℕ
ptr_code = 12

-- MX: a mail server of a domain (RFC 1035, section 3.3.9)
abbrev pub mx_code : ℕ
mx_code = 15

-- SIG: a signature of records or of a message (RFC 2535, section 4; RFC 2931)
abbrev pub sig_code : ℕ
sig_code = 24

-- KEY: a public key (RFC 2535, section 3)
abbrev pub key_code : ℕ
key_code = 25

-- AAAA: an IPv6 address (RFC 3596, section 2.1)
abbrev pub aaaa_code : ℕ
aaaa_code = 28

-- NXT: the next name of a zone (RFC 2535, section 5)
abbrev pub nxt_code : ℕ
nxt_code = 30

-- SRV: the host of a service (RFC 2782)
abbrev pub srv_code : ℕ
srv_code = 33

-- DNAME: an alias of all names below one (RFC 6672)
abbrev pub dname_code : ℕ
dname_code = 39

-- OPT: what EDNS says of a message (RFC 6891, section 6.1.1)
abbrev pub opt_code : ℕ
opt_code = 41

-- DS: a digest of a key of a zone below (RFC 4034, section 5)
abbrev pub ds_code : ℕ
ds_code = 43

-- RRSIG: a signature of a set of records (RFC 4034, section 3)
abbrev pub rrsig_code : ℕ
rrsig_code = 46

-- NSEC: the next name of a zone (RFC 4034, section 4)
abbrev pub nsec_code : ℕ
nsec_code = 47

-- NSEC3: the next hashed name of a zone (RFC 5155, section 3)
abbrev pub nsec3_code : ℕ
nsec3_code = 50

-- ZONEMD: a digest of a zone (RFC 8976, section 2)
abbrev pub zonemd_code : ℕ
zonemd_code = 63

-- TSIG: a signature of a message by a shared key (RFC 8945, section 4.2)
abbrev pub tsig_code : ℕ
tsig_code = 250

-- IXFR: a question for the changes of a zone (RFC 1995)
abbrev pub ixfr_code : ℕ
ixfr_code = 251

-- AXFR: a question for a whole zone (RFC 5936)
abbrev pub axfr_code : ℕ
axfr_code = 252

-- ANY: a question for records of all types (RFC 1035, section 3.2.3)
abbrev pub any_code : ℕ
any_code = 255
