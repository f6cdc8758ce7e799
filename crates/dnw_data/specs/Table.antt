-- The list of the record types: the fields of the data of each, by the codes of its class and itself.
--
-- Above each row stand the type's name, what it is, and in brackets the RFC and its section; then a line for each field: its
-- name, and what it says, if that needs words. In their place stands `as` and another type, if the bindings have one class for
-- both. Data without such lines are octets for the bindings. `tools/types` makes of the rows and of these lines all other
-- tables: that of the code, those of the header and of the bindings, and the page docs/DATA.md.
use Rattle.std.specs.Prelude.{ℕ, Bool, ◌==◌, ◌&&◌, ◌||◌, not, if◌then◌else◌, List, [], ◌∷◌, ◌++◌, find, unwrap_or, slice_index}
use Rattle.std.specs.List.{list_any}
use Rattle.dnw_data.specs.declared.kind.Kind.{Kind}
use Rattle.dnw_data.specs.declared.kind.Kind.TheVariants.{Name, U8, U16, U32, U48, U64, Ipv4, Ipv6, TypeCode, Time, LongTime, Locator, NodeNumber, ChaosAddress, Counted, LongCounted, Shaped, Octets}
use Rattle.dnw_data.specs.declared.kind.Kind.TheVariants as kinds
use Rattle.dnw_data.specs.declared.kind.ListKind.TheVariants as lists
use Rattle.dnw_data.specs.declared.kind.NameForm.TheVariants.{Compressible, Lowered, Plain}
use Rattle.dnw_data.specs.declared.kind.Shown.TheVariants.{Text, Tag, Hex, Base32Hex, Base64, MaybeBase64, Nsap, Ports, OldTypes}
use Rattle.dnw_data.specs.declared.kind.Shape.TheVariants as shapes

-- A row of the table: a type's code, and the kinds of its fields.
pub record Row : Type 0 where
  pub code : ℕ
  pub fields : List Kind

abbrev pub row : ℕ → List Kind → Row
row code fields = record { code = code; fields = fields }

-- names: those of RFC 1035's types may be compressed (RFC 3597, section 4); canonical form lowers these and those that RFC
-- 4034, section 6.2, lists, but for the next name of NSEC (RFC 6840, section 5.1)
abbrev pub name : Kind
name = Name Compressible

abbrev pub lowered_name : Kind
lowered_name = Name Lowered

abbrev pub plain : Kind
plain = Name Plain

abbrev pub text : Kind
text = Counted Text

abbrev pub hex : Kind
hex = Octets Hex

abbrev pub base64 : Kind
base64 = Octets Base64

-- in base 64, or as `-`
abbrev pub maybe_base64 : Kind
maybe_base64 = Octets MaybeBase64

abbrev pub nsap : Kind
nsap = Octets Nsap

-- of a bitmap without windows: ports, and record types
abbrev pub ports : Kind
ports = Octets Ports

abbrev pub old_types : Kind
old_types = Octets OldTypes

abbrev pub long : Kind
long = LongCounted Base64

abbrev pub texts : Kind
texts = kinds.List lists.Texts

abbrev pub types : Kind
types = kinds.List lists.Types

abbrev pub params : Kind
params = kinds.List lists.Params

abbrev pub prefixes : Kind
prefixes = kinds.List lists.Prefixes

abbrev pub names : Kind
names = kinds.List lists.Names

-- the types of a code up to 30
abbrev pub early_rows : List Row
early_rows =
    -- A: An IPv4 address (RFC 1035, section 3.4.1)
    --   address
    row 1 (Ipv4 ∷ [])
    -- NS: A name server of a zone (RFC 1035, section 3.3.11)
    --   target
    ∷ row 2 (name ∷ [])
    -- MD: A host that takes mail, which is obsolete (RFC 1035, section 3.3.4)
    --   target
    ∷ row 3 (name ∷ [])
    -- MF: A host that forwards mail, which is obsolete (RFC 1035, section 3.3.5)
    --   target
    ∷ row 4 (name ∷ [])
    -- CNAME: The canonical name of an alias (RFC 1035, section 3.3.1)
    --   target
    ∷ row 5 (name ∷ [])
    -- SOA: The start of a zone of authority (RFC 1035, section 3.3.13)
    --   mname: The primary name server of the zone.
    --   rname: The mailbox of the person responsible for the zone.
    --   serial: The version of the zone, a serial number (RFC 1982).
    --   refresh: The seconds until the zone should be refreshed.
    --   retry: The seconds until a failed refresh should be tried again.
    --   expire: The seconds after which the zone is no longer authoritative.
    --   minimum: The TTL of negative answers, in seconds (RFC 2308, section 4).
    ∷ row 6 (name ∷ name ∷ U32 ∷ U32 ∷ U32 ∷ U32 ∷ U32 ∷ [])
    -- MB: A host of a mailbox (RFC 1035, section 3.3.3)
    --   target
    ∷ row 7 (name ∷ [])
    -- MG: A member of a group of mailboxes (RFC 1035, section 3.3.6)
    --   target
    ∷ row 8 (name ∷ [])
    -- MR: The new name of a mailbox (RFC 1035, section 3.3.8)
    --   target
    ∷ row 9 (name ∷ [])
    -- NULL: Any data (RFC 1035, section 3.3.10)
    ∷ row 10 (hex ∷ [])
    -- WKS: The services of a host by their ports, which is obsolete (RFC 1035, section 3.4.2)
    --   address: The address of the host.
    --   protocol: The protocol.
    --   bitmap: A bit for each port.
    ∷ row 11 (Ipv4 ∷ U8 ∷ ports ∷ [])
    -- PTR: A pointer to another name (RFC 1035, section 3.3.12)
    --   target
    ∷ row 12 (name ∷ [])
    -- HINFO: The CPU and the operating system of a host (RFC 1035, section 3.3.2)
    --   cpu: The CPU.
    --   os: The operating system.
    ∷ row 13 (text ∷ text ∷ [])
    -- MINFO: A mailbox for requests and one for errors (RFC 1035, section 3.3.7)
    --   rmailbx: The mailbox for requests.
    --   emailbx: The mailbox for errors.
    ∷ row 14 (name ∷ name ∷ [])
    -- MX: A mail server for a domain (RFC 1035, section 3.3.9)
    --   preference: Lower values are preferred.
    --   exchange: The host.
    ∷ row 15 (U16 ∷ name ∷ [])
    -- TXT: Texts (RFC 1035, section 3.3.14)
    --   strings
    ∷ row 16 (texts ∷ [])
    -- RP: The person responsible for a name, and the owner of a TXT record (RFC 1183, section 2.2)
    --   mbox: The mailbox of the person.
    --   txt: The owner of a TXT record about the person, or the root for none.
    ∷ row 17 (lowered_name ∷ lowered_name ∷ [])
    -- AFSDB: A server of an AFS or DCE cell (RFC 1183, section 1)
    --   subtype: 1 for AFS, 2 for DCE.
    --   hostname: The host.
    ∷ row 18 (U16 ∷ lowered_name ∷ [])
    -- X25: An address of X.25 (RFC 1183, section 3.1)
    --   address
    ∷ row 19 (text ∷ [])
    -- ISDN: An address of ISDN, and a subaddress if there is one (RFC 1183, section 3.2)
    --   as TXT
    ∷ row 20 (texts ∷ [])
    -- RT: A host that routes to another one (RFC 1183, section 3.3)
    --   as MX
    ∷ row 21 (U16 ∷ lowered_name ∷ [])
    -- NSAP: An address of OSI (RFC 1706, section 5)
    --   address
    ∷ row 22 (nsap ∷ [])
    -- NSAP-PTR: The name of an address of OSI (RFC 1706, section 6)
    --   target
    ∷ row 23 (plain ∷ [])
    -- SIG: A signature of records (RFC 2535, section 4.1) or, if it covers the type 0, of a message (RFC 2931)
    --   as RRSIG
    ∷ row 24 (TypeCode ∷ U8 ∷ U8 ∷ U32 ∷ Time ∷ Time ∷ U16 ∷ lowered_name ∷ base64 ∷ [])
    -- KEY: A key of a host (RFC 2535, section 3.1)
    --   as DNSKEY
    ∷ row 25 (U16 ∷ U8 ∷ U8 ∷ base64 ∷ [])
    -- PX: A mapping between mail addresses and those of X.400 (RFC 2163, section 4)
    --   preference: Lower values are preferred.
    --   map822: The part that is a domain name.
    --   mapx400: The part that is from an address of X.400.
    ∷ row 26 (U16 ∷ lowered_name ∷ lowered_name ∷ [])
    -- GPOS: Where a host is, in degrees and metres (RFC 1712, section 3)
    --   longitude: The longitude.
    --   latitude: The latitude.
    --   altitude: The altitude.
    ∷ row 27 (text ∷ text ∷ text ∷ [])
    -- AAAA: An IPv6 address (RFC 3596, section 2.2)
    --   address
    ∷ row 28 (Ipv6 ∷ [])
    -- LOC: A location: 16 octets if the first, the version, is 0 (RFC 1876, section 2)
    --   location
    ∷ row 29 (Shaped shapes.Location ∷ [])
    -- NXT: The next name in a zone and the types at this name, in an old form (RFC 2535, section 5.2)
    --   next: The next name.
    --   bitmap: A bit for each type below 128.
    ∷ row 30 (lowered_name ∷ old_types ∷ [])
    ∷ []

-- those from there to 68
abbrev pub middle_rows : List Row
middle_rows =
    -- SRV: The host and the port of a service (RFC 2782)
    --   priority: Lower values are tried first.
    --   weight: How often the host is chosen among those of the same priority.
    --   port: The port.
    --   target: The host.
    row 33 (U16 ∷ U16 ∷ U16 ∷ lowered_name ∷ [])
    -- NAPTR: A rule that rewrites a name (RFC 3403, section 4.1)
    --   order: The order in which rules are applied.
    --   preference: The preference among rules of the same order.
    --   flags: What to do after the rule.
    --   service: The service.
    --   regexp: A regular expression that makes the next name.
    --   replacement: The next name.
    ∷ row 35 (U16 ∷ U16 ∷ text ∷ text ∷ text ∷ lowered_name ∷ [])
    -- KX: A host that exchanges keys (RFC 2230, section 3)
    --   as MX
    ∷ row 36 (U16 ∷ lowered_name ∷ [])
    -- CERT: A certificate (RFC 4398, section 2)
    --   certificate_type: The type of the certificate.
    --   key_tag: The tag of its key.
    --   algorithm: The algorithm of its key.
    --   certificate: The certificate.
    ∷ row 37 (U16 ∷ U16 ∷ U8 ∷ base64 ∷ [])
    -- DNAME: The name that a subtree is an alias of (RFC 6672, section 2.1)
    --   target
    ∷ row 39 (lowered_name ∷ [])
    -- APL: Address prefixes (RFC 3123, section 4)
    --   prefixes: Of each the family, the length in bits, whether it is negated, and the octets.
    ∷ row 42 (prefixes ∷ [])
    -- DS: The digest of a key of a child zone (RFC 4034, section 5.1)
    --   key_tag: The tag of the key.
    --   algorithm: The algorithm of the key.
    --   digest_type: The digest algorithm.
    --   digest: The digest.
    ∷ row 43 (U16 ∷ U8 ∷ U8 ∷ hex ∷ [])
    -- SSHFP: The fingerprint of an SSH key (RFC 4255, section 3.1)
    --   algorithm: The algorithm of the key.
    --   fp_type: The fingerprint algorithm.
    --   fingerprint: The fingerprint.
    ∷ row 44 (U8 ∷ U8 ∷ hex ∷ [])
    -- IPSECKEY: A gateway and its key for IPsec (RFC 4025, section 2.1)
    --   precedence: Lower values are preferred.
    --   gateway: The type of the gateway, the algorithm of the key, and the gateway.
    --   public_key: The key.
    ∷ row 45 (U8 ∷ Shaped shapes.Gateway ∷ base64 ∷ [])
    -- RRSIG: A signature of records (RFC 4034, section 3.1)
    --   type_covered: The type of the records.
    --   algorithm: The algorithm.
    --   labels: The number of labels of the owner, without a `*` at the start.
    --   original_ttl: The TTL of the records in their zone.
    --   expiration: When the signature expires, in seconds since 1970, as a serial number (RFC 1982).
    --   inception: When the signature becomes valid, in the same form.
    --   key_tag: The tag of the key.
    --   signer: The zone of the key.
    --   signature: The signature.
    ∷ row 46 (TypeCode ∷ U8 ∷ U8 ∷ U32 ∷ Time ∷ Time ∷ U16 ∷ lowered_name ∷ base64 ∷ [])
    -- NSEC: The next name in a zone, and the types at this name (RFC 4034, section 4.1)
    --   next: The next name.
    --   types: The types of the owner.
    ∷ row 47 (plain ∷ types ∷ [])
    -- DNSKEY: A key of a zone (RFC 4034, section 2.1)
    --   flags: 256 for a zone key, 257 for a zone key that is also a secure entry point.
    --   protocol: Always 3.
    --   algorithm: The algorithm.
    --   key: The key.
    ∷ row 48 (U16 ∷ U8 ∷ U8 ∷ base64 ∷ [])
    -- DHCID: Which client of DHCP owns a name (RFC 4701, section 3.1)
    --   identifier
    ∷ row 49 (base64 ∷ [])
    -- NSEC3: The next hash in a zone, and the types at this name (RFC 5155, section 3.2)
    --   algorithm: The hash algorithm.
    --   flags: 1 for opt-out: unsigned delegations may be between the hashes.
    --   iterations: The number of additional iterations of the hash.
    --   salt: The salt, which is appended before each iteration.
    --   next: The next hash.
    --   types: The types of the owner.
    ∷ row 50 (U8 ∷ U8 ∷ U16 ∷ Counted Hex ∷ Counted Base32Hex ∷ types ∷ [])
    -- NSEC3PARAM: How the names of a zone are hashed (RFC 5155, section 4.2)
    --   algorithm: The hash algorithm.
    --   flags: Always 0.
    --   iterations: The number of additional iterations of the hash.
    --   salt: The salt, which is appended before each iteration.
    ∷ row 51 (U8 ∷ U8 ∷ U16 ∷ Counted Hex ∷ [])
    -- TLSA: A certificate of a TLS server (RFC 6698, section 2.1)
    --   usage: The certificate usage: what has to match.
    --   selector: The selector: the whole certificate, or its public key.
    --   mtype: The matching type: the selected content itself, or a hash of it.
    --   cert: The content or its hash.
    ∷ row 52 (U8 ∷ U8 ∷ U8 ∷ hex ∷ [])
    -- SMIMEA: A certificate for mail (RFC 8162, section 2)
    --   as TLSA
    ∷ row 53 (U8 ∷ U8 ∷ U8 ∷ hex ∷ [])
    -- HIP: The identity of a host, and its rendezvous servers (RFC 8005, section 5)
    --   identity: The length of the tag, the algorithm of the key, its length, the tag and the key.
    --   servers: The servers.
    ∷ row 55 (Shaped shapes.HostIdentity ∷ names ∷ [])
    -- NINFO: The state of a zone (the template NINFO of IANA's registry)
    --   as TXT
    ∷ row 56 (texts ∷ [])
    -- RKEY: A key for the encryption of NAPTR records (the template RKEY of IANA's registry)
    --   as DNSKEY
    ∷ row 57 (U16 ∷ U8 ∷ U8 ∷ base64 ∷ [])
    -- TALINK: The links of a chain of trust anchors (the template TALINK of IANA's registry)
    --   previous: The name before.
    --   next: The name after.
    ∷ row 58 (plain ∷ plain ∷ [])
    -- CDS: The child's copy of a DS (RFC 7344, section 3.1)
    --   as DS
    ∷ row 59 (U16 ∷ U8 ∷ U8 ∷ hex ∷ [])
    -- CDNSKEY: The child's copy of a DNSKEY (RFC 7344, section 3.2)
    --   as DNSKEY
    ∷ row 60 (U16 ∷ U8 ∷ U8 ∷ base64 ∷ [])
    -- OPENPGPKEY: An OpenPGP key (RFC 7929, section 2.1)
    ∷ row 61 (base64 ∷ [])
    -- CSYNC: The types that a parent zone may copy from its child (RFC 7477, section 2.1.1)
    --   serial: The lowest serial number of the child at which the parent may copy.
    --   flags: Whether the parent may copy immediately (1), and whether the serial number is used (2).
    --   types: The types to copy.
    ∷ row 62 (U32 ∷ U16 ∷ types ∷ [])
    -- ZONEMD: The digest of a zone (RFC 8976, section 2.2)
    --   serial: The serial number of the zone.
    --   scheme: How the records are collated.
    --   hash_algorithm: The hash algorithm.
    --   digest: The digest.
    ∷ row 63 (U32 ∷ U8 ∷ U8 ∷ hex ∷ [])
    -- SVCB: How to reach a service (RFC 9460, section 2.2)
    --   priority: 0 for an alias. Of others, lower values are preferred.
    --   target: The host, or the root for the owner itself.
    --   params: The parameters, each a key and its value, in ascending order of the keys.
    ∷ row 64 (U16 ∷ plain ∷ params ∷ [])
    -- HTTPS: How to reach a service over HTTPS (RFC 9460, section 9)
    --   as SVCB
    ∷ row 65 (U16 ∷ plain ∷ params ∷ [])
    -- DSYNC: Where to send notifications about a delegation (RFC 9859, section 2.1)
    --   notified_type: The type that a notification is about.
    --   scheme: How to notify.
    --   port: The port.
    --   target: The host.
    ∷ row 66 (TypeCode ∷ U8 ∷ U16 ∷ plain ∷ [])
    -- HHIT: The identity of a host, in a hierarchy (RFC 9886, section 5.1)
    --   identity
    ∷ row 67 (base64 ∷ [])
    -- BRID: The identity of an unmanned aircraft (RFC 9886, section 5.2)
    --   identity
    ∷ row 68 (base64 ∷ [])
    ∷ []

-- and the others
abbrev pub late_rows : List Row
late_rows =
    -- SPF: SPF texts (RFC 4408, section 3.1.1), now in TXT records (RFC 7208, section 3.1)
    --   as TXT
    row 99 (texts ∷ [])
    -- NID: The identifier of a node (RFC 6742, section 2.1.1)
    --   preference: Lower values are preferred.
    --   node_id: The identifier.
    ∷ row 104 (U16 ∷ Locator ∷ [])
    -- L32: A locator of 32 bits (RFC 6742, section 2.2.1)
    --   preference: Lower values are preferred.
    --   locator: The locator.
    ∷ row 105 (U16 ∷ Ipv4 ∷ [])
    -- L64: A locator of 64 bits (RFC 6742, section 2.3.1)
    --   preference: Lower values are preferred.
    --   locator: The locator.
    ∷ row 106 (U16 ∷ Locator ∷ [])
    -- LP: The name of locators (RFC 6742, section 2.4.1)
    --   preference: Lower values are preferred.
    --   fqdn: The name.
    ∷ row 107 (U16 ∷ plain ∷ [])
    -- EUI48: An EUI-48 address (RFC 7043, section 3.1)
    --   eui: A number of 48 bits.
    ∷ row 108 (U48 ∷ [])
    -- EUI64: An EUI-64 address (RFC 7043, section 4.1)
    --   eui: A number of 64 bits.
    ∷ row 109 (U64 ∷ [])
    -- TKEY: The making of a key for TSIG (RFC 2930, section 2)
    --   algorithm: The algorithm.
    --   inception: When the key begins to be valid, in seconds since 1970, a serial number (RFC 1982).
    --   expiration: When it ends.
    --   mode: How the key is made.
    --   error: An error, or 0.
    --   key: The key, or what it is made from.
    --   other: Other data.
    ∷ row 249 (plain ∷ Time ∷ Time ∷ U16 ∷ U16 ∷ long ∷ long ∷ [])
    -- TSIG: The signature of a message (RFC 8945, section 4.2)
    --   algorithm: The algorithm.
    --   time_signed: The time, in seconds since 1970.
    --   fudge: The seconds that clocks may differ.
    --   mac: The signature.
    --   original_id: The identifier of the message that was signed.
    --   error: An error, or 0.
    --   other: Other data.
    ∷ row 250 (plain ∷ LongTime ∷ U16 ∷ long ∷ U16 ∷ U16 ∷ long ∷ [])
    -- URI: The URI of a service (RFC 7553, section 4.2)
    --   priority: Lower values are tried first.
    --   weight: How often the URI is chosen among those of the same priority.
    --   target: The URI.
    ∷ row 256 (U16 ∷ U16 ∷ Octets Text ∷ [])
    -- CAA: The authorities that may issue certificates for a domain (RFC 8659, section 4.1)
    --   flags: 128 if an authority that does not know the tag must not issue.
    --   tag: The tag of the property.
    --   value: The value of the property.
    ∷ row 257 (U8 ∷ Counted Tag ∷ Octets Text ∷ [])
    -- AVC: What is known of an application (the template AVC of IANA's registry)
    --   as TXT
    ∷ row 258 (texts ∷ [])
    -- DOA: A digital object (the template DOA of IANA's registry)
    --   enterprise: The number of the enterprise.
    --   object_type: The type of the object.
    --   location: Where the object is.
    --   media_type: Its media type.
    --   data: The object, or where it is.
    ∷ row 259 (U32 ∷ U32 ∷ U8 ∷ text ∷ maybe_base64 ∷ [])
    -- AMTRELAY: A relay for multicast (RFC 8777, section 4.2)
    --   precedence: Lower values are preferred.
    --   relay: A bit and 7 bits of the type of the relay, and the relay.
    ∷ row 260 (U8 ∷ Shaped shapes.Relay ∷ [])
    -- RESINFO: What a resolver says of itself (RFC 9606, section 4)
    --   as TXT
    ∷ row 261 (texts ∷ [])
    -- WALLET: A public address of a wallet (the template WALLET of IANA's registry)
    --   as TXT
    ∷ row 262 (texts ∷ [])
    -- CLA: The convergence layer adapters of a node of the Bundle Protocol (the template CLA of IANA's registry)
    --   as TXT
    ∷ row 263 (texts ∷ [])
    -- IPN: A node of the Bundle Protocol (the template IPN of IANA's registry)
    --   node: The number of the node.
    ∷ row 264 (NodeNumber ∷ [])
    -- TA: The digest of a key that is trusted (the reference of IANA's registry, as DS)
    --   as DS
    ∷ row 32768 (U16 ∷ U8 ∷ U8 ∷ hex ∷ [])
    -- DLV: The digest of a key of a zone that is looked up aside (RFC 4431, section 2)
    --   as DS
    ∷ row 32769 (U16 ∷ U8 ∷ U8 ∷ hex ∷ [])
    ∷ []

-- The types without a row, by their codes: their data are octets (A6 alone goes by its data), or no record has them. An
-- asterisk marks those that have no name in IANA's registry.
--   0 *ZERO: Code 0, which no record has as its type (RFC 6895, section 3.1)
--   31 EID: An identifier of Nimrod (IANA's registry)
--   32 NIMLOC: A locator of Nimrod (IANA's registry)
--   34 ATMA: An address in ATM (IANA's registry)
--   38 A6: An IPv6 address in parts, historic (RFC 2874, section 3.1.1)
--   40 SINK: A kitchen sink (IANA's registry)
--   41 OPT: The EDNS fields of a message (RFC 6891, section 6.1.1)
--   100 UINFO: Reserved by IANA
--   101 UID: Reserved by IANA
--   102 GID: Reserved by IANA
--   103 UNSPEC: Reserved by IANA
--   128 NXNAME: A name that does not exist, in bitmaps (RFC 9824)
--   251 IXFR: A transfer of the changes of a zone, in a question (RFC 1995)
--   252 AXFR: A transfer of a whole zone, in a question (RFC 5936)
--   253 MAILB: Records of mailboxes, in a question, obsolete (RFC 1035, section 3.2.3)
--   254 MAILA: Records of mail, in a question, obsolete (RFC 1035, section 3.2.3)
--   255 ANY: Any type, in a question (RFC 1035, section 3.2.3)
--   65305 *ANAME: An alias at the top of a zone (draft-ietf-dnsop-aname). Its code was never assigned

-- the table of the types
abbrev pub table : List Row
table = early_rows ++ (middle_rows ++ late_rows)

-- the fields of the type with this code, by the rows: octets, if it is in none of them (RFC 3597)
abbrev pub fields_in : List Row → ℕ → List Kind
fields_in rows code = (unwrap_or (find (λ row. row.code == code) rows) (row code (hex ∷ []))).fields

-- A6 (RFC 2874, section 3.1.1): the length of a prefix and the rest of an address, and the prefix's name if the length is not 0
abbrev pub a6_fields : ℕ → List Kind
a6_fields prefix = if prefix == 0 then Shaped shapes.AddressSuffix ∷ [] else Shaped shapes.AddressSuffix ∷ lowered_name ∷ []

-- the code of A6, the one type whose data say by their first octet which fields they have
abbrev pub a6 : ℕ
a6 = 38

-- the fields of a type's data in IN
abbrev pub fields_in_internet : ℕ → List ℕ → List Kind
fields_in_internet code octets = if code == a6 then a6_fields (slice_index octets 0) else fields_in table code

-- Types that are defined for IN alone: A, WKS, NSAP, NSAP-PTR, PX, AAAA, SRV, KX, A6, APL, DHCID, SVCB and HTTPS. EID, NIMLOC
-- and ATMA are too, but have no row.
abbrev pub internet_types : List ℕ
internet_types = 1 ∷ 11 ∷ 22 ∷ 23 ∷ 26 ∷ 28 ∷ 33 ∷ 36 ∷ a6 ∷ 42 ∷ 49 ∷ 64 ∷ 65 ∷ []

unfoldable pub is_internet_type : ℕ → Bool
is_internet_type code = list_any (λ known. known == code) internet_types

-- Classes with data as in IN: IN itself, and NONE and ANY, which updates use for data of their zone (RFC 2136, section 2.4 and
-- 2.5).
abbrev pub is_like_internet : ℕ → Bool
is_like_internet class = class == 1 || class == 254 || class == 255

-- A of CH (RFC 1035, section 3.6): the name of a domain, and an address there
abbrev pub chaos_fields : List Kind
chaos_fields = name ∷ ChaosAddress ∷ []

-- the fields of a type that IN alone has, in another class
abbrev pub fields_elsewhere : ℕ → ℕ → List Kind
fields_elsewhere class code = if class == 3 && code == 1 then chaos_fields else hex ∷ []

-- the fields of data, by the codes of class and type, if these data are not allowed to be left out
abbrev pub fields_of_some : ℕ → ℕ → List ℕ → List Kind
fields_of_some class code octets =
    if is_like_internet class || not (is_internet_type code) then fields_in_internet code octets else fields_elsewhere class code

-- Data may be left out under NONE and ANY, whatever the type (RFC 2136, sections 2.4 and 2.5). The class of OPT (41) is a size.
abbrev pub may_lack_data : ℕ → ℕ → Bool
may_lack_data class code = (class == 254 || class == 255) && not (code == 41)

-- the fields of these data, by the codes of class and type: none of data that are left out
unfoldable pub fields_of : ℕ → ℕ → List ℕ → List Kind
fields_of class code [] = if may_lack_data class code then [] else fields_of_some class code []
fields_of class code (octet ∷ octets) = fields_of_some class code (octet ∷ octets)

-- The types whose names receivers decompress (RFC 3597, section 4): the well-known ones, of RFC 1035, and RP, AFSDB, RT, SIG, PX,
-- NXT, NAPTR and SRV. Fewer have names that may be compressed, and others have names that canonical form lowers.
abbrev pub decompressed : List ℕ
decompressed =
    2 ∷ 3 ∷ 4 ∷ 5 ∷ 6 ∷ 7 ∷ 8 ∷ 9 ∷ 12 ∷ 14 ∷ 15 ∷ 17 ∷ 18 ∷ 21 ∷ 24 ∷ 26 ∷ 30 ∷ 33 ∷ 35 ∷ []

unfoldable pub are_names_decompressed : ℕ → Bool
are_names_decompressed code = list_any (λ known. known == code) decompressed
