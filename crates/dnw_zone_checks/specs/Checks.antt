-- What zones are found to have that the standards forbid or advise against (RFC 1034; RFC 1035, section 5.2; RFC 2181; RFC 4035;
-- RFC 4592; RFC 6672; RFC 9471), by the list of their records.
use Rattle.std.specs.Prelude.{◌≡◌, ◌<◌, ◌+◌, ◌-◌, ◌==◌, ◌&&◌, ◌||◌, ◌⊎◌, ℕ, Bool, true, false, not, if◌then◌else◌, nat_le, is_some, List, [], ◌∷◌, ◌++◌, length, drop, Option, Some, None, slice_get, slice_index_or}
use Rattle.std.specs.List.{position_from}
use Rattle.std.specs.List.Sorted.{IsSortedByKey, IsSortedWithin}
use Rattle.std.specs.Option.{option_or}
use Rattle.std.specs.Ordering.{is_eq, is_lt}
use Rattle.dnw_base.specs.Decoder.{Decoder, HasLeft, advanced}
use Rattle.dnw_base.specs.DnsClasses.{class_code}
use Rattle.dnw_base.specs.Labels.{wildcard}
use Rattle.dnw_base.specs.RecordTypes.{type_code}
use Rattle.dnw_base.specs.TypeCodes.{a_code, aaaa_code, cname_code, dname_code, ds_code, key_code, mx_code, ns_code, nsec3_code, nsec_code, nxt_code, rrsig_code, sig_code, soa_code, srv_code}
use Rattle.dnw_name_order.specs.Order.{labels_cmp}
use Rattle.dnw_name_read.specs.Reading.{TakesName}
use Rattle.dnw_record.specs.RecordFields.{record_fields}
use Rattle.dnw_record.specs.Records.{RecordValue, data_octets}
use Rattle.dnw_zone_checks.specs.CheckedData.{are_same_data, has_caa_tag, has_whole_digest}
use Rattle.dnw_zone_checks.specs.Findings.{finding, if_so, apex_lack, listed, with_other}
use Rattle.dnw_zone_checks.specs.HostNames.{after_address, is_host_name, is_wildcard}
use Rattle.dnw_zone_checks.specs.declared.checks.CheckError.{CheckError}
use Rattle.dnw_zone_checks.specs.declared.checks.CheckError.TheVariants.{NotInOrder, Memory}
use Rattle.dnw_zone_checks.specs.declared.finding.Check.{Check}
use Rattle.dnw_zone_checks.specs.declared.finding.Check.TheVariants as against
use Rattle.dnw_zone_checks.specs.declared.finding.Finding.{Finding}

-- ---- the order of the records

-- No owner is before that of the record before it (RFC 4034, section 6.1).
unfoldable pub OwnersAreInOrder : List RecordValue → Type 0
OwnersAreInOrder = IsSortedByKey (λ r. r.owner) labels_cmp

-- The record of this number is the first whose owner is before that of the record before it.
pub record IsOutOfOrder (records : List RecordValue) (number : ℕ) : Type 0 where
  pub within : number < length records
  pub some : 0 < number
  pub ordered : IsSortedWithin (λ r s. is_lt (labels_cmp r.owner s.owner)) records 0 number
  pub before : (d : RecordValue) → is_lt (labels_cmp (slice_index_or records number d).owner (slice_index_or records (number - 1) d).owner) ≡ true

-- ---- names and types

-- the same name but for ASCII case
unfoldable pub is_same : List (List ℕ) → List (List ℕ) → Bool
is_same name other = is_eq (labels_cmp name other)

-- the last labels, as many as the zone has, are those of the zone
unfoldable pub is_in : List (List ℕ) → List (List ℕ) → Bool
is_in zone name = is_same (drop (length name - length zone) name) zone

-- A and AAAA
abbrev pub is_address : ℕ → Bool
is_address code = code == a_code || code == aaaa_code

-- the types whose records a CNAME record may have beside it: other ones, and SIG, KEY and NXT (RFC 2535, section 2.3.5), RRSIG and
-- NSEC (RFC 4034, sections 3 and 4)
abbrev pub is_beside_alias : ℕ → Bool
is_beside_alias code = code == cname_code || code == sig_code || code == key_code || code == nxt_code || code == rrsig_code || code == nsec_code

-- ---- looking for records

abbrev pub has_type : ℕ → ℕ → Bool
has_type wanted code = code == wanted

-- the number of the first record of this name that has one of these types
unfoldable pub first_at : List RecordValue → List (List ℕ) → (ℕ → Bool) → Option ℕ
first_at records name is_sought = position_from (λ r. is_same r.owner name && is_sought (type_code r.record_type)) 0 records

-- a name and those above it, the nearest first, that have so many labels at least
abbrev pub upward : ℕ → List (List ℕ) → List (List (List ℕ))
upward least [] = if nat_le least 0 then [] ∷ [] else []
upward least (label ∷ rest) = if nat_le least (length rest + 1) then (label ∷ rest) ∷ upward least rest else []

-- those above it alone
abbrev pub above : ℕ → List (List ℕ) → List (List (List ℕ))
above least [] = []
above least (label ∷ rest) = upward least rest

-- the number of the first record of the first of these names that has one
abbrev pub first_upward : List RecordValue → List (List (List ℕ)) → (ℕ → Bool) → Option ℕ
first_upward records [] is_sought = None
first_upward records (name ∷ names) is_sought = option_or (first_at records name is_sought) (first_upward records names is_sought)

-- A name of a delegation, or below it: it or a name above it, but not the apex, has NS records (RFC 1034, section 4.2.1).
abbrev pub is_delegated : List (List ℕ) → List RecordValue → List (List ℕ) → Bool
is_delegated zone records name = is_some (first_upward records (upward (length zone + 1) name) (has_type ns_code))

-- ---- a record, by its number, its type, its owner and the records of the zone

-- The class is that of the first record.
abbrev pub has_class : List RecordValue → RecordValue → Bool
has_class [] r = true
has_class (first ∷ others) r = class_code first.class == class_code r.class

abbrev pub other_class : List RecordValue → ℕ → RecordValue → Option Finding
other_class records number r = if_so against.OtherClass number (not (has_class records r))

-- SOA at a name that is not the apex
abbrev pub soa_elsewhere : List (List ℕ) → ℕ → ℕ → List (List ℕ) → Option Finding
soa_elsewhere zone number code owner = if_so against.SoaElsewhere number (code == soa_code && not (is_same owner zone))

-- the first record of a set, which may be the record itself
abbrev pub first_of_set : List RecordValue → RecordValue → Option ℕ
first_of_set records r = first_at records r.owner (has_type (type_code r.record_type))

-- this number, if the test holds of the record that has it
abbrev pub if_such : (RecordValue → Bool) → Option RecordValue → Option ℕ → Option ℕ
if_such test None number = None
if_such test (Some r) number = if test r then number else None

abbrev pub such_record : List RecordValue → (RecordValue → Bool) → Option ℕ → Option ℕ
such_record records test None = None
such_record records test (Some number) = if_such test (slice_get records number) (Some number)

-- SOA, CNAME and DNAME, of which a name has one record
abbrev pub is_one_for_a_name : ℕ → Bool
is_one_for_a_name code = code == soa_code || code == cname_code || code == dname_code

-- another of these, whose data are not the same; the first of the set is named
abbrev pub two_of_one : List RecordValue → ℕ → ℕ → RecordValue → Option ℕ → Option Finding
two_of_one records number code r first =
    with_other against.TwoOfOne number
    (such_record records (λ other. is_one_for_a_name code && not (are_same_data code (data_octets other) (data_octets r))) first)

-- a time to live that is not that of the first record of the set, but of RRSIG
abbrev pub other_ttl : List RecordValue → ℕ → ℕ → RecordValue → Option ℕ → Option Finding
other_ttl records number code r first =
    with_other against.OtherTtl number (such_record records (λ other. not (code == rrsig_code) && not (other.ttl == r.ttl)) first)

-- CNAME at a name with a record of a type that is not allowed beside it, of which the first is named
abbrev pub cname_and_other : List RecordValue → ℕ → ℕ → List (List ℕ) → Option Finding
cname_and_other records number code owner =
    if code == cname_code then with_other against.CnameAndOther number (first_at records owner (λ other. not (is_beside_alias other))) else None

-- DS at the apex, or at a name without NS records
abbrev pub ds_elsewhere : List (List ℕ) → List RecordValue → ℕ → ℕ → List (List ℕ) → Option Finding
ds_elsewhere zone records number code owner =
    if code == ds_code then if_so against.DsElsewhere number (not (not (is_same owner zone) && is_some (first_at records owner (has_type ns_code)))) else None

-- any record but RRSIG and NSEC3 below a name of the zone with a DNAME record, which is named
abbrev pub below_dname : List (List ℕ) → List RecordValue → ℕ → ℕ → List (List ℕ) → Option Finding
below_dname zone records number code owner =
    if code == rrsig_code || code == nsec3_code then None else with_other against.BelowDname number (first_upward records (above (length zone) owner) (has_type dname_code))

-- any record but an address below a name with NS records that is not the apex; the first of these is named
abbrev pub below_delegation : List (List ℕ) → List RecordValue → ℕ → ℕ → List (List ℕ) → Option Finding
below_delegation zone records number code owner =
    if is_address code then None else with_other against.BelowDelegation number (first_upward records (above (length zone + 1) owner) (has_type ns_code))

-- A, AAAA and MX, whose owners are names of hosts
abbrev pub has_host_owner : ℕ → Bool
has_host_owner code = is_address code || code == mx_code

abbrev pub no_host_name : ℕ → ℕ → List (List ℕ) → Option Finding
no_host_name number code owner = if_so against.NoHostName number (has_host_owner code && not (is_host_name owner))

-- NS records beside a DNAME record, but at the apex; the first is named
abbrev pub ns_and_dname : List (List ℕ) → List RecordValue → ℕ → ℕ → List (List ℕ) → Option Finding
ns_and_dname zone records number code owner =
    if code == dname_code && not (is_same owner zone) then with_other against.NsAndDname number (first_at records owner (has_type ns_code)) else None

abbrev pub wildcard_ns : ℕ → ℕ → List (List ℕ) → Option Finding
wildcard_ns number code owner = if_so against.WildcardNs number (code == ns_code && is_wildcard owner)

-- DS, CDS or ZONEMD with a digest of another length than its type has
abbrev pub digest_length : ℕ → ℕ → RecordValue → Option Finding
digest_length number code r = if_so against.DigestLength number (not (has_whole_digest code (data_octets r)))

abbrev pub caa_tag : ℕ → ℕ → RecordValue → Option Finding
caa_tag number code r = if_so against.CaaTag number (not (has_caa_tag code (data_octets r)))

-- by the records of its name, type and class; by those of its owner; by its owner and the names above that; and by its own data
abbrev pub set_findings : List RecordValue → ℕ → RecordValue → List Finding
set_findings records number r =
    let code = type_code r.record_type in
    listed (other_class records number r) ++ (listed (two_of_one records number code r (first_of_set records r))
    ++ listed (other_ttl records number code r (first_of_set records r)))

abbrev pub kind_findings : List (List ℕ) → List RecordValue → ℕ → ℕ → List (List ℕ) → List Finding
kind_findings zone records number code owner =
    listed (soa_elsewhere zone number code owner) ++ (listed (cname_and_other records number code owner)
    ++ (listed (ds_elsewhere zone records number code owner) ++ listed (ns_and_dname zone records number code owner)))

abbrev pub place_findings : List (List ℕ) → List RecordValue → ℕ → ℕ → List (List ℕ) → List Finding
place_findings zone records number code owner =
    listed (below_dname zone records number code owner) ++ (listed (below_delegation zone records number code owner)
    ++ (listed (no_host_name number code owner) ++ listed (wildcard_ns number code owner)))

abbrev pub data_findings : ℕ → ℕ → RecordValue → List Finding
data_findings number code r = listed (digest_length number code r) ++ listed (caa_tag number code r)

abbrev pub own_findings : List (List ℕ) → List RecordValue → ℕ → RecordValue → List Finding
own_findings zone records number r =
    let code = type_code r.record_type in
    set_findings records number r ++ (kind_findings zone records number code r.owner
    ++ (place_findings zone records number code r.owner ++ data_findings number code r))

-- ---- the name of a server in the data of a record

-- how many octets are before it in data of NS, MX (RFC 1035, sections 3.3.11 and 3.3.9) and SRV (RFC 2782)
abbrev pub server_offset : ℕ → Option ℕ
server_offset code = if code == ns_code then Some 0 else if code == mx_code then Some 2 else if code == srv_code then Some 6 else None

-- A name is read after so many octets.
abbrev pub IsNameAfter : Decoder → ℕ → List (List ℕ) → Type 0
IsNameAfter reader offset name = HasLeft reader offset × (after : Decoder) × (k : ℕ) × TakesName (advanced reader offset) after name k

-- The data have this name of a server.
abbrev pub IsServer : RecordValue → List (List ℕ) → Type 0
IsServer r name = (offset : ℕ) × (server_offset (type_code r.record_type) ≡ Some offset) × IsNameAfter (record_fields r).reader offset name

-- A name exists if it or a name below it owns records (RFC 4592, section 2.2.2).
abbrev pub exists : List RecordValue → List (List ℕ) → Bool
exists records name = is_some (position_from (λ r. is_in name r.owner) 0 records)

-- the first of these records of the wildcard right below the nearest name above one that exists (RFC 4592, section 3.3.1)
abbrev pub first_of_wildcard : List RecordValue → List (List ℕ) → (ℕ → Bool) → Option ℕ
first_of_wildcard records [] is_sought = None
first_of_wildcard records (label ∷ rest) is_sought =
    if exists records rest then first_at records (wildcard ∷ rest) is_sought else first_of_wildcard records rest is_sought

-- the first of these records that a question for a name finds: if the name does not exist, that of a wildcard; but no wildcard
-- stands for names of a delegation (RFC 4592, section 4.2)
abbrev pub first_found : List (List ℕ) → List RecordValue → List (List ℕ) → (ℕ → Bool) → Option ℕ
first_found zone records name is_sought =
    if is_delegated zone records name || exists records name then first_at records name is_sought else first_of_wildcard records name is_sought

-- the record by which a name is an alias: CNAME, or DNAME at a name of the zone above it
abbrev pub first_alias : List (List ℕ) → List RecordValue → List (List ℕ) → Option ℕ
first_alias zone records name =
    option_or (first_found zone records name (has_type cname_code)) (first_upward records (above (length zone) name) (has_type dname_code))

-- What a name without an address is against. A delegation needs the addresses of its own names, and those of other delegations' names
-- may be there (RFC 9471, sections 3.1 and 3.2); MX and SRV records may name a host of a delegation.
abbrev pub no_address : List (List ℕ) → List RecordValue → ℕ → List (List ℕ) → List (List ℕ) → Option Check
no_address zone records code owner name =
    if code == ns_code
    then Some (if is_delegated zone records name && (is_same owner zone || not (is_in owner name)) then against.NoSiblingGlue else against.NoAddress)
    else if is_delegated zone records name then None else Some against.NoServerAddress

-- a finding that is about one record, if there is one
abbrev pub such_finding : ℕ → Option Check → Option Finding
such_finding number None = None
such_finding number (Some check) = Some (finding check number None)

-- A name of the zone is an alias, or it has an address or lacks one.
abbrev pub in_zone_findings : List (List ℕ) → List RecordValue → ℕ → ℕ → List (List ℕ) → List (List ℕ) → Option ℕ → Option Finding
in_zone_findings zone records number code owner name (Some alias) = Some (finding against.ServerIsAlias number (Some alias))
in_zone_findings zone records number code owner name None =
    if is_some (first_found zone records name is_address) then None else such_finding number (no_address zone records code owner name)

-- after the text of an address nothing is left, or the name of the zone
abbrev pub ends_with_address : List (List ℕ) → Option (List (List ℕ)) → Bool
ends_with_address zone None = false
ends_with_address zone (Some rest) = length rest == 0 || is_same rest zone

abbrev pub is_address_text : List (List ℕ) → List (List ℕ) → Bool
is_address_text zone name = ends_with_address zone (after_address name)

-- Of names that are not in the zone nothing else is known, and the root stands for no server (RFC 7505; RFC 2782).
abbrev pub server_findings : List (List ℕ) → List RecordValue → ℕ → ℕ → List (List ℕ) → List (List ℕ) → List Finding
server_findings zone records number code owner [] = []
server_findings zone records number code owner name =
    listed (if_so against.ServerIsAddress number (is_address_text zone name))
    ++ (if is_in zone name then listed (in_zone_findings zone records number code owner name (first_alias zone records name)) else [])

-- These are the findings of the name of a server; if the data have none, there are none.
abbrev pub AreOfServer : List (List ℕ) → List RecordValue → ℕ → RecordValue → List Finding → Type 0
AreOfServer zone records number r found =
    ((name : List (List ℕ)) × IsServer r name × (found ≡ server_findings zone records number (type_code r.record_type) r.owner name))
    ⊎ (((name : List (List ℕ)) → ¬ (IsServer r name)) × (found ≡ []))

-- ---- all records

-- These are the findings of a record: that it is not in the zone, and else all others.
abbrev pub IsRecordFindings : List (List ℕ) → List RecordValue → ℕ → RecordValue → List Finding → Type 0
IsRecordFindings zone records number r found =
    ((is_in zone r.owner ≡ false) × (found ≡ finding against.OutOfZone number None ∷ []))
    ⊎ ((is_in zone r.owner ≡ true) × (more : List Finding) × AreOfServer zone records number r more × (found ≡ own_findings zone records number r ++ more))

-- These are the findings of the records from this number on, in turn.
abbrev pub AreFindingsFrom : List (List ℕ) → List RecordValue → ℕ → List RecordValue → List Finding → Type 0
AreFindingsFrom zone records number [] found = found ≡ []
AreFindingsFrom zone records number (r ∷ left) found =
    (own : List Finding) × (more : List Finding) × IsRecordFindings zone records number r own × AreFindingsFrom zone records (number + 1) left more
    × (found ≡ own ++ more)

-- what the apex lacks
abbrev pub apex_findings : List (List ℕ) → List RecordValue → List Finding
apex_findings zone records =
    listed (apex_lack against.NoSoa (first_at records zone (has_type soa_code))) ++ listed (apex_lack against.NoNs (first_at records zone (has_type ns_code)))

-- These are the findings of a zone.
abbrev pub AreFindings : List (List ℕ) → List RecordValue → List Finding → Type 0
AreFindings zone records found = (more : List Finding) × AreFindingsFrom zone records 0 records more × (found ≡ apex_findings zone records ++ more)

-- Why a zone is not checked: its records are not in order, or they are, and memory ran out.
abbrev pub FailsCheck : List RecordValue → CheckError → Type 0
FailsCheck records (NotInOrder number) = IsOutOfOrder records number
FailsCheck records Memory = OwnersAreInOrder records
