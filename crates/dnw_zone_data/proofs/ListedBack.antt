-- What is printed of prefixes, locators, numbers of nodes and addresses of NSAP is read as that field.
use Rattle.std.proofs.Common.{◌≡◌, ℕ, ◌<◌, List, [], decimal, refl, arith, append-nil}
use Rattle.std.proofs.lemmas.Fmt.{decimal_nonempty}
use Rattle.dnw_data.specs.declared.kind.Kind.TheVariants.{Locator, NodeNumber, Octets, List as ListOf}
use Rattle.dnw_data.specs.declared.kind.ListKind.TheVariants as lists
use Rattle.dnw_data.specs.declared.kind.Shown.TheVariants.{Nsap}
use Rattle.dnw_data.specs.Values.{u64, octets, prefixes, items}
use Rattle.dnw_zone_values.specs.Locators.{locator_text}
use Rattle.dnw_zone_values.specs.Nsap.{nsap_text}
use Rattle.dnw_zone_values.specs.Octets.{IsOctets}
use Rattle.dnw_zone_data.specs.DataTextLaws.{FieldComesBack}
use Rattle.dnw_zone_data.proofs.FieldsBack.{plain_by}
use Rattle.dnw_zone_data.proofs.LocatorsBack.{locator_plain, locator_read, node_read, nsap_plain, nsap_read}
use Rattle.dnw_zone_data.proofs.Plain.{decimal_plain}
use Rattle.dnw_zone_data.proofs.PrefixListsBack.{prefixes_read}

pub locator_field : (n : ℕ) → n < 18446744073709551616 → FieldComesBack Locator (u64 n)
locator_field n few origin way printed rest print end =
    plain_by origin way Locator printed (locator_text n) rest (u64 n) refl print (locator_plain n few) (omega arith) end.1 (locator_read n few)

pub node_field : (n : ℕ) → n < 18446744073709551616 → FieldComesBack NodeNumber (u64 n)
node_field n few origin way printed rest print end =
    plain_by origin way NodeNumber printed (decimal n) rest (u64 n) refl print (decimal_plain n few) (decimal_nonempty n few) end.1 (node_read n few)

pub nsap_field : (own : List ℕ) → IsOctets own → FieldComesBack (Octets Nsap) (octets own)
nsap_field own h origin way printed rest print end =
    plain_by origin way (Octets Nsap) printed (nsap_text own) rest (octets own) refl print (nsap_plain own h) (omega arith) end.1 (nsap_read own h)

pub prefixes_field : (own : List ℕ) → IsOctets own → FieldComesBack (ListOf lists.Prefixes) (prefixes (items lists.Prefixes own))
prefixes_field own h origin way printed rest print end =
    let none : rest ≡ [] = end.0 refl in
    let (is, other, ends) = prefixes_read own printed h print in
    rw (none, append-nil) ((is, refl), other, ends)
