use Rattle.dnw_zone_data.proofs.ListedBack.{locator_field, node_field, nsap_field, prefixes_field}
use Rattle.dnw_zone_data.proofs.BitmapsBack.{ports_back, old_types_back}
use Rattle.dnw_zone_data.proofs.FieldsBack.{u8_back, u16_back, u32_back, time_back, type_back, ipv4_back, string_back, tag_back, salt_back, hash_back, octets_back, text_back, strings_back}
use Rattle.dnw_zone_data.proofs.GatewaysBack.{shaped_back}
use Rattle.dnw_zone_data.proofs.NameListsBack.{names_back}
use Rattle.dnw_zone_data.proofs.NamesBack.{name_back}
use Rattle.dnw_zone_data.proofs.ParamsBack.{params_back}
use Rattle.dnw_zone_data.proofs.TypesBack.{types_back}
use Rattle.dnw_zone_data.proofs.WordsBack.{ipv6_back, eui48_back, eui64_back, base64_back}
use Rattle.dnw_zone_data.proofs.laws.fields_come_back.Goals as goal

pub returns-clause-numbers : goal.returns-clause-numbers
returns-clause-numbers c = (u8_back, u16_back, u32_back, time_back)

pub returns-clause-types : goal.returns-clause-types
returns-clause-types c = type_back

pub returns-clause-addresses : goal.returns-clause-addresses
returns-clause-addresses c = ipv4_back

pub returns-clause-names : goal.returns-clause-names
returns-clause-names c = name_back

pub returns-clause-segments : goal.returns-clause-segments
returns-clause-segments c = ipv6_back

pub returns-clause-identifiers : goal.returns-clause-identifiers
returns-clause-identifiers c = (eui48_back, eui64_back)

pub returns-clause-counted : goal.returns-clause-counted
returns-clause-counted c = (string_back, tag_back, salt_back, hash_back)

pub returns-clause-octets : goal.returns-clause-octets
returns-clause-octets c = (octets_back, base64_back, text_back)

pub returns-clause-strings : goal.returns-clause-strings
returns-clause-strings c = strings_back

pub returns-clause-lists : goal.returns-clause-lists
returns-clause-lists c = (types_back, params_back)

pub returns-clause-shapes : goal.returns-clause-shapes
returns-clause-shapes c = shaped_back

pub returns-clause-names_in_lists : goal.returns-clause-names_in_lists
returns-clause-names_in_lists c = names_back

pub returns-clause-locators : goal.returns-clause-locators
returns-clause-locators c = (locator_field, node_field, nsap_field)

pub returns-clause-prefixes : goal.returns-clause-prefixes
returns-clause-prefixes c = prefixes_field

pub returns-clause-bitmaps : goal.returns-clause-bitmaps
returns-clause-bitmaps c = (ports_back, old_types_back)
