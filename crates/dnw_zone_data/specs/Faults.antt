-- Where a text goes wrong, and what is wanted there.
use Rattle.std.specs.Prelude.{ℕ}
use Rattle.dnw_data.specs.declared.kind.Kind.{Kind}
use Rattle.dnw_data.specs.declared.kind.Kind.TheVariants as kinds
use Rattle.dnw_data.specs.declared.kind.ListKind.TheVariants as lists
use Rattle.dnw_data.specs.declared.kind.Shape.TheVariants.{Location, Gateway, Relay, HostIdentity}
use Rattle.dnw_data.specs.declared.kind.Shown.{Shown}
use Rattle.dnw_data.specs.declared.kind.Shown.TheVariants as shown
use Rattle.dnw_zone_data.specs.declared.error.DataTextError.{DataTextError}
use Rattle.dnw_zone_data.specs.declared.error.DataTextError.TheVariants.{Wanted as WantedAt}
use Rattle.dnw_zone_data.specs.declared.error.Wanted.{Wanted}
use Rattle.dnw_zone_data.specs.declared.error.Wanted.TheVariants as wanted
use Rattle.dnw_zone_data.specs.declared.number_form.NumberForm.{NumberForm}
use Rattle.dnw_zone_data.specs.declared.number_form.NumberForm.TheVariants.{Decimal, Period, Algorithm, CertificateType, Scheme, Protocol, Optional}

-- what is wanted of a number in a form, if this is wanted of one in decimal
abbrev pub number_wanted : NumberForm → Wanted → Wanted
number_wanted Decimal decimal = decimal
number_wanted Period decimal = wanted.Period
number_wanted Algorithm decimal = wanted.Algorithm
number_wanted CertificateType decimal = wanted.CertificateType
number_wanted Scheme decimal = wanted.Scheme
number_wanted Protocol decimal = wanted.Protocol
number_wanted Optional decimal = decimal

-- what is wanted of octets up to the end
abbrev pub octets_wanted : Shown → Wanted
octets_wanted shown.Text = wanted.Text
octets_wanted shown.Hex = wanted.Hexadecimal
octets_wanted shown.Base64 = wanted.Base64
octets_wanted shown.Nsap = wanted.Nsap
octets_wanted shown.Ports = wanted.Ports
octets_wanted shown.OldTypes = wanted.OldTypes
octets_wanted form = wanted.Generic

-- what is wanted of a field of a kind, whose number is in a form
abbrev pub wanted_of : NumberForm → Kind → Wanted
wanted_of way (kinds.Name form) = wanted.Name
wanted_of way kinds.U8 = number_wanted way wanted.U8
wanted_of way kinds.U16 = number_wanted way wanted.U16
wanted_of way kinds.U32 = number_wanted way wanted.U32
wanted_of way kinds.U48 = wanted.Eui48
wanted_of way kinds.U64 = wanted.Eui64
wanted_of way kinds.Ipv4 = wanted.Ipv4
wanted_of way kinds.Ipv6 = wanted.Ipv6
wanted_of way kinds.TypeCode = wanted.TypeCode
wanted_of way kinds.Time = wanted.Time
wanted_of way (kinds.Counted shown.Text) = wanted.CharacterString
wanted_of way (kinds.Counted shown.Tag) = wanted.Tag
wanted_of way (kinds.Counted shown.Hex) = wanted.Salt
wanted_of way (kinds.Counted shown.Base32Hex) = wanted.Hash
wanted_of way (kinds.Octets form) = octets_wanted form
wanted_of way (kinds.List lists.Texts) = wanted.Strings
wanted_of way (kinds.List lists.Types) = wanted.Types
wanted_of way (kinds.List lists.Params) = wanted.Params
wanted_of way (kinds.List lists.Names) = wanted.Names
wanted_of way (kinds.List lists.Prefixes) = wanted.Prefixes
wanted_of way kinds.Locator = wanted.Locator
wanted_of way kinds.NodeNumber = wanted.NodeNumber
wanted_of way (kinds.Shaped Location) = wanted.Location
wanted_of way (kinds.Shaped Gateway) = wanted.Gateway
wanted_of way (kinds.Shaped Relay) = wanted.Relay
wanted_of way (kinds.Shaped HostIdentity) = wanted.HostIdentity
wanted_of way kind = wanted.Generic

-- this was wanted at the offset, for the field with this number
abbrev pub fault : ℕ → ℕ → Wanted → DataTextError
fault field offset wanted = WantedAt field offset wanted
