-- The special-use zones (RFC 6761, section 6; RFC 6762, section 12; RFC 7686, section 2), one line each.
use Rattle.std.specs.Prelude.{ℕ, true, List, [], ◌∷◌, ◌++◌, replicate, codes}
use Rattle.dnw_base.specs.Names.{NameValue}
use Rattle.dnw_name_zones.specs.Usages.{Zone}
use Rattle.dnw_name_zones.specs.declared.usage.kinds.UserUsage.TheVariants as User
use Rattle.dnw_name_zones.specs.declared.usage.kinds.UserUsage.{UserUsage}
use Rattle.dnw_name_zones.specs.declared.usage.kinds.AppUsage.TheVariants as App
use Rattle.dnw_name_zones.specs.declared.usage.kinds.AppUsage.{AppUsage}
use Rattle.dnw_name_zones.specs.declared.usage.kinds.ResolverUsage.TheVariants as Resolver
use Rattle.dnw_name_zones.specs.declared.usage.kinds.ResolverUsage.{ResolverUsage}
use Rattle.dnw_name_zones.specs.declared.usage.kinds.CacheUsage.TheVariants as Cache
use Rattle.dnw_name_zones.specs.declared.usage.kinds.CacheUsage.{CacheUsage}
use Rattle.dnw_name_zones.specs.declared.usage.kinds.AuthUsage.TheVariants as Auth
use Rattle.dnw_name_zones.specs.declared.usage.kinds.AuthUsage.{AuthUsage}
use Rattle.dnw_name_zones.specs.declared.usage.kinds.OpUsage.TheVariants as Op
use Rattle.dnw_name_zones.specs.declared.usage.kinds.OpUsage.{OpUsage}
use Rattle.dnw_name_zones.specs.declared.usage.kinds.RegistryUsage.TheVariants as Registry
use Rattle.dnw_name_zones.specs.declared.usage.kinds.RegistryUsage.{RegistryUsage}

abbrev pub zone : UserUsage → AppUsage → ResolverUsage → CacheUsage → AuthUsage → OpUsage → RegistryUsage → NameValue → Zone
zone user app resolver cache auth op registry name = record {
  name = name;
  user = user;
  app = app;
  resolver = resolver;
  cache = cache;
  auth = auth;
  op = op;
  registry = registry;
}

-- How zones are treated, by kind: user, application, resolver, cache, authoritative server, operator, registry.
-- RFC 6761, section 6.1: reverse names of private addresses
abbrev pub reverse_zone : NameValue → Zone
reverse_zone = zone User.Normal App.Normal Resolver.Normal Cache.NonRecursive Auth.Local Op.Normal Registry.Reserved

-- RFC 6761, section 6.2
abbrev pub test_zone : NameValue → Zone
test_zone = zone User.Normal App.Normal Resolver.Normal Cache.NonRecursive Auth.Local Op.Normal Registry.Reserved

-- RFC 6761, section 6.3
abbrev pub localhost_zone : NameValue → Zone
localhost_zone = zone User.Loopback App.Loopback Resolver.Loopback Cache.Loopback Auth.Loopback Op.Loopback Registry.Reserved

-- RFC 6762, section 12
abbrev pub local_zone : NameValue → Zone
local_zone = zone User.LinkLocal App.LinkLocal Resolver.LinkLocal Cache.Normal Auth.Local Op.Normal Registry.Reserved

-- RFC 6761, section 6.4
abbrev pub invalid_zone : NameValue → Zone
invalid_zone = zone User.NxDomain App.NxDomain Resolver.NxDomain Cache.NxDomain Auth.NxDomain Op.NxDomain Registry.Reserved

-- RFC 6761, section 6.5
abbrev pub example_zone : NameValue → Zone
example_zone = zone User.Normal App.Normal Resolver.Normal Cache.Normal Auth.Normal Op.Normal Registry.Reserved

-- no special use
abbrev pub usual_zone : NameValue → Zone
usual_zone = zone User.Normal App.Normal Resolver.Normal Cache.Normal Auth.Normal Op.Normal Registry.Normal

-- RFC 7686, section 2: as `invalid` but for users and applications that know it
abbrev pub onion_zone : NameValue → Zone
onion_zone = zone User.Normal App.Normal Resolver.NxDomain Cache.NxDomain Auth.NxDomain Op.NxDomain Registry.Reserved

-- The zones by name.
abbrev pub absolute : List (List ℕ) → NameValue
absolute labels = record { is_fqdn = true; labels = labels }

abbrev pub in_addr_arpa : List (List ℕ)
in_addr_arpa = codes "in-addr" ∷ codes "arpa" ∷ []

abbrev pub ip6_arpa : List (List ℕ)
ip6_arpa = codes "ip6" ∷ codes "arpa" ∷ []

abbrev pub default_value : Zone
default_value = usual_zone (absolute [])

abbrev pub localhost_value : Zone
localhost_value = localhost_zone (absolute (codes "localhost" ∷ []))

abbrev pub in_addr_arpa_127_value : Zone
in_addr_arpa_127_value = localhost_zone (absolute (codes "127" ∷ in_addr_arpa))

abbrev pub ip6_arpa_1_value : Zone
ip6_arpa_1_value = localhost_zone (absolute (codes "1" ∷ replicate 31 (codes "0") ++ ip6_arpa))

abbrev pub local_value : Zone
local_value = local_zone (absolute (codes "local" ∷ []))

abbrev pub in_addr_arpa_169_254_value : Zone
in_addr_arpa_169_254_value = local_zone (absolute (codes "254" ∷ codes "169" ∷ in_addr_arpa))

abbrev pub ip6_arpa_fe_8_value : Zone
ip6_arpa_fe_8_value = local_zone (absolute (codes "8" ∷ codes "e" ∷ codes "f" ∷ ip6_arpa))

abbrev pub ip6_arpa_fe_9_value : Zone
ip6_arpa_fe_9_value = local_zone (absolute (codes "9" ∷ codes "e" ∷ codes "f" ∷ ip6_arpa))

abbrev pub ip6_arpa_fe_b_value : Zone
ip6_arpa_fe_b_value = local_zone (absolute (codes "b" ∷ codes "e" ∷ codes "f" ∷ ip6_arpa))

abbrev pub invalid_value : Zone
invalid_value = invalid_zone (absolute (codes "invalid" ∷ []))

abbrev pub onion_value : Zone
onion_value = onion_zone (absolute (codes "onion" ∷ []))
