-- How those who meet a name of a special-use zone treat it: the seven questions of RFC 6761, section 5.
use Rattle.dnw_base.specs.Names.{NameValue}
use Rattle.dnw_name_zones.specs.declared.usage.kinds.UserUsage.{UserUsage}
use Rattle.dnw_name_zones.specs.declared.usage.kinds.AppUsage.{AppUsage}
use Rattle.dnw_name_zones.specs.declared.usage.kinds.ResolverUsage.{ResolverUsage}
use Rattle.dnw_name_zones.specs.declared.usage.kinds.CacheUsage.{CacheUsage}
use Rattle.dnw_name_zones.specs.declared.usage.kinds.AuthUsage.{AuthUsage}
use Rattle.dnw_name_zones.specs.declared.usage.kinds.OpUsage.{OpUsage}
use Rattle.dnw_name_zones.specs.declared.usage.kinds.RegistryUsage.{RegistryUsage}

-- A zone: its name, and how users, applications, resolvers, caches, authoritative servers, operators and registries treat
-- the names in it.
pub record Zone : Type 0 where
  pub name : NameValue
  pub user : UserUsage
  pub app : AppUsage
  pub resolver : ResolverUsage
  pub cache : CacheUsage
  pub auth : AuthUsage
  pub op : OpUsage
  pub registry : RegistryUsage
