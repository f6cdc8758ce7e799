-- Fields that any octets are.
use Rattle.std.specs.Prelude.{◌≡◌, ℕ, None, List, [], length}
use Rattle.dnw_data.specs.declared.kind.Kind.{Kind}
use Rattle.dnw_data.specs.Values.{own_fault, own_size, own_value}
use Rattle.dnw_c_messages.specs.Listings.{IsOwnKind, entries_of}

-- A field of this kind takes so many of the octets that are left, and whatever they are, they are one, and no list.
pub record IsPlainSize (kind : Kind) (left size : ℕ) : Type 0 where
  pub own : IsOwnKind kind
  pub size_is : (octets : List ℕ) → length octets ≡ left → size ≡ own_size kind octets
  pub right : (own : List ℕ) → own_fault kind own ≡ None
  pub no_list : (own : List ℕ) (e : ℕ) → entries_of (own_value kind own) e ≡ []
