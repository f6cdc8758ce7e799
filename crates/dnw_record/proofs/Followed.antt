-- The pointers that fields follow, one after another.
use Rattle.std.proofs.Common.{◌≡◌, ℕ, Some, List, [], ◌∷◌, length, refl, arith}
use Rattle.dnw_base.specs.Decoder.{Decoder}
use Rattle.dnw_data.specs.declared.kind.Kind.{Kind}
use Rattle.dnw_data.specs.declared.kind.Kind.TheVariants as kind
use Rattle.dnw_data.specs.Fields.{TakesField}
use Rattle.dnw_data.specs.Values.{FieldValue}
use Rattle.dnw_record.specs.Inside.Copying.{IsNoName}
use Rattle.dnw_record.specs.DataPointers.{FieldFollows, TakesPointers, no_fields}

-- a field that is no name follows none
pub own_follows : (k : Kind) (before after : Decoder) (value : FieldValue) → IsNoName k → TakesField k before value after → FieldFollows k before after 0
own_follows (kind.Name form) before after value own takes = absurd own
own_follows kind.U8 before after value own takes = (value, takes, refl)
own_follows kind.U16 before after value own takes = (value, takes, refl)
own_follows kind.U32 before after value own takes = (value, takes, refl)
own_follows kind.U48 before after value own takes = (value, takes, refl)
own_follows kind.U64 before after value own takes = (value, takes, refl)
own_follows kind.Ipv4 before after value own takes = (value, takes, refl)
own_follows kind.Ipv6 before after value own takes = (value, takes, refl)
own_follows kind.TypeCode before after value own takes = (value, takes, refl)
own_follows kind.Time before after value own takes = (value, takes, refl)
own_follows kind.LongTime before after value own takes = (value, takes, refl)
own_follows kind.Locator before after value own takes = (value, takes, refl)
own_follows kind.NodeNumber before after value own takes = (value, takes, refl)
own_follows kind.ChaosAddress before after value own takes = (value, takes, refl)
own_follows (kind.Counted shown) before after value own takes = (value, takes, refl)
own_follows (kind.LongCounted shown) before after value own takes = (value, takes, refl)
own_follows (kind.Shaped shape) before after value own takes = (value, takes, refl)
own_follows (kind.Octets shown) before after value own takes = (value, takes, refl)
own_follows (kind.List items) before after value own takes = (value, takes, refl)

-- none is left
pub all_passed : (kinds : List Kind) (d : Decoder) (left : ℕ) → length kinds ≡ 0 → TakesPointers kinds d left (Some left)
all_passed [] d left none = no_fields d left
all_passed (k ∷ kinds) d left none = absurd (omega (arith, none))
