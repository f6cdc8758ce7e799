-- Kinds of field, case by case.
use Rattle.std.proofs.Common.{◌≡◌, ℕ, Bool, List, Result, IfOk, refl}
use Rattle.std.specs.Prelude.{Option}
use Rattle.std.specs.declared.alloc.AllocError.{AllocError}
use Rattle.dnw_base.specs.Names.{NameValue}
use Rattle.dnw_data.specs.declared.kind.Kind.{Kind}
use Rattle.dnw_data.specs.declared.kind.Kind.TheVariants as kinds
use Rattle.dnw_data.specs.declared.kind.NameForm.{NameForm}
use Rattle.dnw_data.specs.declared.kind.Shown.{Shown}
use Rattle.dnw_zone_data.specs.declared.number_form.NumberForm.{NumberForm}
use Rattle.dnw_zone_data.specs.Parsing.{IsWord, IsNumberOf}
use Rattle.dnw_zone_data.specs.Appending.{AppendsOne}

-- a word of any other kind is a number
pub as_number : (origin : Option NameValue) (way : NumberForm) (kind : Kind) (text old new : List ℕ) (r : Result Bool AllocError)
    → ((form : NameForm) → kind ≡ kinds.Name form → ⊥) → (kind ≡ kinds.Ipv4 → ⊥) → (kind ≡ kinds.Ipv6 → ⊥) → (kind ≡ kinds.TypeCode → ⊥)
    → (kind ≡ kinds.U48 → ⊥) → (kind ≡ kinds.U64 → ⊥) → (kind ≡ kinds.Locator → ⊥) → (kind ≡ kinds.NodeNumber → ⊥)
    → ((shown : Shown) → kind ≡ kinds.Counted shown → ⊥) → ((shown : Shown) → kind ≡ kinds.Octets shown → ⊥)
    → IfOk r (AppendsOne (IsNumberOf way kind text) old new) → IfOk r (AppendsOne (IsWord origin way kind text) old new)
as_number origin way (kinds.Name form) text old new r n a b t p q l k c o h = absurd (n form refl)
as_number origin way kinds.Ipv4 text old new r n a b t p q l k c o h = absurd (a refl)
as_number origin way kinds.Ipv6 text old new r n a b t p q l k c o h = absurd (b refl)
as_number origin way kinds.TypeCode text old new r n a b t p q l k c o h = absurd (t refl)
as_number origin way kinds.U48 text old new r n a b t p q l k c o h = absurd (p refl)
as_number origin way kinds.U64 text old new r n a b t p q l k c o h = absurd (q refl)
as_number origin way kinds.Locator text old new r n a b t p q l k c o h = absurd (l refl)
as_number origin way kinds.NodeNumber text old new r n a b t p q l k c o h = absurd (k refl)
as_number origin way (kinds.Counted shown) text old new r n a b t p q l k c o h = absurd (c shown refl)
as_number origin way (kinds.Octets shown) text old new r n a b t p q l k c o h = absurd (o shown refl)
as_number origin way kind text old new r n a b t p q l k c o h = h
