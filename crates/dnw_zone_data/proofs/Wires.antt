-- Data are one list of octets at most, with names that are not compressed, and then none of their fields is wrong.
use Rattle.std.proofs.Common.{◌≡◌, ℕ, Bool, true, false, List, [], ◌∷◌, ◌++◌, sym, ap, ◌∙◌, subst, arith, inl, inr}
use Rattle.std.specs.Prelude.{MatchBool}
use Rattle.std.specs.Str.{bytes_eq}
use Rattle.std.proofs.lemmas.Slice.Eq.{bytes_eq-Decides}
use Rattle.dnw_base.specs.Decoder.{Decoder}
use Rattle.dnw_name_read.specs.ReadingLaws.{AreBytes}
use Rattle.dnw_data.specs.declared.kind.Kind.{Kind}
use Rattle.dnw_data.specs.declared.kind.Kind.TheVariants as kinds
use Rattle.dnw_data.specs.declared.kind.ListKind.TheVariants as lists
use Rattle.dnw_data.specs.Fields.{TakesField}
use Rattle.dnw_data.specs.FieldWires.{field_wire, IsLong}
use Rattle.dnw_data.specs.Values.{FieldValue}
use Rattle.dnw_data.proofs.Taking.{field_not_both, field_unique, moves_on}
use Rattle.dnw_zone_data.specs.DataTexts.{AreNoFields, ArePlain, AreWire}
use Rattle.dnw_zone_data.specs.Inside.Wires.{AppendsWires}
use Rattle.dnw_zone_data.proofs.FieldValues.{counted_fit, long_fit}

pub one_wire : (kinds : List Kind) (d : Decoder) (a b : List ℕ) → AreWire kinds d a → AreWire kinds d b → a ≡ b
one_wire [] d a b x y = x.1 ∙ sym y.1
one_wire (kind ∷ kinds) d a b (v, after, rest, takes, wire, e) (w, later, others, also, more, f) =
    let (same, there) = field_unique kind d v w after later takes also in
    let moved : AreWire kinds later rest = subst (λ (x : Decoder). AreWire kinds x rest) there wire in
    e ∙ ap (λ (z : FieldValue). field_wire z ++ rest) same ∙ ap (λ (xs : List ℕ). field_wire w ++ xs) (one_wire kinds later rest others moved more) ∙ sym f

-- a field that is read has no more octets than a length octet counts
not_long : (kind : Kind) (d after : Decoder) (v : FieldValue) → AreBytes d.bytes → TakesField kind d v after → IsLong v → ⊥
not_long (kinds.Name form) d after v h (ls, k, takes, e) long = subst IsLong e long
not_long (kinds.Counted shown) d after v h takes long =
    let many = subst IsLong takes.2 long in let few = (counted_fit shown d h takes.0).1 in omega (arith, many, few)
not_long (kinds.LongCounted shown) d after v h takes long =
    let many = subst IsLong takes.2 long in omega (arith, many, long_fit shown d h takes.0)
not_long kinds.LongTime d after v h takes long = subst IsLong takes.2 long
not_long kinds.ChaosAddress d after v h takes long = subst IsLong takes.2 long
not_long kinds.Locator d after v h takes long = subst IsLong takes.2 long
not_long kinds.NodeNumber d after v h takes long = subst IsLong takes.2 long
not_long (kinds.Shaped shape) d after v h takes long = subst IsLong takes.2 long
not_long (kinds.List lists.Prefixes) d after v h takes long = subst IsLong takes.2 long
not_long (kinds.List lists.Names) d after v h takes long = subst IsLong takes.2 long
not_long kinds.U8 d after v h takes long = subst IsLong takes.2 long
not_long kinds.U16 d after v h takes long = subst IsLong takes.2 long
not_long kinds.U32 d after v h takes long = subst IsLong takes.2 long
not_long kinds.U48 d after v h takes long = subst IsLong takes.2 long
not_long kinds.U64 d after v h takes long = subst IsLong takes.2 long
not_long kinds.Ipv4 d after v h takes long = subst IsLong takes.2 long
not_long kinds.Ipv6 d after v h takes long = subst IsLong takes.2 long
not_long kinds.TypeCode d after v h takes long = subst IsLong takes.2 long
not_long kinds.Time d after v h takes long = subst IsLong takes.2 long
not_long (kinds.Octets shown) d after v h takes long = subst IsLong takes.2 long
not_long (kinds.List lists.Texts) d after v h takes long = subst IsLong takes.2 long
not_long (kinds.List lists.Types) d after v h takes long = subst IsLong takes.2 long
not_long (kinds.List lists.Params) d after v h takes long = subst IsLong takes.2 long

pub wire_or_fault : (kinds : List Kind) (d : Decoder) (own : List ℕ) → AreBytes d.bytes → AreNoFields kinds d → AreWire kinds d own → ⊥
wire_or_fault [] d own h none wire = none wire.0
wire_or_fault (kind ∷ kinds) d own h (inl (error, fails)) (v, after, rest, takes, wire, e) = field_not_both kind d v after error takes fails
wire_or_fault (kind ∷ kinds) d own h (inr (w, later, also, inl long)) (v, after, rest, takes, wire, e) = not_long kind d later w h also long
wire_or_fault (kind ∷ kinds) d own h (inr (w, later, also, inr none)) (v, after, rest, takes, wire, e) =
    let (same, there) = field_unique kind d v w after later takes also in
    let bytes : AreBytes after.bytes = subst AreBytes (sym (moves_on kind d after v takes).1) h in
    wire_or_fault kinds after rest bytes (subst (λ (x : Decoder). AreNoFields kinds x) (sym there) none) wire

-- what was appended to nothing, of a reader at the start of octets
pub from_start : (kinds given : List Kind) (octets old new written : List ℕ) (d : Decoder) (are : Bool) → given ≡ kinds → d ≡ record { bytes = octets; index = 0 }
    → old ≡ [] → written ≡ new → AppendsWires given d old new are → AppendsWires kinds (record { bytes = octets; index = 0 }) [] written are
from_start kinds given octets old new written d are same start empty whole appends =
    let there = subst (λ (x : Decoder). AppendsWires given x old new are) start appends in
    let from = subst (λ (xs : List ℕ). AppendsWires given (record { bytes = octets; index = 0 }) xs new are) empty there in
    let to = subst (λ (xs : List ℕ). AppendsWires given (record { bytes = octets; index = 0 }) [] xs are) (sym whole) from in
    subst (λ (ks : List Kind). AppendsWires ks (record { bytes = octets; index = 0 }) [] written are) same to

-- octets whose fields were written again: they have none, or these are the same octets, or others
pub not_plain : (kinds : List Kind) (octets new : List ℕ) (are : Bool) → are ≡ false → AreBytes octets
    → AppendsWires kinds (record { bytes = octets; index = 0 }) [] new are → ArePlain kinds octets → ⊥
not_plain kinds octets new true is h appends plain = cc
not_plain kinds octets new false is h none plain = wire_or_fault kinds (record { bytes = octets; index = 0 }) octets h none plain

pub is_plain : (kinds : List Kind) (octets new : List ℕ) (are same : Bool) → are ≡ true → AppendsWires kinds (record { bytes = octets; index = 0 }) [] new are
    → same ≡ bytes_eq new octets → MatchBool same (ArePlain kinds octets) (¬ (ArePlain kinds octets))
is_plain kinds octets new false same is appends eq = cc
is_plain kinds octets new true true is (own, wire, e) eq =
    let whole : own ≡ octets = sym e ∙ (bytes_eq-Decides new octets).0 (sym eq) in
    subst (λ (xs : List ℕ). AreWire kinds (record { bytes = octets; index = 0 }) xs) whole wire
is_plain kinds octets new true false is (own, wire, e) eq = λ plain.
    let whole : new ≡ octets = e ∙ one_wire kinds (record { bytes = octets; index = 0 }) own octets wire plain in
    let other : false ≡ true = eq ∙ (bytes_eq-Decides new octets).1 whole in cc
