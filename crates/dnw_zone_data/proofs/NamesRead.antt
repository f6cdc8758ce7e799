-- The name that a word gives, by what is read of it.
use Rattle.std.proofs.Common.{◌≡◌, ◌≤◌, ℕ, true, false, List, take, refl, sym, ap, ◌∙◌, subst, arith}
use Rattle.std.specs.Prelude.{Option, Some, None, Ok, Err, IfSome, IfNone, MatchOption}
use Rattle.dnw_base.specs.Limits.{max_name}
use Rattle.dnw_base.specs.Names.{AreLabels, NameValue, encoded_size, wire}
use Rattle.dnw_name_form.proofs.Wires.{IsWire_wire, labels_of_wire}
use Rattle.dnw_name_form.specs.Inside.WireBytes.{IsWire, labels_of}
use Rattle.dnw_name_text.specs.NameReading.{name_of_text, origin_labels}
use Rattle.dnw_name_text.specs.declared.error.NameTextError.{NameTextError}
use Rattle.dnw_zone_data.specs.NameReading.{IsNamedInFull, named_at}
use Rattle.dnw_zone_data.specs.Words.{begins_with_quote}

pub is_named : (origin : Option NameValue) (text : List ℕ) (labels : List (List ℕ)) → begins_with_quote text ≡ false
    → name_of_text (origin_labels origin) text ≡ Ok (record { is_fqdn = true; labels = labels }) → named_at origin text ≡ Some labels
is_named origin text labels plain is = rw (plain, is) refl

pub is_relative : (origin : Option NameValue) (text : List ℕ) (labels : List (List ℕ))
    → name_of_text (origin_labels origin) text ≡ Ok (record { is_fqdn = false; labels = labels }) → begins_with_quote text ≡ false → named_at origin text ≡ None
is_relative origin text labels is plain = rw (plain, is) refl

pub is_none : (origin : Option NameValue) (text : List ℕ) (error : NameTextError) → name_of_text (origin_labels origin) text ≡ Err error
    → begins_with_quote text ≡ false → named_at origin text ≡ None
is_none origin text error is plain = rw (plain, is) refl

-- a name that no origin completes, or none
pub plain_or_none : (N : Type 0) (text room : List ℕ) (r : Option ℕ) → begins_with_quote text ≡ false
    → IfSome r (λ len. (labels : List (List ℕ)) × (take len room ≡ wire labels) × (len ≡ encoded_size labels) × AreLabels labels
    × ((origin : Option (List (List ℕ))) → name_of_text origin text ≡ Ok (record { is_fqdn = true; labels = labels })))
    → IfNone r N → MatchOption r N (λ len. (len ≤ max_name) × IsNamedInFull text (take len room))
plain_or_none N text room None plain some none = none
plain_or_none N text room (Some len) plain (labels, is, size, are, named) none =
    (omega (arith, size, are.fit), (labels, are, is, λ origin. is_named origin text labels plain (named (origin_labels origin))))

-- its octets are those of a form
pub plain_wire : (text octets : List ℕ) → IsNamedInFull text octets → IsWire octets
plain_wire text octets (labels, are, is, named) = subst IsWire (sym is) (IsWire_wire labels are)

pub plain_labels : (text octets : List ℕ) (form : List (List ℕ)) (origin : Option NameValue) → form ≡ labels_of octets → IsNamedInFull text octets
    → named_at origin text ≡ Some form
plain_labels text octets form origin same (labels, are, is, named) =
    named origin ∙ ap Some (sym (same ∙ ap labels_of is ∙ labels_of_wire labels are.each))
