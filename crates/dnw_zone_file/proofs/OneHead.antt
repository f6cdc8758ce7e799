-- What is between the owner and the data is one thing.
use Rattle.std.proofs.Common.{◌≡◌, ◌<◌, ℕ, true, false, List, refl, sym, ap, ◌∙◌, subst, arith}
use Rattle.std.specs.Prelude.{Option, Some, None}
use Rattle.std.proofs.lemmas.Option.{same_Some}
use Rattle.dnw_base.specs.RecordTypes.{type_of_text}
use Rattle.dnw_base.specs.declared.dns_class.DNSClass.{DNSClass}
use Rattle.dnw_base.specs.declared.record_type.RecordType.{RecordType}
use Rattle.dnw_zone_file.specs.declared.head.Head.{Head}
use Rattle.dnw_zone_file.specs.Heads.{IsClassNext, IsTtlAfter, IsTtlAndClass, IsTtlNext, IsZoneClass, IsZoneHead, IsZoneTtl, is_zone_class, max_zone_ttl}
use Rattle.dnw_zone_record.specs.RecordLines.{after_next_word, next_word, IsClassWord, IsTtlWord}

-- a time that is too large is no other, and a class that no record of a zone has is none that one has
pub too_large : (word : List ℕ) (n : ℕ) → IsTtlWord word n → max_zone_ttl < n → (ttl : ℕ) → ¬ (IsZoneTtl word ttl)
too_large word n is large ttl h = let same : n ≡ ttl = same_Some n ttl (sym is.0 ∙ h.0.0) in omega arith

pub no_zone_class : (word : List ℕ) (class : DNSClass) → IsClassWord word class → is_zone_class class ≡ false → (other : DNSClass) → ¬ (IsZoneClass word other)
no_zone_class word class is none other h =
    let same : class ≡ other = same_Some class other (sym is.1 ∙ h.0.1) in
    let no : true ≡ false = sym h.1 ∙ ap is_zone_class (sym same) ∙ none in
    absurd cc

one_ttl : (left : List ℕ) (x y : Option ℕ) (r s : List ℕ) → IsTtlNext left x r → IsTtlNext left y s → (x ≡ y) × (r ≡ s)
one_ttl left (Some m) (Some n) r s h k = (ap Some (same_Some m n (sym h.0.0.0 ∙ k.0.0.0)), h.1 ∙ sym k.1)
one_ttl left (Some m) None r s h k = absurd (k.0 m h.0)
one_ttl left None (Some n) r s h k = absurd (h.0 n k.0)
one_ttl left None None r s h k = (refl, h.1 ∙ sym k.1)

one_class : (left : List ℕ) (x y : Option DNSClass) (r s : List ℕ) → IsClassNext left x r → IsClassNext left y s → (x ≡ y) × (r ≡ s)
one_class left (Some c) (Some d) r s h k = (ap Some (same_Some c d (sym h.0.0.1 ∙ k.0.0.1)), h.1 ∙ sym k.1)
one_class left (Some c) None r s h k = absurd (k.0 c h.0)
one_class left None (Some d) r s h k = absurd (h.0 d k.0)
one_class left None None r s h k = (refl, h.1 ∙ sym k.1)

one_after : (first : Option ℕ) (left : List ℕ) (x y : Option ℕ) (r s : List ℕ) → IsTtlAfter first left x r → IsTtlAfter first left y s → (x ≡ y) × (r ≡ s)
one_after (Some n) left x y r s h k = (h.0 ∙ sym k.0, h.1 ∙ sym k.1)
one_after None left x y r s h k = one_ttl left x y r s h k

one_both : (left : List ℕ) (x y : Option ℕ) (c d : Option DNSClass) (r s : List ℕ) → IsTtlAndClass left x c r → IsTtlAndClass left y d s → (x ≡ y) × (c ≡ d) × (r ≡ s)
one_both left x y c d r s (first, between, after, ttl, class, last) (first', between', after', ttl', class', last') =
    let a = one_ttl left first first' between between' ttl ttl' in
    let b = one_class between c d after after' class (subst (λ (t : List ℕ). IsClassNext t d after') (sym a.1) class') in
    let moved : IsTtlAfter first after y s =
    subst (λ (f : Option ℕ). IsTtlAfter f after y s) (sym a.0) (subst (λ (t : List ℕ). IsTtlAfter first' t y s) (sym b.1) last') in
    let l = one_after first after x y r s last moved in
    (l.0, b.0, l.1)

pub one_head : (left : List ℕ) (head other : Head) (r s : List ℕ) → IsZoneHead left head r → IsZoneHead left other s → (head ≡ other) × (r ≡ s)
one_head left head other r s (between, both, kind, e) (among, also, other_kind, f) =
    let (ttl, class, same) = one_both left head.ttl other.ttl head.class other.class between among both also in
    let one : head.record_type ≡ other.record_type = same_Some _ _ (sym kind.0.1 ∙ ap (λ (xs : List ℕ). type_of_text (next_word xs)) same ∙ other_kind.0.1) in (
      ap (λ (k : RecordType). record { ttl = head.ttl; class = head.class; record_type = k }) one
          ∙ ap (λ (c : Option DNSClass). record { ttl = head.ttl; class = c; record_type = other.record_type }) class
          ∙ ap (λ (t : Option ℕ). record { ttl = t; class = other.class; record_type = other.record_type }) ttl,
      e ∙ ap (λ (xs : List ℕ). after_next_word xs) same ∙ sym f,
    )
