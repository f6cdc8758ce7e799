-- If half of no set is there, each is there whole or not at all.
use Rattle.std.proofs.Common.{◌≡◌, ◌⊎◌, ℕ, ◌-◌, nat_lt, ◌||◌, Bool, true, false, true≢false, if◌then◌else◌, List, [], ◌∷◌, length, refl, sym, inl, inr}
use Rattle.dnw_record.specs.Records.{RecordValue}
use Rattle.dnw_message_writer.specs.CopyLaws.{AreNotHalved, HasWholeSets, IsAmong, SetsAreWhole, is_missing_of}
use Rattle.dnw_message_writer.specs.Needs.{are_the_same, halves, has_half, has_half_in, has_required, is_half_after, is_half_there, most_pairs, purpose_of}
use Rattle.dnw_message_writer.specs.declared.needs.Purpose.{Purpose}
use Rattle.dnw_message_writer.specs.declared.section.Section.{Section}
use Rattle.dnw_message_writer.specs.declared.section.Section.TheVariants.{Additionals, Answers, Authorities}

neither : (a b : Bool) → (a || b) ≡ false → (a ≡ false) × (b ≡ false)
neither true b is = absurd (true≢false is)
neither false b is = (refl, is)

-- what follows from one more record, if the others say so
compared : (half same : Bool) (x y : RecordValue) (there : List RecordValue) → are_the_same x y ≡ same
    → (if same then false else is_half_after (half || halves x y) there y) ≡ false
    → (is_half_after (half || halves x y) there y ≡ false → IsAmong there y ⊎ (((half || halves x y) ≡ false) × AreNotHalved there y))
    → IsAmong (x ∷ there) y ⊎ ((half ≡ false) × AreNotHalved (x ∷ there) y)
compared half true x y there same left others = inl (inl same)
compared half false x y there same left others =
    elim (others left) [
      | inl among ↦ inl (inr among)
      | inr (none, whole) ↦ let (before, own) = neither half (halves x y) none in inr (before, (own, whole))
    ]

none_after : (half : Bool) (there : List RecordValue) (y : RecordValue) → is_half_after half there y ≡ false
    → IsAmong there y ⊎ ((half ≡ false) × AreNotHalved there y)
none_after half [] y is = inr (is, tt)
none_after half (x ∷ there) y is = compared half (are_the_same x y) x y there refl is (none_after (half || halves x y) there y)

none_of_them : (pairs n : ℕ) (there left : List RecordValue) → has_half_in pairs n there left ≡ false
    → HasWholeSets there left
none_of_them pairs n there [] is = tt
none_of_them pairs n there (y ∷ left) is =
    let (few, rest) = neither (nat_lt pairs n) (is_half_there there y || has_half_in (pairs - n) n there left) is in
    let (first, others) = neither (is_half_there there y) (has_half_in (pairs - n) n there left) rest in (
      elim (none_after false there y first) [ inl among ↦ inl among | inr (none, whole) ↦ inr whole ],
      none_of_them (pairs - n) n there left others,
    )

section_is_whole : (s : Section) (p : Purpose) (there left : List RecordValue) → is_missing_of s p there left ≡ false → HasWholeSets there left
section_is_whole s p there left is =
    none_of_them most_pairs (length there) there left (neither (has_required s p false left) (has_half (length there) there left) is).1

pub sets_are_whole : SetsAreWhole
sets_are_whole x c items =
    let a = items.answers in
    let u = items.authorities in
    let d = items.additionals in
    let p = purpose_of x in
    let (answers, others) = neither _ _ (sym items.missing_is) in
    let (authorities, additionals) = neither _ _ others in (
      section_is_whole Answers p a.copied a.left answers,
      section_is_whole Authorities p u.copied u.left authorities,
      section_is_whole Additionals p d.copied d.left additionals,
    )
