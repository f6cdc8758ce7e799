-- Records of a list are compared one after another with one that is left out.
use Rattle.std.proofs.Common.{◌≡◌, ℕ, zero, suc, ◌-◌, ◌<◌, ◌||◌, ◌≤◌, Bool, true, false, length, ap, subst, sym, arith}
use Rattle.dnw_base.specs.Decoder.{Decoder, advanced}
use Rattle.dnw_record.specs.Records.{RecordValue}
use Rattle.dnw_record.proofs.RecordReading.{TakesRecord_not_Fails}
use Rattle.dnw_message_writer.specs.Needs.{are_the_same, halves}
use Rattle.dnw_message_writer.specs.Lists.{HasNoListed, IsHalfListed, LacksListed, TakesListed, another, no_record, over, the_same}
use Rattle.dnw_message_writer.specs.ListEnds.{is_put_last}
use Rattle.dnw_message_writer.proofs.ListItems.{record_onward}

-- none are left to compare
pub half_over : (n : ℕ) (d : Decoder) (y : RecordValue) (half : Bool) → n ≡ 0 → IsHalfListed y n d half half
half_over n d y half none = subst (λ k. IsHalfListed y k d half half) (sym none) (over d half)

-- at the end no record is next
pub none_at_end : (d : Decoder) → length d.bytes ≤ d.index → HasNoListed d
none_at_end d ended x after takes =
    let on = record_onward takes in
    omega (arith, on.further, on.inside, ap length on.same, ended)

-- none is where no record can be read
pub none_listed : (d : Decoder) → LacksListed d → HasNoListed d
none_listed d (error, fails) x after takes = TakesRecord_not_Fails (advanced d 1) x after error takes fails

-- so half of a set may be there
pub half_without : (n : ℕ) (d : Decoder) (y : RecordValue) (before : Bool) → 0 < n → HasNoListed d → IsHalfListed y n d before true
half_without zero d y before some none = absurd (omega (arith, some))
half_without (suc n) d y before some none = no_record n d before none

module _ (n octet : ℕ) (d after : Decoder) (x y : RecordValue) (before : Bool) (some : 0 < n) (takes : TakesListed d octet x after)
    (plain : is_put_last octet x ≡ false) where
  one_more : suc (n - 1) ≡ n
  one_more = omega (arith, some)

  -- it is not if the next record is the same
  pub half_with : are_the_same x y ≡ true → IsHalfListed y n d before false
  half_with is = subst (λ k. IsHalfListed y k d before false) one_more (the_same (n - 1) octet x d after before takes plain is)

  -- and else the others say
  pub half_past : (half : Bool) → are_the_same x y ≡ false → IsHalfListed y (n - 1) after (before || halves x y) half → IsHalfListed y n d before half
  half_past half is more = subst (λ k. IsHalfListed y k d before half) one_more (another (n - 1) octet x d after before half takes plain is more)
