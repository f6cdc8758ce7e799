-- No record of a set is next if none is, or one of another set.
use Rattle.std.proofs.Common.{◌≡◌, ◌≢◌, ◌+◌, ℕ, Some, Bool, true, false, true≢false, length, refl, sym, ◌∙◌, subst, arith}
use Rattle.std.proofs.lemmas.Option.{slice_get_within}
use Rattle.dnw_base.specs.Decoder.{Decoder, advanced}
use Rattle.dnw_record.specs.Records.{RecordValue, TakesRecord}
use Rattle.dnw_record.proofs.RecordReading.{TakesRecord_not_Fails, TakesRecord_unique}
use Rattle.dnw_message_writer.specs.Lists.{BeginsWithOctet, IsNoneOfSet, IsOfRun, LacksListed}
use Rattle.dnw_message_writer.proofs.list.items.next_of_set.Goals as goal

-- nothing is left
of_end : (d : Decoder) (octet : ℕ) (first : RecordValue) (left : ℕ) → d.index + left ≡ length d.bytes → left ≡ 0 → IsNoneOfSet d octet first
of_end d octet first left size none_left y later (begins, takes) same =
    let within = slice_get_within d.bytes d.index octet begins in
    absurd (omega (arith, within, size, none_left))

-- another octet is next
of_octet : (d : Decoder) (octet next : ℕ) (first : RecordValue) → BeginsWithOctet d next → next ≢ octet → IsNoneOfSet d octet first
of_octet d octet next first has other y later (begins, takes) same =
    let is : Some next ≡ Some octet = sym has ∙ begins in
    let clash : next ≡ octet = cc in
    other clash

-- no record is next
of_none : (d : Decoder) (octet : ℕ) (first : RecordValue) → LacksListed d → IsNoneOfSet d octet first
of_none d octet first (error, fails) y later (begins, takes) same = TakesRecord_not_Fails (advanced d 1) y later error takes fails

-- the record that is next is of another set
of_another : (d : Decoder) (octet : ℕ) (first x : RecordValue) (after : Decoder) (is_same : Bool) → TakesRecord (advanced d 1) x after
    → (IsOfRun octet first x → is_same ≡ true) → is_same ≡ false → IsNoneOfSet d octet first
of_another d octet first x after is_same takes so isnt y later (begins, also) same =
    let one = TakesRecord_unique (advanced d 1) y x later after also takes in
    absurd (true≢false (sym (so (subst (IsOfRun octet first) one.0 same)) ∙ isnt))

pub returns-then-left-eq0-clause-none : goal.returns-then-left-eq0-clause-none
returns-then-left-eq0-clause-none c = (of_end c.args.decoder.now c.args.octet c.args.first.now c.len-left.result c.len-left.ensures c.if-left-eq0.true, refl)

pub returns-then-next-octet-clause-none : goal.returns-then-next-octet-clause-none
returns-then-next-octet-clause-none c =
    (of_octet c.args.decoder.now c.args.octet c.octet_at-next.result c.args.first.now c.octet_at-next.ensures c.if-next-octet.true, refl)

pub returns-in-Err-clause-none : goal.returns-in-Err-clause-none
returns-in-Err-clause-none c =
    (of_none c.args.decoder.now c.args.octet c.args.first.now (rw c.again-ahead.ensures at c.in-Err.ensures.err).0, refl)

pub returns-then-not-is_of_run-clause-none : goal.returns-then-not-is_of_run-clause-none
returns-then-not-is_of_run-clause-none c = (
  of_another c.args.decoder.now c.args.octet c.args.first.now c.in-Ok.record c.read_record.new.decoder c.is_of_run.result
      (rw c.again-ahead.ensures at c.in-Ok.ensures.ok) c.is_of_run.ensures.1 c.if-not-is_of_run.true,
  refl,
)
