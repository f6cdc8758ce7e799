-- A record is passed, or none is that comes last.
use Rattle.std.proofs.Common.{◌≡◌, ◌||◌, ◌∙◌, Bool, true, false, true≢false, ℕ, refl, subst, sym}
use Rattle.dnw_base.specs.Decoder.{Decoder, advanced}
use Rattle.dnw_record.specs.Records.{RecordValue, TakesRecord}
use Rattle.dnw_record.proofs.RecordReading.{TakesRecord_unique}
use Rattle.dnw_message_writer.specs.Lists.{IsNoEnd}
use Rattle.dnw_message_writer.specs.ListEnds.{is_put_last}
use Rattle.dnw_message_writer.proofs.list.items.pass_end.Goals as goal

or_false : (a b : Bool) → (a || b) ≡ false → b ≡ false
or_false true b is = absurd (true≢false is)
or_false false b is = is

no_end : (bare : Bool) (octet : ℕ) (d : Decoder) (x : RecordValue) (after : Decoder) → TakesRecord (advanced d 1) x after
    → (bare || is_put_last octet x) ≡ false → IsNoEnd octet d
no_end bare octet d x after takes is y later (begins, also) =
    let one = TakesRecord_unique (advanced d 1) y x later after also takes in
    subst (λ z. is_put_last octet z ≡ false) (sym one.0) (or_false bare (is_put_last octet x) is)

pub returns-then-not-is_passed-clause-ok : goal.returns-then-not-is_passed-clause-ok
returns-then-not-is_passed-clause-ok c = (
  refl,
  no_end c.args.bare c.args.octet c.args.decoder.now c.in_ok-record.record c.read_record.new.decoder
      (rw c.again-ahead.ensures at c.in_ok-record.ensures.ok) (sym c.is_passed.ensures ∙ c.if-not-is_passed.true),
)

pub returns-clause-ok : goal.returns-clause-ok
returns-clause-ok c = (
  c.in_ok-record.record,
  (c.requires, rw c.again-ahead.ensures at c.in_ok-record.ensures.ok),
  sym c.is_passed.ensures ∙ c.if-not-is_passed.false,
)
