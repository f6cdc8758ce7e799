-- One more record is compared.
use Rattle.std.proofs.Common.{◌≡◌, ℕ, suc, zero, ◌-◌, ◌<◌, ◌||◌, Bool, false, true, if◌then◌else◌, List, ◌∷◌, take, sym, ap, ◌∙◌, arith}
use Rattle.dnw_record.specs.Records.{RecordValue}
use Rattle.dnw_message_writer.specs.Copying.{sets_of}
use Rattle.dnw_message_writer.specs.Needs.{are_the_same, halves, is_half_after}
use Rattle.dnw_message_writer.proofs.halves.is_half_there.Goals as goal

one_more : (n : ℕ) (half : Bool) (x y : RecordValue) (xs all : List RecordValue) → 0 < n → all ≡ x ∷ xs → are_the_same x y ≡ false
    → is_half_after (half || halves x y) (take (n - 1) xs) y ≡ is_half_after half (take n all) y
one_more zero half x y xs all some is other = absurd (omega (arith, some))
one_more (suc n) half x y xs all some is other =
    let fewer : suc n - 1 ≡ n = omega arith in
    ap (λ k. is_half_after (half || halves x y) (take k xs) y) fewer
    ∙ (sym (ap (λ (b : Bool). if b then false else is_half_after (half || halves x y) (take n xs) y) other)
    ∙ sym (ap (λ zs. is_half_after half (take (suc n) zs) y) is))

same_ends : (n : ℕ) (half : Bool) (x y : RecordValue) (xs all : List RecordValue) → 0 < n → all ≡ x ∷ xs → are_the_same x y ≡ true
    → false ≡ is_half_after half (take n all) y
same_ends zero half x y xs all some is same = absurd (omega (arith, some))
same_ends (suc n) half x y xs all some is same =
    sym (ap (λ zs. is_half_after half (take (suc n) zs) y) is
    ∙ ap (λ (b : Bool). if b then false else is_half_after (half || halves x y) (take n xs) y) same)

pub returns-then-are_the_same : goal.returns-then-are_the_same
returns-then-are_the_same c =
    same_ends c.there.more c.there.half c.in-Some.record c.args.left.now _ _ c.there-test.true c.in-Some.ensures.next
    (sym c.are_the_same.ensures ∙ c.if-are_the_same.true) ∙ c.there.invariant

pub there-preserved : goal.there-preserved
there-preserved c =
    let n = c.there.more in
    let x = c.in-Some.record in
    let y = c.args.left.now in
    let others = sets_of c.args.section c.next_of.new.records in
    ap (λ (h : Bool). is_half_after h (take (n - 1) others) y) c.or_halves-half.ensures
    ∙ (one_more n c.there.half x y others _ c.there-test.true c.in-Some.ensures.next (sym c.are_the_same.ensures ∙ c.if-are_the_same.false)
    ∙ c.there.invariant)
