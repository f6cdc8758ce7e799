use Rattle.std.proofs.Common.{◌≡◌, ◌==◌, ℕ, Bool, true, false, List, [], ◌∷◌, ◌++◌, length, inl, inr, refl, sym, ap, ◌∙◌, arith, rules}
use Rattle.dnw_record.specs.Records.{RecordValue}
use Rattle.dnw_c_base.proofs.Exits.{exits}
use Rattle.dnw_c_base.specs.declared.failure.Failure.TheVariants as why
use Rattle.dnw_c_signed.specs.RecordCalls.{FailsToRead}
use Rattle.dnw_c_signed.proofs.Following.{all_there, no_more, one_more, takes_on}
use Rattle.dnw_c_signed.proofs.records.records_from.Goals as goal

no_items : (n : ℕ) (items : List RecordValue) → n ≡ length items → (n == 0) ≡ true → items ≡ []
no_items n [] len zero = refl
no_items n (r ∷ items) len zero = let h = rw len at zero in absurd (search (rules, h))

-- what is so only if all is read is not so while something is left
some_left : {All : Type 0} {empty : Bool} → (All → empty ≡ true) → empty ≡ false → All → ⊥
some_left ends left all = cc (ends all, left)

pub records-smaller : goal.records-smaller
records-smaller c =
    let (onward, within) = takes_on c.records.left c.next_record.new.left c.in_ok-item.ensures.ok in
    omega (arith, onward, within, ap length c.records.invariant.same)

pub records-preserved : goal.records-preserved
records-preserved c = one_more c.in_ok-item.item c.push.new.self.items c.records.invariant c.in_ok-item.ensures.ok c.in_ok-push.ensures.items

pub returns-in_err-item-clause-err : goal.returns-in_err-item-clause-err
returns-in_err-item-clause-err c =
    exits (FailsToRead c.args.message.now c.args.start) c.from_residual.result _ c.from_residual.ensures.1
    (no_more c.in_err-item.field-0.0 c.records.invariant (some_left c.is_empty.ensures.1 c.records-test.true) (inl c.in_err-item.ensures.err))

pub returns-in_err-push-clause-err : goal.returns-in_err-push-clause-err
returns-in_err-push-clause-err c =
    let exit = c.from_residual-in_err-push in
    exits (FailsToRead c.args.message.now c.args.start) exit.result _ exit.ensures.1
    (no_more why.NoMemory c.records.invariant (some_left c.is_empty.ensures.1 c.records-test.true) (inr refl))

pub returns-then-is_empty-2-clause-ok : goal.returns-then-is_empty-2-clause-ok
returns-then-is_empty-2-clause-ok c =
    let item = c.in_ok-item.item in
    let none : c.records.records.items ≡ [] = no_items _ c.records.records.items c.records.records.ok.0 (sym c.is_empty-in-records.ensures ∙ c.if-is_empty.true) in
    let alone = one_more item (item ∷ []) c.records.invariant c.in_ok-item.ensures.ok (sym (ap (λ (rs : List RecordValue). rs ++ item ∷ []) none)) in
    all_there alone (c.is_empty-then-is_empty.ensures.0 c.if-is_empty-2.true)

pub returns-clause-ok : goal.returns-clause-ok
returns-clause-ok c = all_there c.records.invariant (c.is_empty.ensures.0 c.records-test.false)
