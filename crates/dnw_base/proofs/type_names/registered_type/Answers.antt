use Rattle.std.proofs.Common.{◌≡◌, ◌∙◌, Some, None, option_map, refl, sym, ap, arith}
use Rattle.std.specs.Option.{option_or}
use Rattle.dnw_base.specs.declared.record_type.RecordType.TheVariants.{Unknown}
use Rattle.dnw_base.specs.Inside.TypeKeys.{name_key, named_by_key, further_by_key}
use Rattle.dnw_base.proofs.TypeKeys.{found_by_key}
use Rattle.dnw_base.proofs.type_names.registered_type.Goals as goal

pub returns-in-Some : goal.returns-in-Some
returns-in-Some c =
    let name = c.args.name.now in
    let named : named_by_key (name_key name) ≡ Some c.in-Some.record_type = ap named_by_key (sym c.name_key-key.ensures) ∙ (sym c.named_by_key.ensures ∙ c.in-Some.is) in
    sym (rw named refl) ∙ found_by_key name (λ i. omega (arith, c.type_inv.name i)) (omega (arith, c.if-name-gt-MAX_CODE_TEXT.false))

pub returns-in_err-code : goal.returns-in_err-code
returns-in_err-code c =
    let name = c.args.name.now in
    let named : named_by_key (name_key name) ≡ None = ap named_by_key (sym c.name_key-key.ensures) ∙ (sym c.named_by_key.ensures ∙ c.in_default.is) in
    let further : further_by_key (name_key name) ≡ None = ap further_by_key (sym c.name_key-key.ensures) ∙ (sym c.further_by_key.ensures ∙ c.in_err-code.was) in
    c.from_residual.ensures
    ∙ (sym (rw (named, further) refl) ∙ found_by_key name (λ i. omega (arith, c.type_inv.name i)) (omega (arith, c.if-name-gt-MAX_CODE_TEXT.false)))

pub returns : goal.returns
returns c =
    let name = c.args.name.now in
    let named : named_by_key (name_key name) ≡ None = ap named_by_key (sym c.name_key-key.ensures) ∙ (sym c.named_by_key.ensures ∙ c.in_default.is) in
    let further : further_by_key (name_key name) ≡ Some c.in_ok-code.code = ap further_by_key (sym c.name_key-key.ensures) ∙ (sym c.further_by_key.ensures ∙ c.in_ok-code.was) in
    sym (rw (named, further) refl) ∙ found_by_key name (λ i. omega (arith, c.type_inv.name i)) (omega (arith, c.if-name-gt-MAX_CODE_TEXT.false))
