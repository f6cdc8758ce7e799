-- What is printed is parsed.
use Rattle.std.proofs.Common.{ℕ, List, length, ap, ◌∙◌, subst, arith}
use Rattle.std.specs.Prelude.{None, string_bytes}
use Rattle.dns_names_wire.specs.Words.{DNSClass, Decoder, FailsText, RecordType, RecordValue, class_code, fields_of, number_forms, type_code}
use Rattle.uses.proofs.TextsBack.{why}
use Rattle.uses.proofs.texts.print_and_parse.Goals as goal

pub returns : goal.returns
returns c =
    let text : List ℕ = string_bytes c.in_ok-text.text in
    let whole = ap (λ (x : RecordValue). x.message) c.in-Ok.ensures.ok.1.is ∙ ap (λ (d : Decoder). d.bytes) c.new.ensures in
    let printed = subst (λ (t : List ℕ). FailsText None (number_forms (type_code c.record_type.result)) (fields_of (class_code c.class.result) (type_code c.record_type.result)) (length t) t c.in-Err.error) c.as_str.ensures.value c.in-Err.ensures in
    let of_class = subst (λ (class : DNSClass). FailsText None (number_forms (type_code c.record_type.result)) (fields_of (class_code class) (type_code c.record_type.result)) (length text) text c.in-Err.error) c.class.ensures printed in
    let fails = subst (λ (record_type : RecordType). FailsText None (number_forms (type_code record_type)) (fields_of (class_code c.in-Ok.record.class) (type_code record_type)) (length text) text c.in-Err.error)
    c.record_type.ensures of_class in
    why c.data_come_back.ensures.back c.data_come_back.ensures.parsed c.data_come_back.ensures.generic None c.in-Ok.record (length text) c.args.octets.now text c.in-Err.error
    (λ i. omega (arith, c.type_inv.octets i)) whole c.in_ok-text.ensures fails
