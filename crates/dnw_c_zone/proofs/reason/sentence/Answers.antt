use Rattle.std.proofs.Common.{◌≡◌, ℕ, Bool, List, IfOk, string_bytes, subst}
use Rattle.dnw_c_zone.specs.Reasons.{reason_text, worded}
use Rattle.dnw_c_zone.proofs.reason.sentence.Goals as goal

pub returns : goal.returns
returns c =
    let Is : Bool → List ℕ → Type 0 = λ about words. IfOk c.worded.result (λ text. string_bytes text ≡ worded about c.args.offset c.args.field words) in
    subst (λ (about : Bool). Is about (reason_text c.args.reason)) c.is_of_field.ensures (subst (Is c.is_of_field.result) c.text.ensures c.worded.ensures)
