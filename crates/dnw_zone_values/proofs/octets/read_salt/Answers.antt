use Rattle.std.proofs.Common.{[], refl, sym, inl, arith, ◌∙◌, append-nil}
use Rattle.std.proofs.lemmas.Slice.Eq.{bytes_eq-Decides}
use Rattle.dnw_zone_values.proofs.HexText.{salt_from_hex, no_salt, other_text}
use Rattle.dnw_zone_values.proofs.octets.read_salt.Goals as goal

pub returns-then-eq : goal.returns-then-eq
returns-then-eq c =
    ([], inl ((bytes_eq-Decides _ _).0 (sym c.eq.ensures ∙ c.if-eq.true) ∙ c.as_slice.ensures, refl), sym (append-nil _))

pub returns-in-1-to-510 : goal.returns-in-1-to-510
returns-in-1-to-510 c =
    salt_from_hex c.args.text.now _ _ c.append_digits.result (λ same. other_text _ _ _ c.eq.ensures c.if-eq.false (same ∙ sym c.as_slice.ensures)) (omega arith) (omega arith) c.append_digits.ensures

pub returns-in_default : goal.returns-in_default
returns-in_default c =
    (inl (refl, λ octets. no_salt c.args.text.now octets (λ same. other_text _ _ _ c.eq.ensures c.if-eq.false (same ∙ sym c.as_slice.ensures)) (λ size. omega (arith, size))), refl)

pub returns-in_default-2 : goal.returns-in_default-2
returns-in_default-2 c =
    (inl (refl, λ octets. no_salt c.args.text.now octets (λ same. other_text _ _ _ c.eq.ensures c.if-eq.false (same ∙ sym c.as_slice.ensures)) (λ size. omega (arith, size))), refl)
