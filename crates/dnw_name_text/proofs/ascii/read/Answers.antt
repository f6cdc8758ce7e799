-- The empty text and the lone dot stand for themselves, and any other is read from its first character on.
use Rattle.std.proofs.Common.{[], ◌∷◌, refl, sym, ◌∙◌, eqb-true}
use Rattle.std.proofs.lemmas.List.{nil_from_length}
use Rattle.std.proofs.lemmas.Str.{chars-nil}
use Rattle.std.proofs.lemmas.Slice.Eq.{bytes_eq-Decides}
use Rattle.dnw_name_form.specs.LabelText.{dot}
use Rattle.dnw_name_text.proofs.TextReading.{chars_dot, name_from_text_plain}
use Rattle.dnw_name_text.proofs.ascii.read.Goals as goal

pub returns-then-is_empty : goal.returns-then-is_empty
returns-then-is_empty c =
    rw (nil_from_length _ (eqb-true _ _ (sym c.is_empty.ensures ∙ c.if-is_empty.true)), chars-nil, c.new.ensures) (record { follows = refl })

pub returns-then-eq : goal.returns-then-eq
returns-then-eq c =
    let same = (bytes_eq-Decides c.args.text.now (dot ∷ [])).0 (sym c.eq.ensures ∙ c.if-eq.true) in
    rw (same, chars_dot, c.new-then-eq.ensures) (record { follows = refl })

pub returns-in-Some : goal.returns-in-Some
returns-in-Some c = rw (name_from_text_plain _ _ _ c.utf8.text c.is_empty.ensures c.if-is_empty.false c.eq.ensures c.if-eq.false) (record { follows = rw c.as_bytes.ensures.value at c.in-Some.ensures })

pub returns-in-None : goal.returns-in-None
returns-in-None c = rw (name_from_text_plain _ _ _ c.utf8.text c.is_empty.ensures c.if-is_empty.false c.eq.ensures c.if-eq.false) (record { follows = c.read_by_parts.ensures.follows })
