-- What reading a text builds up are labels that stand for themselves as text, so the name is read back.
use Rattle.std.proofs.Common.{◌≡◌, ℕ, ◌≤◌, Bool, true, false, if◌then◌else◌, ◌==◌, List, [], ◌∷◌, ◌++◌, length, Result, Ok, Err, encode_utf8, subst, arith}
use Rattle.std.specs.Prelude.{IfOk, nat_lt}
use Rattle.std.specs.List.{AllByRecursion}
use Rattle.std.specs.Str.{chars}
use Rattle.std.proofs.lemmas.Bool.{cond_both, ltb-false}
use Rattle.dnw_base.specs.Fault.{Fault, LabelTooLong, MalformedLabel, NameTooLong, ◌>>=◌}
use Rattle.dnw_base.specs.Limits.{max_label, max_name}
use Rattle.dnw_base.specs.Names.{NameValue, AreLabels, encoded_size}
use Rattle.dnw_base.proofs.Wires.{AllByRecursion_push}
use Rattle.dnw_name_form.specs.LabelText.{dot, is_label_text}
use Rattle.dnw_name_form.specs.Edits.{with_label}
use Rattle.dnw_name_text.specs.AsciiText.{TextElement, Char, Dot, Stop, Outside, elements, with_text, name_from_elements, name_from_text, name_text, IsLabelText}
use Rattle.dnw_name_text.proofs.ReadBack.{read_back}

-- labels that fit into a name and stand for themselves as text
record AreTexts (ls : List (List ℕ)) : Type 0 where
  are_labels : AreLabels ls
  texts : AllByRecursion IsLabelText ls

no_texts : AreTexts []
no_texts = record { are_labels = record { each = tt; fit = omega arith }; texts = tt }

-- what follows a success has what it has of each value
then_ok : {A B : Type 0} (P : A → Type 0) (Q : B → Type 0) (r : Result A Fault) (f : A → Result B Fault) → IfOk r P → ((x : A) → P x → IfOk (f x) Q) → IfOk (r >>= f) Q
then_ok P Q (Ok x) f h each = each x h
then_ok P Q (Err fault) f h each = tt

IsLabelText_push : (ls : List (List ℕ)) (l : List ℕ) → AllByRecursion IsLabelText ls → IsLabelText l → AllByRecursion IsLabelText (ls ++ l ∷ [])
IsLabelText_push [] l each h = (h, tt)
IsLabelText_push (m ∷ ls) l each h = (each.0, IsLabelText_push ls l each.1 h)

not_empty : (l : List ℕ) → IsLabelText l → 1 ≤ length l
not_empty [] h = absurd cc
not_empty (b ∷ bs) h = omega arith

-- The label is the text itself.
with_text_texts : (ls : List (List ℕ)) (text : List ℕ) → AreTexts ls → IfOk (with_text ls text) AreTexts
with_text_texts ls text h =
    let all : List (List ℕ) = ls ++ text ∷ [] in
    let size = encoded_size all in
    let pushed : IsLabelText text → nat_lt max_label (length text) ≡ false → nat_lt max_name size ≡ false → AreTexts all = λ is_text short fits.
    record {
      are_labels = record {
        each = AllByRecursion_push ls text h.are_labels.each (record { not_empty = not_empty text is_text; not_long = ltb-false max_label (length text) short });
        fit = ltb-false max_name size fits;
      };
      texts = IsLabelText_push ls text h.texts is_text;
    } in
    let added : IsLabelText text → nat_lt max_label (length text) ≡ false → IfOk (with_label ls text) AreTexts = λ is_text short.
    cond_both (nat_lt max_name size) (Err (NameTooLong size)) (Ok all) (λ r. IfOk r AreTexts) (λ long. tt) (λ fits. pushed is_text short fits) in
    let read : Bool → Result (List ℕ) Fault = λ is_text. if is_text then Ok text else Err (MalformedLabel text) in
    let after : Result (List ℕ) Fault → Type 0 = λ r. IfOk (r >>= with_label ls) AreTexts in
    cond_both (nat_lt max_label (length text)) (Err (LabelTooLong (length text))) (read (is_label_text text)) after (λ long. tt)
    (λ short. cond_both (is_label_text text) (Ok text) (Err (MalformedLabel text)) after (λ is_text. added is_text short) (λ no. tt))

-- the labels of a name
abbrev HasTexts : NameValue → Type 0
HasTexts n = AreTexts n.labels

elements_texts : (es : List TextElement) (ls : List (List ℕ)) (text : List ℕ) → AreTexts ls → IfOk (name_from_elements ls text es) HasTexts
elements_texts [] ls [] h = h
elements_texts [] ls (b ∷ bs) h =
    then_ok AreTexts HasTexts (with_text ls (b ∷ bs)) (λ all. Ok (record { is_fqdn = false; labels = all })) (with_text_texts ls (b ∷ bs) h) (λ all texts. texts)
elements_texts (Char c ∷ es) ls text h = elements_texts es ls (text ++ encode_utf8 c) h
elements_texts (Dot ∷ es) ls text h =
    then_ok AreTexts HasTexts (with_text ls text) (λ longer. name_from_elements longer [] es) (with_text_texts ls text h) (λ longer texts. elements_texts es longer [] texts)
elements_texts (Stop fault ∷ es) ls text h = tt

text_texts : (text : List ℕ) → IfOk (name_from_text text) HasTexts
text_texts [] = no_texts
text_texts (c ∷ []) =
    cond_both (c == dot) (Ok (record { is_fqdn = true; labels = [] })) (name_from_elements [] [] (elements Outside (c ∷ []))) (λ r. IfOk r HasTexts)
    (λ root. no_texts) (λ other. elements_texts (elements Outside (c ∷ [])) [] [] no_texts)
text_texts (c ∷ d ∷ cs) = elements_texts (elements Outside (c ∷ d ∷ cs)) [] [] no_texts

accepted : (text : List ℕ) (n : NameValue) → name_from_text text ≡ Ok n → AreTexts n.labels
accepted text n e = subst (λ r. IfOk r HasTexts) e (text_texts text)

pub accepted_labels : (text : List ℕ) (n : NameValue) → name_from_text text ≡ Ok n → AreLabels n.labels × AllByRecursion IsLabelText n.labels
accepted_labels text n e = let h = accepted text n e in (h.are_labels, h.texts)

pub accepted_read_back : (text : List ℕ) (n : NameValue) → name_from_text text ≡ Ok n → name_from_text (chars (name_text n)) ≡ Ok n
accepted_read_back text n e =
    let h = accepted text n e in
    read_back n h.are_labels h.texts
