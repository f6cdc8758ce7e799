-- What a reader that only counts does at a character of a label, and at a dot.
use Rattle.std.proofs.Common.{◌≡◌, ℕ, ◌+◌, ◌<◌, ◌≤◌, ◌==◌, Bool, true, false, List, [], ◌∷◌, ◌++◌, length, Ok, Err, encode_utf8, refl, sym, ap, ◌∙◌, arith, if◌then◌else◌}
use Rattle.std.specs.Char.{len_utf8}
use Rattle.std.proofs.lemmas.List.{length-append}
use Rattle.std.proofs.lemmas.Str.{length-encode, len_utf8_bounds}
use Rattle.dnw_base.specs.Fault.{Fault, UnfinishedEscape, ◌>>=◌}
use Rattle.dnw_base.specs.Fault as why
use Rattle.dnw_base.specs.Names.{encoded_size}
use Rattle.dnw_base.proofs.Wires.{encoded_size_push}
use Rattle.dnw_name_form.specs.LabelText.{is_label_text, may_begin, may_follow}
use Rattle.dnw_name_text.specs.AsciiText.{Char, Dot, with_text, name_from_elements}
use Rattle.dnw_name_text.specs.AsciiFaults.{rule_of}
use Rattle.dnw_name_text.specs.Inside.TextProgress.{Breaks, BreaksAt, GoesOnWith, HoldsLabels}
use Rattle.dnw_name_text.specs.declared.ascii_fault.TextRule.{TextRule}
use Rattle.dnw_name_text.specs.declared.ascii_fault.TextRule.TheVariants.{EmptyLabel, LabelTooLong, NameTooLong, Character}
use Rattle.dnw_name_text.specs.declared.ascii_fault.Progress.{Progress}
use Rattle.dnw_name_text.proofs.Elements.{Never, too_long, malformed, no_room, fits, never_long, never_bad, never_fits, no_name, longer_text}
use Rattle.dnw_name_text.proofs.TextReading.{at_end_of}

malformed_rule : (t : List ℕ) → 0 < length t → Character ≡ rule_of (why.MalformedLabel t)
malformed_rule [] some = absurd (omega (arith, some))
malformed_rule (b ∷ bs) some = refl

-- a character of n bytes more
module _ (p : Progress) (c n : ℕ) (is : n ≡ len_utf8 c) (ls : List (List ℕ)) (label : List ℕ) (h : HoldsLabels p ls label) where
  abbrev text : List ℕ
  text = label ++ encode_utf8 c

  size : length text ≡ p.label + n
  size = omega (arith, is, h.len, length-append label (encode_utf8 c), length-encode c)

  some : 0 < length text
  some = omega (arith, size, is, (len_utf8_bounds c).0)

  -- the test of the reader is that of the label's text
  tested : (b : Bool) → b ≡ (if p.label == 0 then may_begin c else may_follow c) → is_label_text text ≡ b
  tested b e = longer_text label c h.text ∙ ap (λ (n : ℕ). if n == 0 then may_begin c else may_follow c) (sym h.len) ∙ sym e

  breaks_char : (rule : TextRule) (fault : Fault) → rule ≡ rule_of fault → (fault ≡ UnfinishedEscape → ⊥) → with_text ls text ≡ Err fault → Never ls text
      → Breaks ls label (Char c) rule
  breaks_char rule fault is other fails never = record {
    fault = fault;
    rule_is = is;
    other = other;
    fails = at_end_of ls text some ∙ ap (λ r. r >>= (λ all. Ok (record { is_fqdn = false; labels = all }))) fails;
    hopeless = λ es name e. no_name es ls text some never name e;
  }

  pub label_too_long : 63 < p.label + n → Breaks ls label (Char c) LabelTooLong
  label_too_long over =
      let long : 63 < length text = omega (arith, over, size) in
      breaks_char LabelTooLong (why.LabelTooLong (length text)) refl (λ e. cc) (too_long ls text long) (never_long ls text long)

  pub bad_character : p.label + n ≤ 63 → false ≡ (if p.label == 0 then may_begin c else may_follow c) → Breaks ls label (Char c) Character
  bad_character few bad =
      breaks_char Character (why.MalformedLabel text) (malformed_rule text some) (λ e. cc) (malformed ls text (omega (arith, few, size)) (tested false bad))
      (never_bad ls text some (tested false bad))

  pub name_too_long : p.label + n ≤ 63 → true ≡ (if p.label == 0 then may_begin c else may_follow c) → 255 < p.size + 1 + (p.label + n)
      → Breaks ls label (Char c) NameTooLong
  name_too_long few good over =
      let past : 255 < encoded_size ls + 1 + length text = omega (arith, over, size, h.size) in
      breaks_char NameTooLong (why.NameTooLong (encoded_size ls + 1 + length text)) refl (λ e. cc)
      (no_room ls text _ (omega (arith, few, size)) (tested true good) refl past) (never_fits ls text past)

  pub pushed : p.label + n ≤ 63 → true ≡ (if p.label == 0 then may_begin c else may_follow c) → p.size + 1 + (p.label + n) ≤ 255
      → HoldsLabels (record { size = p.size; label = p.label + n }) ls text
  pushed few good room = record {
    size = h.size;
    most = h.most;
    len = sym size;
    few = omega (arith, few, size);
    fits = λ some. omega (arith, room, size, h.size);
    text = λ some. tested true good;
  }

pub empty_label : (p : Progress) → p.label ≡ 0 → BreaksAt Dot p EmptyLabel
empty_label p none ls [] h = record {
  fault = why.MalformedLabel [];
  rule_is = refl;
  other = λ e. cc;
  fails = refl;
  hopeless = λ es name e. cc;
}
empty_label p none ls (b ∷ bs) h = absurd (omega (arith, none, h.len))

pub label_ends : (p : Progress) → (p.label ≡ 0 → ⊥) → GoesOnWith Dot p (record { size = p.size + (1 + p.label); label = 0 })
label_ends p some ls label h =
    let positive : 0 < length label = omega (arith, some, h.len) in
    let room = h.fits positive in
    let held : HoldsLabels (record { size = p.size + (1 + p.label); label = 0 }) (ls ++ label ∷ []) [] = record {
      size = omega (arith, h.size, h.len, encoded_size_push ls label);
      most = omega (arith, room, encoded_size_push ls label);
      len = refl;
      few = omega arith;
      fits = λ some. absurd (omega (arith, some));
      text = λ some. absurd (omega (arith, some));
    }
    in
    (ls ++ label ∷ [], [], held, λ es. ap (λ r. r >>= (λ longer. name_from_elements longer [] es)) (fits ls label h.few (h.text positive) room))
