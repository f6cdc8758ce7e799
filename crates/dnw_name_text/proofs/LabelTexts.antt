-- Texts that add bytes to the label that is next: characters that stand for themselves, octal escapes and the texts of labels.
use Rattle.std.proofs.Common.{◌≡◌, ℕ, ◌<◌, ◌≤◌, Bool, true, false, List, [], ◌∷◌, ◌++◌, length, take, drop, refl, sym, ap, ◌∙◌, append_assoc, encode_utf8, arith}
use Rattle.std.specs.List.{list_all, flat_map}
use Rattle.std.specs.Str.{IsAscii, IsUtf8, chars}
use Rattle.std.proofs.lemmas.Bool.{and_parts, leb-true}
use Rattle.std.proofs.lemmas.List.Elements.{All-weaker}
use Rattle.std.proofs.lemmas.List.Sums.{AllPass-from_list_all, list_all-from_AllPass}
use Rattle.std.proofs.lemmas.Bool.Decides.{nat_tests}
use Rattle.std.proofs.lemmas.List.{append-nil, take-append-drop, length-take-le}
use Rattle.std.proofs.lemmas.Str.{encode_ascii, length-encode, len_utf8_bounds, chars-append, chars-IsAscii, IsAscii-append, IsUtf8-from_ascii, IsCharBoundary-from_take}
use Rattle.std.proofs.lemmas.Str.Ascii.{IsAscii-nil, IsAscii-cons}
use Rattle.dnw_name_form.specs.LabelText.{backslash, may_begin, may_follow, label_text, byte_text}
use Rattle.dnw_name_text.specs.AsciiText.{Outside, elements, is_octal_digit, name_from_elements, IsLabelText}
use Rattle.dnw_name_text.specs.Inside.TextReader.{is_own, is_simple, CutsText, BeginsWithEscape, name_from_rest}
use Rattle.dnw_name_text.proofs.ByteTexts.{IsRead, IsRead_own, IsRead_begin, IsRead_follow}

pub record Reads (cs bytes : List ℕ) : Type 0 where
  pub ascii : IsAscii cs
  pub read : (ls : List (List ℕ)) (text more : List ℕ)
      → name_from_elements ls text (elements Outside (cs ++ more)) ≡ name_from_elements ls (text ++ bytes) (elements Outside more)

pub Reads_nil : Reads [] []
Reads_nil = record { ascii = IsAscii-nil; read = λ ls text more. rw (append-nil text) refl }

Reads_cons : (b : ℕ) (bs cs more : List ℕ) → IsRead b cs → Reads more bs → Reads (cs ++ more) (b ∷ bs)
Reads_cons b bs cs more first rest = record {
  ascii = IsAscii-append cs more first.ascii rest.ascii;
  read = λ ls text end.
      rw (append_assoc cs more end, first.read (more ++ end))
      (ap (λ (added : List ℕ). name_from_elements ls (text ++ added) (elements Outside (more ++ end))) (encode_ascii b first.small)
      ∙ rest.read ls (text ++ b ∷ []) end ∙ rw (append_assoc text (b ∷ []) bs) refl);
}

-- weaker tests pass too
pub all_weaker : (p q : ℕ → Bool) → ((c : ℕ) → p c ≡ true → q c ≡ true) → (l : List ℕ) → list_all p l ≡ true → list_all q l ≡ true
all_weaker p q each l h = list_all-from_AllPass q l (All-weaker _ _ each l (AllPass-from_list_all p l h))

pub own_simple : (c : ℕ) → is_simple c ≡ true → is_own c ≡ true
own_simple c h = grind (arith, nat_tests)

pub Reads_own : (l : List ℕ) → list_all is_own l ≡ true → Reads l l
Reads_own [] h = Reads_nil
Reads_own (b ∷ bs) h =
    let both = and_parts (is_own b) _ h in Reads_cons b bs (b ∷ []) bs (IsRead_own b both.0) (Reads_own bs both.1)

Reads_follow : (bs : List ℕ) → list_all may_follow bs ≡ true → Reads (flat_map (byte_text false) bs) bs
Reads_follow [] h = Reads_nil
Reads_follow (b ∷ bs) h =
    let both = and_parts (may_follow b) _ h in Reads_cons b bs (byte_text false b) _ (IsRead_follow b both.0) (Reads_follow bs both.1)

pub Reads_label : (l : List ℕ) → IsLabelText l → Reads (label_text l) l
Reads_label [] h = Reads_nil
Reads_label (b ∷ bs) h =
    let both = and_parts (may_begin b) _ h in Reads_cons b bs (byte_text true b) _ (IsRead_begin b both.0) (Reads_follow bs both.1)

-- what follows such characters is read on
pub Reads_chars : {cs bytes : List ℕ} → Reads cs bytes → (rest : List ℕ) → chars (cs ++ rest) ≡ cs ++ chars rest
Reads_chars {cs} h rest =
    chars-append cs rest (IsUtf8-from_ascii cs h.ascii) ∙ ap (λ (front : List ℕ). front ++ chars rest) (chars-IsAscii cs h.ascii)

pub Reads_rest : {cs bytes : List ℕ} → Reads cs bytes → (ls : List (List ℕ)) (label rest : List ℕ)
    → name_from_rest ls label Outside (chars (cs ++ rest)) ≡ name_from_rest ls (label ++ bytes) Outside (chars rest)
unfolding name_from_rest
Reads_rest {cs} h ls label rest =
    ap (λ (all : List ℕ). name_from_elements ls label (elements Outside all)) (Reads_chars h rest) ∙ h.read ls label (chars rest)

-- and a text that begins with them may be cut after them
Begins_by : (text bytes : List ℕ) (n : ℕ) → IsUtf8 text → n ≤ length text → length bytes ≤ n → Reads (take n text) bytes → CutsText text n bytes
Begins_by text bytes n utf8 inside few h = record {
  inside = inside;
  cut = IsCharBoundary-from_take text n utf8 inside (IsUtf8-from_ascii (take n text) h.ascii);
  few = few;
  read = λ ls label.
      ap (λ (all : List ℕ). name_from_rest ls label Outside (chars all)) (sym (take-append-drop n text)) ∙ Reads_rest h ls label (drop n text);
}

pub Begins_run : (text : List ℕ) (n : ℕ) → IsUtf8 text → n ≤ length text → list_all is_simple (take n text) ≡ true → CutsText text n (take n text)
Begins_run text n utf8 inside h =
    Begins_by text (take n text) n utf8 inside (omega (arith, length-take-le n text inside))
    (Reads_own (take n text) (all_weaker is_simple is_own own_simple (take n text) h))

digit_low : (a : ℕ) → is_octal_digit a ≡ true → a < 128
digit_low a h = omega (arith, leb-true a 55 (and_parts _ _ h).1)

pub Begins_escape : (text : List ℕ) (char : ℕ) (rest : List ℕ) → IsUtf8 text → BeginsWithEscape text char rest → CutsText text 4 (encode_utf8 char)
Begins_escape text char rest utf8 e =
    let (ha, hb, hc) = e.digits in
    let escape : take 4 text ≡ backslash ∷ e.a ∷ e.b ∷ e.c ∷ [] = ap (take 4) e.spelled in
    Begins_by text (encode_utf8 char) 4 utf8 (omega (arith, ap length e.spelled)) (omega (arith, length-encode char, (len_utf8_bounds char).1))
    (rw (escape, e.value) (record {
      ascii =
          IsAscii-cons backslash (e.a ∷ e.b ∷ e.c ∷ []) (omega arith) (IsAscii-cons e.a (e.b ∷ e.c ∷ []) (digit_low e.a ha)
          (IsAscii-cons e.b (e.c ∷ []) (digit_low e.b hb) (IsAscii-cons e.c [] (digit_low e.c hc) IsAscii-nil)));
      read = λ ls text more. rw (ha, hb, hc) refl;
    }))
