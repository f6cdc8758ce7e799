-- How the reader of a name's text goes on: what reading gives at a character, at a dot and at the end.
use Rattle.std.proofs.Common.{◌≡◌, ℕ, ◌<◌, inl, inr, ◌==◌, Bool, true, false, List, [], ◌∷◌, ◌++◌, length, drop, Ok, Err, encode_utf8, refl, sym, ap, ◌∙◌, arith}
use Rattle.std.specs.Str.{chars, IsUtf8, bytes_eq}
use lib.Utf8.{encodes}
use Rattle.std.proofs.lemmas.Bool.{lt-ltb, ne_eqb, eq-eqb, both_ways}
use Rattle.std.proofs.lemmas.Str.{encodes-chars}
use Rattle.std.proofs.lemmas.List.{length-append}
use Rattle.std.proofs.lemmas.Slice.Eq.{bytes_eq-Decides}
use Rattle.dnw_base.specs.Fault.{UnfinishedEscape, ◌>>=◌}
use Rattle.dnw_name_form.specs.LabelText.{dot}
use Rattle.dnw_name_text.specs.AsciiText.{TextElement, Char, Dot, Stop, Outside, elements, with_text, name_from_elements, name_from_text}
use Rattle.dnw_name_text.specs.Inside.TextReader.{state_of, elements_from, IsAlike, CutsText, name_from_rest, name_from}
use Rattle.dnw_name_text.specs.declared.ascii.State.{State as Held}
use Rattle.dnw_name_text.specs.declared.ascii.State.TheVariants.{Outside as HeldOutside}
use Rattle.dnw_name_text.specs.declared.ascii.Move.{Move}
use Rattle.dnw_name_text.specs.declared.ascii.TextReader.{TextReader}

-- a label of more than 63 bytes fails by its length, so such labels are alike if they have as many bytes
with_text_alike : (ls : List (List ℕ)) (a b : List ℕ) → 63 < length a → length a ≡ length b → with_text ls a ≡ with_text ls b
with_text_alike ls a b lt e =
    let other : 63 < length b = omega arith in
    rw (lt-ltb 63 (length a) lt, lt-ltb 63 (length b) other, e) refl

-- what the end of a text gives after a label
pub at_end_of : (ls : List (List ℕ)) (t : List ℕ) → 0 < length t
    → name_from_elements ls t [] ≡ (with_text ls t >>= (λ all. Ok (record { is_fqdn = false; labels = all })))
at_end_of ls [] some = absurd (omega (arith, some))
at_end_of ls (b ∷ bs) some = refl

-- and all that follows is alike
elements_alike : (es : List TextElement) (ls : List (List ℕ)) (a b : List ℕ) → 63 < length a → length a ≡ length b → name_from_elements ls a es ≡ name_from_elements ls b es
elements_alike [] ls a b lt e =
    at_end_of ls a (omega (arith, lt)) ∙ ap (λ r. r >>= (λ all. Ok (record { is_fqdn = false; labels = all }))) (with_text_alike ls a b lt e)
    ∙ sym (at_end_of ls b (omega (arith, lt, e)))
elements_alike (Char c ∷ es) ls a b lt e =
    elements_alike es ls (a ++ encode_utf8 c) (b ++ encode_utf8 c)
    (omega (arith, lt, length-append a (encode_utf8 c)))
    (omega (arith, e, length-append a (encode_utf8 c), length-append b (encode_utf8 c)))
elements_alike (Dot ∷ es) ls a b lt e =
    ap (λ r. r >>= (λ longer. name_from_elements longer [] es)) (with_text_alike ls a b lt e)
elements_alike (Stop fault ∷ es) ls a b lt e = refl

pub name_from_elements_alike : (es : List TextElement) (ls : List (List ℕ)) (a b : List ℕ) → IsAlike a b → name_from_elements ls a es ≡ name_from_elements ls b es
name_from_elements_alike es ls a b (inl e) = ap (λ text. name_from_elements ls text es) e
name_from_elements_alike es ls a b (inr (lt, e)) = elements_alike es ls a b lt e

-- what reading gives at a character, by its move
pub at_move : (r : TextReader) (move : Move) (c : ℕ) (cs : List ℕ) → elements (state_of r.state) (c ∷ cs) ≡ elements_from move c cs
    → name_from r (c ∷ cs) ≡ name_from_elements r.form r.label (elements_from move c cs)
unfolding name_from name_from_rest
at_move r move c cs e = ap (name_from_elements r.form r.label) e

-- after bytes that were added to the label
pub name_from_begins : (r : TextReader) (label text bytes : List ℕ) (n : ℕ) → r.state ≡ HeldOutside → CutsText text n bytes → IsAlike label (r.label ++ bytes)
    → name_from (record r { label = label }) (chars (drop n text)) ≡ name_from r (chars text)
unfolding name_from name_from_rest
name_from_begins r label text bytes n state begins alike =
    rw state (name_from_elements_alike (elements Outside (chars (drop n text))) r.form label (r.label ++ bytes) alike ∙ sym (begins.read r.form r.label))

-- when the characters end inside an escape
pub no_end : (state : Held) → (state ≡ HeldOutside → ⊥) → elements (state_of state) [] ≡ Stop UnfinishedEscape ∷ []
no_end HeldOutside ne = absurd (ne refl)
no_end state ne = refl

pub unfinished : (r : TextReader) → (r.state ≡ HeldOutside → ⊥) → name_from r (chars []) ≡ Err UnfinishedEscape
unfolding chars name_from name_from_rest
unfinished r ne = ap (name_from_elements r.form r.label) (no_end r.state ne)

-- when they end after a dot
pub at_end : (ls : List (List ℕ)) (text : List ℕ) → length text ≡ 0 → name_from_rest ls text Outside (chars []) ≡ Ok (record { is_fqdn = true; labels = ls })
unfolding chars name_from_rest
at_end ls [] none = refl
at_end ls (b ∷ bs) none = absurd (omega (arith, none))

-- when they end after a label
pub at_last : (ls : List (List ℕ)) (text : List ℕ) → (length text == 0) ≡ false
    → name_from_rest ls text Outside (chars []) ≡ (with_text ls text >>= (λ all. Ok (record { is_fqdn = false; labels = all })))
unfolding chars name_from_rest
at_last ls [] some = absurd cc
at_last ls (b ∷ bs) some = refl

-- when a dot ends a label
pub at_dot : (ls : List (List ℕ)) (text rest : List ℕ)
    → name_from_rest ls text Outside (chars (dot ∷ rest)) ≡ (with_text ls text >>= (λ longer. name_from_rest longer [] Outside (chars rest)))
unfolding chars name_from_rest
at_dot ls text [] = refl
at_dot ls text (b ∷ rest) = refl

-- the lone dot is its own character
pub chars_dot : chars (dot ∷ []) ≡ dot ∷ []
unfolding chars
chars_dot = refl

-- any text but the empty one and the lone dot is read from its first character on
pub plain_chars : (cs : List ℕ) → (cs ≡ [] → ⊥) → (cs ≡ dot ∷ [] → ⊥) → name_from_text cs ≡ name_from_rest [] [] Outside cs
unfolding name_from_rest
plain_chars [] some other = absurd (some refl)
plain_chars (c ∷ []) some other = rw (ne_eqb c dot (λ e. other (ap (λ (n : ℕ). n ∷ []) e))) refl
plain_chars (c ∷ d ∷ cs) some other = refl

pub name_from_text_plain : (bs : List ℕ) (empty lone : Bool) → IsUtf8 bs → empty ≡ (length bs == 0) → empty ≡ false → lone ≡ bytes_eq bs (dot ∷ []) → lone ≡ false
    → name_from_text (chars bs) ≡ name_from_rest [] [] Outside (chars bs)
unfolding lib.Utf8.encode
name_from_text_plain bs empty lone text empty_is some lone_is other =
    plain_chars (chars bs)
    (λ e. both_ways empty some (empty_is ∙ eq-eqb _ _ (ap length (sym (encodes-chars bs text) ∙ ap encodes e))))
    (λ e. both_ways lone other (lone_is ∙ (bytes_eq-Decides bs (dot ∷ [])).1 (sym (encodes-chars bs text) ∙ ap encodes e)))
