-- Names with the same text are the same: they are built again from it.
use Rattle.std.proofs.Common.{◌≡◌, ℕ, suc, ◌+◌, ◌-◌, ◌*◌, ◌/◌, ◌%◌, ◌<◌, ◌==◌, ◌&&◌, Bool, true, false, not, if◌then◌else◌, List, [], ◌∷◌, ◌++◌, inl, inr, refl, sym, ap, ◌∙◌, append_assoc, arith}
use Rattle.std.specs.List.{AllByRecursion, flat_map}
use Rattle.std.specs.Char.{is_ascii_graphic}
use Rattle.std.proofs.lemmas.Bool.{agree_below_at, and_parts, not-true, eqb-true, cases_Bool}
use Rattle.std.proofs.lemmas.List.{append-nil}
use Rattle.dnw_base.specs.Labels.{IsLabel}
use Rattle.dnw_base.specs.Names.{NameValue, AreLabels}
use Rattle.dnw_name_form.specs.LabelText.{dot, backslash, is_plain, byte_text, octal_escape, label_text}
use Rattle.dnw_name_read.specs.ReadingLaws.{AreBytes}
use Rattle.dnw_name_text.specs.AsciiText.{State, Outside, Escaped, AfterOne, AfterTwo, is_octal_digit, name_text}
use Rattle.dnw_name_text.proofs.Joined.{dotted, joined_cons}
use Rattle.dns_names_wire.specs.TextLaws.{AreByteLabels}

abbrev name_of : Bool → List (List ℕ) → NameValue
name_of is_fqdn labels = record { is_fqdn = is_fqdn; labels = labels }

abbrev after_label : List ℕ → NameValue → NameValue
after_label l n = name_of n.is_fqdn (l ∷ n.labels)

-- The name of a text, after a dot or not, and after the start of a label. This is reading without its refusals: an octal
-- digit after a backslash begins three of them.
abbrev built : Bool → State → List ℕ → List ℕ → NameValue
built after Outside [] [] = name_of after []
built after state l [] = name_of false (l ∷ [])
built after Outside l (c ∷ cs) =
    if c == dot then after_label l (built true Outside [] cs)
    else if c == backslash then built after Escaped l cs else built after Outside (l ++ c ∷ []) cs
built after Escaped l (c ∷ cs) =
    if is_octal_digit c then built after (AfterOne (c - 48)) l cs else built after Outside (l ++ c ∷ []) cs
built after (AfterOne a) l (c ∷ cs) = built after (AfterTwo a (c - 48)) l cs
built after (AfterTwo a b) l (c ∷ cs) = built after Outside (l ++ (64 * a + 8 * b + (c - 48)) ∷ []) cs

-- a dot alone is the root
abbrev settled : Bool → List (List ℕ) → NameValue
settled is_fqdn ([] ∷ ls) = name_of true []
settled is_fqdn ls = name_of is_fqdn ls

abbrev name_from : List ℕ → NameValue
name_from text = let n = built false Outside [] text in settled n.is_fqdn n.labels

-- ---- a byte

-- A plain byte is neither a dot nor a backslash, another visible one is no digit, and any other one is written as an octal
-- number.
abbrev is_octal : ℕ → Bool
is_octal b = is_octal_digit (48 + b / 64) && (64 * (48 + b / 64 - 48) + 8 * (48 + b / 8 % 8 - 48) + (48 + b % 8 - 48) == b)

abbrev is_read : Bool → ℕ → Bool
is_read first b =
    if is_plain first b then not (b == dot) && not (b == backslash)
    else if is_ascii_graphic b then not (is_octal_digit b) else is_octal b

all_read : (first : Bool) (b : ℕ) → b < 256 → is_read first b ≡ true
all_read true b small = agree_below_at (is_read true) (λ n. true) 256 b refl small
all_read false b small = agree_below_at (is_read false) (λ n. true) 256 b refl small

module _ (after : Bool) (l : List ℕ) (b : ℕ) (cs : List ℕ) where
  built-plain : (not (b == dot) && not (b == backslash)) ≡ true → built after Outside l (b ∷ cs) ≡ built after Outside (l ++ b ∷ []) cs
  built-plain h = let parts = and_parts (not (b == dot)) _ h in rw (not-true (b == dot) parts.0, not-true (b == backslash) parts.1) refl

  built-digits : (x y z : ℕ) → is_octal_digit x ≡ true
      → built after Outside l (backslash ∷ x ∷ y ∷ z ∷ cs) ≡ built after Outside (l ++ (64 * (x - 48) + 8 * (y - 48) + (z - 48)) ∷ []) cs
  built-digits x y z h = rw h refl

  built-octal : is_octal b ≡ true → built after Outside l (octal_escape b ++ cs) ≡ built after Outside (l ++ b ∷ []) cs
  built-octal h =
      let parts = and_parts (is_octal_digit (48 + b / 64)) _ h in
      built-digits (48 + b / 64) (48 + b / 8 % 8) (48 + b % 8) parts.0 ∙ ap (λ (c : ℕ). built after Outside (l ++ c ∷ []) cs) (eqb-true _ b parts.1)

  built-byte : (first : Bool) → b < 256 → built after Outside l (byte_text first b ++ cs) ≡ built after Outside (l ++ b ∷ []) cs
  built-byte first small =
      let read = all_read first b small in
      elim (cases_Bool (is_plain first b)) [
        | inl plain ↦ rw plain (built-plain (rw plain at read))
        | inr other ↦
            let read = rw other at read in
            elim (cases_Bool (is_ascii_graphic b)) [
              | inl graphic ↦ rw (other, graphic, not-true (is_octal_digit b) (rw graphic at read)) refl
              | inr hidden ↦ rw (other, hidden) (built-octal (rw hidden at read))
            ]
      ]

-- ---- labels and names

built_bytes : (after : Bool) (l bs cs : List ℕ) → AreBytes bs → built after Outside l (flat_map (byte_text false) bs ++ cs) ≡ built after Outside (l ++ bs) cs
built_bytes after l [] cs h = ap (λ (x : List ℕ). built after Outside x cs) (sym (append-nil l))
built_bytes after l (b ∷ bs) cs h =
    let more = flat_map (byte_text false) bs in
    ap (built after Outside l) (append_assoc (byte_text false b) more cs) ∙ built-byte after l b (more ++ cs) false (h 0)
    ∙ built_bytes after (l ++ b ∷ []) bs cs (λ i. h (suc i)) ∙ ap (λ (x : List ℕ). built after Outside x cs) (append_assoc l (b ∷ []) bs)

built_label : (after : Bool) (l cs : List ℕ) → AreBytes l → built after Outside [] (label_text l ++ cs) ≡ built after Outside l cs
built_label after [] cs h = refl
built_label after (b ∷ bs) cs h =
    let more = flat_map (byte_text false) bs in
    ap (built after Outside []) (append_assoc (byte_text true b) more cs) ∙ built-byte after [] b (more ++ cs) true (h 0)
    ∙ built_bytes after (b ∷ []) bs cs (λ i. h (suc i))

abbrev last_dot : Bool → List ℕ
last_dot is_fqdn = if is_fqdn then dot ∷ [] else []

built_rest : (before f : Bool) (l : List ℕ) (ls : List (List ℕ)) → IsLabel l → AllByRecursion IsLabel ls → AreByteLabels ls
    → built before Outside l (flat_map dotted ls ++ last_dot f) ≡ name_of f (l ∷ ls)
built_rest before true l [] one all bytes = refl
built_rest before false [] [] one all bytes = let some = one.not_empty in absurd (omega arith)
built_rest before false (b ∷ l) [] one all bytes = refl
built_rest before f l (m ∷ ls) one all bytes =
    let more = flat_map dotted ls in
    ap (λ (x : List ℕ). after_label l (built true Outside [] x)) (append_assoc (label_text m) more (last_dot f))
    ∙ ap (after_label l) (built_label true m (more ++ last_dot f) bytes.0 ∙ built_rest true f m ls all.0 all.1 bytes.1)

name_from_text : (f : Bool) (ls : List (List ℕ)) → AllByRecursion IsLabel ls → AreByteLabels ls → name_from (name_text (name_of f ls)) ≡ name_of f ls
name_from_text true [] all bytes = refl
name_from_text false [] all bytes = refl
name_from_text f ([] ∷ ls) all bytes = let some = all.0.not_empty in absurd (omega arith)
name_from_text f ((b ∷ l) ∷ ls) all bytes =
    let more = flat_map dotted ls in
    let text = joined_cons (b ∷ l) ls in
    let built_is : built false Outside [] (name_text (name_of f ((b ∷ l) ∷ ls))) ≡ name_of f ((b ∷ l) ∷ ls) =
    ap (λ (x : List ℕ). built false Outside [] (x ++ last_dot f)) text ∙ ap (built false Outside []) (append_assoc (label_text (b ∷ l)) more (last_dot f))
    ∙ built_label false (b ∷ l) (more ++ last_dot f) bytes.0 ∙ built_rest false f (b ∷ l) ls all.0 all.1 bytes.1 in
    ap (λ (n : NameValue). settled n.is_fqdn n.labels) built_is

pub texts_differ : (n m : NameValue) → AreLabels n.labels → AreLabels m.labels → AreByteLabels n.labels → AreByteLabels m.labels
    → name_text n ≡ name_text m → n ≡ m
texts_differ n m n_are m_are n_bytes m_bytes e =
    sym (name_from_text n.is_fqdn n.labels n_are.each n_bytes) ∙ (ap name_from e ∙ name_from_text m.is_fqdn m.labels m_are.each m_bytes)
