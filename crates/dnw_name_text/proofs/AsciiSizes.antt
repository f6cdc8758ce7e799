-- How long the texts of names are.
use Rattle.std.proofs.Common.{◌≡◌, ℕ, ◌+◌, ◌*◌, ◌≤◌, Bool, true, false, List, [], ◌∷◌, length, map, sum_by, if◌then◌else◌, refl, ap, arith}
use Rattle.std.specs.List.{AllByRecursion, flat_map, join_with_byte}
use Rattle.std.proofs.lemmas.List.{length-append}
use Rattle.std.proofs.lemmas.List.Sums.{sum_by-cons}
use Rattle.dnw_base.specs.Limits.{max_name}
use Rattle.dnw_base.specs.Labels.{IsLabel}
use Rattle.dnw_base.specs.Names.{AreLabels, NameValue, encoded_size}
use Rattle.dnw_base.proofs.Wires.{encoded_size_cons}
use Rattle.dnw_name_form.specs.LabelText.{dot, label_text, byte_text}
use Rattle.dnw_name_text.specs.AsciiText.{max_text, name_text}
use Rattle.dnw_name_text.proofs.Joined.{dotted, joined_cons}

-- four octets for each octet of the labels, and a dot for each of them
abbrev pub text_room : List (List ℕ) → ℕ
text_room ls = sum_by (λ l. 4 * length l + 1) ls

pub text_room_cons : (l : List ℕ) (ls : List (List ℕ)) → text_room (l ∷ ls) ≡ 4 * length l + 1 + text_room ls
text_room_cons l ls = sum_by-cons (λ (m : List ℕ). 4 * length m + 1) l ls

-- The room of a text and the size of a wire form, by the number of labels.
record Sizes (ls : List (List ℕ)) : Type 0 where
  room : text_room ls + 3 * length ls + 4 ≡ 4 * encoded_size ls
  labels : encoded_size ls ≤ 64 * length ls + 1

sizes : (ls : List (List ℕ)) → AllByRecursion IsLabel ls → Sizes ls
sizes [] each = record { room = refl; labels = omega arith }
sizes (l ∷ ls) each =
    let others = sizes ls each.1 in
    record {
      room = omega (arith, others.room, text_room_cons l ls, encoded_size_cons l ls);
      labels = omega (arith, others.labels, each.0.not_long, encoded_size_cons l ls);
    }

pub room_short : (ls : List (List ℕ)) → AllByRecursion IsLabel ls → encoded_size ls ≤ max_name → text_room ls ≤ max_text
room_short ls each fit = let s = sizes ls each in omega (arith, s.room, s.labels, fit)

few_bytes : (first : Bool) (b : ℕ) → length (byte_text first b) ≤ 4
few_bytes first b = grind arith

some_bytes : (first : Bool) (b : ℕ) → 1 ≤ length (byte_text first b)
some_bytes first b = grind arith

few_following : (bs : List ℕ) → length (flat_map (byte_text false) bs) ≤ 4 * length bs
few_following [] = omega arith
few_following (b ∷ bs) = omega (arith, few_bytes false b, few_following bs, length-append (byte_text false b) (flat_map (byte_text false) bs))

few_in_label : (l : List ℕ) → length (label_text l) ≤ 4 * length l
few_in_label [] = omega arith
few_in_label (b ∷ bs) = omega (arith, few_bytes true b, few_following bs, length-append (byte_text true b) (flat_map (byte_text false) bs))

some_in_label : (l : List ℕ) → IsLabel l → 1 ≤ length (label_text l)
some_in_label [] h = absurd (omega (arith, h.not_empty))
some_in_label (b ∷ bs) h = omega (arith, some_bytes true b, length-append (byte_text true b) (flat_map (byte_text false) bs))

few_dotted : (ls : List (List ℕ)) → length (flat_map dotted ls) ≤ text_room ls
few_dotted [] = omega arith
few_dotted (l ∷ ls) = omega (arith, few_in_label l, few_dotted ls, text_room_cons l ls, length-append (dotted l) (flat_map dotted ls))

-- the text of a name with labels is that of the first, those of the others after dots, and maybe a last dot
length_text : (is_fqdn : Bool) (l : List ℕ) (ls : List (List ℕ)) → length (name_text (record { is_fqdn = is_fqdn; labels = l ∷ ls }))
    ≡ length (label_text l) + length (flat_map dotted ls) + (if is_fqdn then 1 else 0)
length_text true l ls = omega (arith, length-append (join_with_byte dot (map label_text (l ∷ ls))) (dot ∷ []), ap length (joined_cons l ls), length-append (label_text l) (flat_map dotted ls))
length_text false l ls = omega (arith, length-append (join_with_byte dot (map label_text (l ∷ ls))) [], ap length (joined_cons l ls), length-append (label_text l) (flat_map dotted ls))

at_most_one : (b : Bool) → (if b then 1 else 0) ≤ 1
at_most_one b = grind arith

short : (is_fqdn : Bool) (ls : List (List ℕ)) → AreLabels ls → length (name_text (record { is_fqdn = is_fqdn; labels = ls })) ≤ max_text
short true [] h = omega arith
short false [] h = omega arith
short is_fqdn (l ∷ ls) h =
    omega (arith, length_text is_fqdn l ls, at_most_one is_fqdn, few_in_label l, few_dotted ls, text_room_cons l ls, room_short (l ∷ ls) h.each h.fit)

some : (is_fqdn : Bool) (ls : List (List ℕ)) → AreLabels ls → (ls ≡ [] → is_fqdn ≡ true) → 1 ≤ length (name_text (record { is_fqdn = is_fqdn; labels = ls }))
some true [] h named = omega arith
some false [] h named = let e = named refl in absurd cc
some is_fqdn (l ∷ ls) h named = omega (arith, length_text is_fqdn l ls, some_in_label l h.each.0)

pub texts_are_short : (n : NameValue) → AreLabels n.labels → length (name_text n) ≤ max_text
texts_are_short n h = short n.is_fqdn n.labels h

-- Only the relative name without labels has the empty text.
pub some_text : (n : NameValue) → AreLabels n.labels → (n.labels ≡ [] → n.is_fqdn ≡ true) → 1 ≤ length (name_text n)
some_text n h named = some n.is_fqdn n.labels h named
