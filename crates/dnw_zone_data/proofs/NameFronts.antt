-- Octets that begin with the wire form of a name.
use Rattle.std.proofs.Common.{◌≡◌, ◌≢◌, ◌+◌, ℕ, List, [], ◌∷◌, ◌++◌, length, drop, refl, sym, ap, ◌∙◌, subst, arith, append_assoc}
use Rattle.std.specs.Prelude.{flat_map}
use Rattle.std.specs.List.{AllByRecursion}
use Rattle.std.proofs.lemmas.List.{drop_at}
use Rattle.dnw_base.specs.Decoder.{Decoder}
use Rattle.dnw_base.specs.Names.{AreLabels, encoded_size, wire}
use Rattle.dnw_name_read.specs.Reading.{NameAt, TakesName}
use Rattle.dnw_name_read.proofs.Back.{reads_back}
use Rattle.dnw_name_read.proofs.Unique.{Reads_unique}
use Rattle.dnw_zone_data.specs.NameLists.{PrintsNames}

first_at : (octets : List ℕ) (labels : List (List ℕ)) (rest : List ℕ) → AreLabels labels → octets ≡ wire labels ++ rest → NameAt octets 0 labels (encoded_size labels) 0
first_at octets labels rest are e =
    let same : 0 + encoded_size labels ≡ encoded_size labels = omega arith in
    let here = subst (λ (n : ℕ). NameAt (wire labels ++ rest) 0 labels n 0) same (reads_back [] rest labels are) in
    subst (λ (b : List ℕ). NameAt b 0 labels (encoded_size labels) 0) (sym e) here

-- where a decoder is after such a name
abbrev pub past : List ℕ → List (List ℕ) → Decoder
past octets labels = record { bytes = octets; index = encoded_size labels }

-- such a name is read
pub reads_first : (octets : List ℕ) (labels : List (List ℕ)) (rest : List ℕ) (d : Decoder) → d ≡ record { bytes = octets; index = 0 } → AreLabels labels → octets ≡ wire labels ++ rest
    → TakesName d (past octets labels) labels 0
reads_first octets labels rest d start are e =
    let takes : TakesName (record { bytes = octets; index = 0 }) (past octets labels) labels 0 =
    record { end = encoded_size labels; name = first_at octets labels rest are e; moved = refl } in
    subst (λ (x : Decoder). TakesName x (past octets labels) labels 0) (sym start) takes

-- octets begin with one name at most
pub one_front : (octets : List ℕ) (ls ms : List (List ℕ)) (x y : List ℕ) → AreLabels ls → AreLabels ms → octets ≡ wire ls ++ x → octets ≡ wire ms ++ y → (ls ≡ ms) × (x ≡ y)
one_front octets ls ms x y are also e f =
    let same : ls ≡ ms = (Reads_unique (first_at octets ls x are e).reads (first_at octets ms y also f).reads).0 in
    let n = length (wire ms) in
    let both : wire ms ++ x ≡ wire ms ++ y = ap (λ (l : List (List ℕ)). wire l ++ x) (sym same) ∙ sym e ∙ f in
    (same, sym (drop_at (wire ms) x n refl) ∙ ap (drop n) both ∙ drop_at (wire ms) y n refl)

-- a name has an octet at least
no_front : (labels : List (List ℕ)) (rest : List ℕ) → wire labels ++ rest ≡ [] → ⊥
no_front [] rest e = cc
no_front (l ∷ labels) rest e = cc

none_left : (others : List (List (List ℕ))) (left : List ℕ) → left ≢ [] → ((labels : List (List ℕ)) (rest : List ℕ) → AreLabels labels → ¬ (left ≡ wire labels ++ rest))
    → AllByRecursion AreLabels others → left ≡ flat_map wire others → ⊥
none_left [] left some none fine e = some e
none_left (labels ∷ others) left some none fine e = none labels (flat_map wire others) fine.0 e

-- what is left after some of the names are names
left_are : (done listed : List (List (List ℕ))) (left : List ℕ) → AllByRecursion AreLabels done → AllByRecursion AreLabels listed
    → flat_map wire done ++ left ≡ flat_map wire listed → (others : List (List (List ℕ))) × AllByRecursion AreLabels others × (left ≡ flat_map wire others)
left_are [] listed left are also e = (listed, also, e)
left_are (d ∷ done) [] left are also e = absurd (no_front d (flat_map wire done ++ left) (sym (append_assoc (wire d) (flat_map wire done) left) ∙ e))
left_are (d ∷ done) (l ∷ listed) left are also e =
    let whole : wire d ++ (flat_map wire done ++ left) ≡ wire l ++ flat_map wire listed = sym (append_assoc (wire d) (flat_map wire done) left) ∙ e in
    left_are done listed left are.1 also.1 (one_front _ d l _ _ are.0 also.0 refl whole).1

-- octets that begin with no name are no names
pub no_names : (done : List (List (List ℕ))) (own left : List ℕ) → AllByRecursion AreLabels done → own ≡ flat_map wire done ++ left → left ≢ []
    → ((labels : List (List ℕ)) (rest : List ℕ) → AreLabels labels → ¬ (left ≡ wire labels ++ rest)) → (text : List ℕ) → ¬ (PrintsNames own text)
no_names done own left are so_far some none text (listed, also, e, p) =
    let (others, fine, rest) = left_are done listed left are also (sym so_far ∙ e) in none_left others left some none fine rest

pub all_and : (done : List (List (List ℕ))) (labels : List (List ℕ)) → AllByRecursion AreLabels done → AreLabels labels → AllByRecursion AreLabels (done ++ labels ∷ [])
all_and [] labels all is = (is, tt)
all_and (d ∷ done) labels all is = (all.0, all_and done labels all.1 is)
