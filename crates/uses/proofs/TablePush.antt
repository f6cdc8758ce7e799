-- A table with one name more.
use Rattle.std.proofs.Common.{◌≡◌, ℕ, ◌+◌, ◌≤◌, List, [], ◌∷◌, ◌++◌, length, refl, sym, ap, ◌∙◌, subst, arith}
use Rattle.std.specs.List.{AllByRecursion, flat_map}
use Rattle.std.specs.List.Sorted.{IsStrictlySortedBy}
use Rattle.std.proofs.lemmas.List.{append-nil, length-append}
use Rattle.std.proofs.lemmas.List.Concat.{flat_map-append}
use Rattle.dns_names_wire.specs.Words.{AreLabels, wire}
use Rattle.uses.specs.Inside.TableOctets.{IsTable, names_at, offsets}
use Rattle.uses.specs.Tables.{ComesLast, max_table_octets}
use Rattle.uses.proofs.TableNames.{view_of}
use Rattle.uses.proofs.TableOrder.{sorted_push}

offsets_push : (p : ℕ) (ns : List (List (List ℕ))) (n : List (List ℕ)) → offsets p (ns ++ n ∷ []) ≡ offsets p ns ++ (p + length (flat_map wire ns)) ∷ []
offsets_push p [] n = ap (λ (q : ℕ). q ∷ []) (omega arith)
offsets_push p (m ∷ ns) n =
    let next : p + length (wire m) + length (flat_map wire ns) ≡ p + length (flat_map wire (m ∷ ns)) = omega (arith, length-append (wire m) (flat_map wire ns)) in
    ap (λ (qs : List ℕ). p ∷ qs) (offsets_push (p + length (wire m)) ns n ∙ ap (λ (q : ℕ). offsets (p + length (wire m)) ns ++ q ∷ []) next)

all_push : {X : Type 0} (P : X → Type 0) (xs : List X) (y : X) → AllByRecursion P xs → P y → AllByRecursion P (xs ++ y ∷ [])
all_push P [] y all one = (one, tt)
all_push P (x ∷ xs) y all one = (all.0, all_push P xs y all.1 one)

-- a table without names
pub empty : IsTable [] [] []
unfolding IsStrictlySortedBy
empty = record { octets_are = refl; starts_are = refl; labels = tt; ascend = tt; fits = omega arith }

pushed : (octets starts : List ℕ) (names : List (List (List ℕ))) (n : List (List ℕ)) → IsTable octets starts names → AreLabels n → ComesLast names n
    → length octets + length (wire n) ≤ max_table_octets → IsTable (octets ++ wire n) (starts ++ length octets ∷ []) (names ++ n ∷ [])
pushed octets starts names n table are last room = record {
  octets_are = ap (λ (os : List ℕ). os ++ wire n) table.octets_are ∙ ap (λ (os : List ℕ). flat_map wire names ++ os) (sym (append-nil (wire n)))
      ∙ sym (flat_map-append wire names (n ∷ []));
  starts_are = ap (λ (qs : List ℕ). qs ++ length octets ∷ []) table.starts_are
      ∙ ap (λ (q : ℕ). offsets 0 names ++ q ∷ []) (ap length table.octets_are ∙ omega arith) ∙ sym (offsets_push 0 names n);
  labels = all_push AreLabels names n table.labels are;
  ascend = sorted_push names n table.ascend last;
  fits = omega (arith, room, length-append octets (wire n));
}

-- what a table's vectors are once a name is added
pub with_name : (octets starts more more_starts : List ℕ) (names : List (List (List ℕ))) (n : List (List ℕ))
    → IsTable octets starts (names_at octets starts) → names_at octets starts ≡ names → AreLabels n → ComesLast names n
    → length octets + length (wire n) ≤ max_table_octets → more ≡ octets ++ wire n → more_starts ≡ starts ++ length octets ∷ []
    → IsTable more more_starts (names ++ n ∷ [])
with_name octets starts more more_starts names n table view are last room octets_are starts_are =
    rw (octets_are, starts_are) (pushed octets starts names n (subst (IsTable octets starts) view table) are last room)

-- its view
pub seen : (octets starts : List ℕ) (names : List (List (List ℕ))) → IsTable octets starts names → IsTable octets starts (names_at octets starts)
seen octets starts names table = subst (IsTable octets starts) (sym (view_of octets starts names table)) table
