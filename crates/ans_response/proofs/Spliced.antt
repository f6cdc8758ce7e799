-- The wire form of a name with a target in place of its last labels.
use Rattle.std.proofs.Common.{◌≡◌, ℕ, ◌+◌, ◌-◌, ◌<◌, ◌≤◌, true, false, nat_le, List, [], ◌∷◌, ◌++◌, length, take, drop, map, Some, None, refl, sym, ap, ◌∙◌, subst, zero-add, arith}
use Rattle.std.proofs.lemmas.Bool.Decides.{nat_tests}
use Rattle.std.proofs.lemmas.Grind.{flat_map-append}
use Rattle.std.proofs.lemmas.List.{append_assoc, length-append, length-map, take-append-drop, take_at}
use Rattle.std.proofs.lemmas.List.Sums.{sum_by-append, sum_by-cons}
use Rattle.std.specs.Char.{to_ascii_lowercase}
use Rattle.std.specs.List.{AllByRecursion, sum_by}
use Rattle.dns_names_wire.specs.Words.{AreLabels, IsLabel, NameAt, ReadsBack, encoded_size, labels_wire, lower, max_name, put, wire}
use Rattle.ans_response.specs.Meanings.{is_strictly_below, substituted}
use Rattle.ans_response.proofs.Zones.{last_lower}

-- ---- sizes

lower_size : (ls : List (List ℕ)) → sum_by (λ (l : List ℕ). length l + 1) (lower ls) ≡ sum_by (λ (l : List ℕ). length l + 1) ls
lower_size [] = refl
lower_size (l ∷ ls) =
    omega (arith, lower_size ls, length-map l to_ascii_lowercase, sum_by-cons (λ (m : List ℕ). length m + 1) l ls, sum_by-cons (λ (m : List ℕ). length m + 1) (map to_ascii_lowercase l) (lower ls))

same_size : (x y : List (List ℕ)) → lower x ≡ lower y → encoded_size x ≡ encoded_size y
same_size x y h = omega (arith, lower_size x, lower_size y, ap (sum_by (λ (l : List ℕ). length l + 1)) h)

labels_size : (ls : List (List ℕ)) → length (labels_wire ls) + 1 ≡ encoded_size ls
labels_size [] = refl
labels_size (l ∷ ls) = omega (arith, labels_size ls, length-append (length l ∷ l) (labels_wire ls), sum_by-cons (λ (m : List ℕ). length m + 1) l ls)

pub spliced_size : (front target : List (List ℕ)) → encoded_size (front ++ target) ≡ length (labels_wire front) + encoded_size target
spliced_size front target = omega (arith, labels_size front, sum_by-append (λ (l : List ℕ). length l + 1) front target)

regroup : (a b rest : List ℕ) → ((a ++ b) ++ 0 ∷ []) ++ rest ≡ a ++ ((b ++ 0 ∷ []) ++ rest)
regroup a b rest = simp append_assoc

-- ---- labels of a name

each_front : (a b : List (List ℕ)) → AllByRecursion IsLabel (a ++ b) → AllByRecursion IsLabel a
each_front [] b h = tt
each_front (l ∷ a) b h = (h.0, each_front a b h.1)

each_both : (a b : List (List ℕ)) → AllByRecursion IsLabel a → AllByRecursion IsLabel b → AllByRecursion IsLabel (a ++ b)
each_both [] b h g = g
each_both (l ∷ a) b h g = (h.0, each_both a b h.1 g)

-- ---- a name below an owner

module _ (owner target name : List (List ℕ)) (below : is_strictly_below owner name ≡ true) where
  abbrev pub front : List (List ℕ)
  front = take (length name - length owner) name

  abbrev back : List (List ℕ)
  back = drop (length name - length owner) name

  parts : name ≡ front ++ back
  parts = sym (take-append-drop (length name - length owner) name)

  back_size : encoded_size back ≡ encoded_size owner
  back_size = same_size back owner (last_lower owner name below)

  pub owner_fits : encoded_size owner ≤ encoded_size name
  owner_fits = omega (arith, ap encoded_size parts, spliced_size front back, back_size)

  pub kept_long : (kept : ℕ) → kept + encoded_size owner ≡ encoded_size name → length (labels_wire front) ≡ kept
  kept_long kept is = omega (arith, ap encoded_size parts, spliced_size front back, back_size)

  front_wire : (kept : ℕ) (rest : List ℕ) → length (labels_wire front) ≡ kept → take kept (wire name ++ rest) ≡ labels_wire front
  front_wire kept rest long =
      ap (λ (n : List (List ℕ)). take kept (wire n ++ rest)) parts
      ∙ (ap (λ (os : List ℕ). take kept ((os ++ 0 ∷ []) ++ rest)) (flat_map-append (λ (l : List ℕ). length l ∷ l) front back)
      ∙ (ap (take kept) (regroup (labels_wire front) (labels_wire back) rest)
      ∙ take_at (labels_wire front) ((labels_wire back ++ 0 ∷ []) ++ rest) kept long))

  -- What is put after the front of a name's wire form.
  pub spliced_octets : (kept : ℕ) (room out octets : List ℕ) → kept + encoded_size owner ≡ encoded_size name → out ≡ put room (wire name)
      → octets ≡ take kept out ++ put (drop kept out) (wire target)
      → octets ≡ labels_wire front ++ (wire target ++ drop (length (wire target)) (drop kept out))
  spliced_octets kept room out octets size filled is =
      is ∙ ap (λ (os : List ℕ). os ++ (wire target ++ drop (length (wire target)) (drop kept out)))
      (ap (take kept) filled ∙ front_wire kept (drop (length (wire name)) room) (kept_long kept size))

  spliced_wire : (more : List ℕ) → labels_wire front ++ (wire target ++ more) ≡ wire (front ++ target) ++ more
  spliced_wire more =
      sym (ap (λ (os : List ℕ). (os ++ 0 ∷ []) ++ more) (flat_map-append (λ (l : List ℕ). length l ∷ l) front target) ∙ simp append_assoc)

  pub spliced_labels : AreLabels name → AreLabels target → encoded_size (front ++ target) ≤ max_name → AreLabels (front ++ target)
  spliced_labels own its fits = record {
    each = each_both front target (each_front front back (subst (λ (n : List (List ℕ)). AllByRecursion IsLabel n) parts own.each)) its.each;
    fit = fits;
  }

  pub spliced_read : (octets more : List ℕ) → ReadsBack → AreLabels (front ++ target) → octets ≡ labels_wire front ++ (wire target ++ more)
      → NameAt octets 0 (front ++ target) (encoded_size (front ++ target)) 0
  spliced_read octets more back_read are is =
      subst (λ n. NameAt octets 0 (front ++ target) n 0) (zero-add (encoded_size (front ++ target)))
      (subst (λ (os : List ℕ). NameAt os 0 (front ++ target) (0 + encoded_size (front ++ target)) 0) (sym (is ∙ spliced_wire more)) (back_read [] more (front ++ target) are))

  fits_test : (a b : ℕ) → a ≤ b → nat_le a b ≡ true
  fits_test a b h = grind (arith, nat_tests)

  fails_test : (a b : ℕ) → b < a → nat_le a b ≡ false
  fails_test a b h = grind (arith, nat_tests)

  pub substituted_some : encoded_size (front ++ target) ≤ max_name → Some (front ++ target) ≡ substituted owner target name
  unfolding substituted
  substituted_some h = rw (fits_test (encoded_size (front ++ target)) max_name h) refl

  pub substituted_none : max_name < encoded_size (front ++ target) → None ≡ substituted owner target name
  unfolding substituted
  substituted_none h = rw (fails_test (encoded_size (front ++ target)) max_name h) refl
