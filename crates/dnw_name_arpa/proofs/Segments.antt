-- The nibbles of segments.
use Rattle.std.proofs.Common.{◌≡◌, ℕ, List, [], ◌∷◌, ◌++◌, map, reverse, refl, ap, ◌∙◌}
use Rattle.std.proofs.lemmas.List.{reverse-append, map-append}
use Rattle.dnw_name_arpa.specs.Arpa.{nibbles, value_label}
use Rattle.dnw_name_arpa.specs.declared.reading.Family.TheVariants.{Ipv6}

pub nibbles_append : (xs ys : List ℕ) → nibbles (xs ++ ys) ≡ nibbles xs ++ nibbles ys
nibbles_append [] ys = refl
nibbles_append (x ∷ xs) ys = rw (nibbles_append xs ys) refl

-- the labels of segments, the last one first
abbrev pub labels_of : List ℕ → List (List ℕ)
labels_of segments = map (value_label Ipv6) (reverse (nibbles segments))

pub last_segment : (front : List ℕ) (last : ℕ) → labels_of (front ++ last ∷ []) ≡ labels_of (last ∷ []) ++ labels_of front
last_segment front last =
    ap (λ (vs : List ℕ). map (value_label Ipv6) (reverse vs)) (nibbles_append front (last ∷ []))
    ∙ ap (map (value_label Ipv6)) (reverse-append (nibbles front) (nibbles (last ∷ [])))
    ∙ map-append (value_label Ipv6) (reverse (nibbles (last ∷ []))) (reverse (nibbles front))
