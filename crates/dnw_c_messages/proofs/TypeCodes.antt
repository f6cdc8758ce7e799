-- The types of a list of codes, and what a set is made of.
use Rattle.std.proofs.Common.{◌≡◌, ◌≤◌, ◌<◌, ℕ, List, [], ◌∷◌, length, sym, ◌∙◌, refl, arith}
use Rattle.std.specs.Iterator.{Drains}
use Rattle.std.specs.Vec.Iter.{into_iter_items, into_iter_len, into_iter_steps}
use Rattle.std.specs.declared.vec.IntoIter.{IntoIter}
use Rattle.std.proofs.lemmas.Iterator.{items_from_drains}
use Rattle.std.proofs.lemmas.Iterator.Adapters.{YieldsList-from_vec}
use Rattle.std.proofs.lemmas.List.{map-id}
use Rattle.dnw_base.specs.declared.record_type.RecordType.{RecordType}
use Rattle.dnw_data.specs.TypeSets.{IsSetOf, bitmap_types, windows_of}

-- the iterator of a vector gives its elements
pub vec_gave : {A Z : Type 0} (it : IntoIter A Z) (all xs : List A) → into_iter_items it ≡ all → into_iter_len it ≡ length all
    → Drains into_iter_steps it xs → xs ≡ all
vec_gave it all xs items len (rest, (last, yielded, ended)) =
    sym (map-id xs) ∙ items_from_drains xs (last, yielded, λ _. (rest, ended)) (YieldsList-from_vec all items len)

-- a bitmap that lists a type has an octet
pub listed_some : (bitmap : List ℕ) (types : List RecordType) → IsSetOf (bitmap_types bitmap) types → 1 ≤ length types → 1 ≤ length bitmap
unfolding windows_of
listed_some [] [] set some = absurd (omega arith)
listed_some [] (kind ∷ types) set some =
    let (k, below, is) = set.no_others kind (0, omega arith, refl) in
    let never : k < 0 = below in
    absurd (omega arith)
listed_some (octet ∷ bitmap) types set some = omega arith
