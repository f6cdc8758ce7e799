-- The names of a list, read one by one, and their sort keys.
use Rattle.std.proofs.Common.{◌≡◌, ◌≢◌, ℕ, ◌+◌, ◌<◌, ◌≤◌, List, [], ◌∷◌, ◌++◌, ◌⊎◌, inl, inr, length, map, refl, sym, ap, subst, ◌∙◌, arith}
use Rattle.std.proofs.lemmas.List.{append-nil, append_assoc, map-append}
use Rattle.dnw_base.specs.Decoder.{Decoder}
use Rattle.dnw_base.specs.Limits.{max_pointers}
use Rattle.dnw_name_order.specs.SortKeys.{sort_key}
use Rattle.dnw_c_names.specs.NameLists.{IsNoNextName, TakesNextName, at_first}
use Rattle.dnw_c_names.specs.SortCalls.{FailsToName, HasNames, StopsNaming, none, more, here, later}
use Rattle.dnw_c_base.specs.declared.failure.Failure.{Failure}
use Rattle.dnw_c_base.specs.declared.failure.Failure.TheVariants.{NoMemory}

-- So many names are read up to the decoder d, and these are their keys.
pub record HasKeyed (list : List ℕ) (d : Decoder) (left : ℕ) (keys : List (List ℕ)) : Type 0 where
  pub done : List (List (List ℕ))
  pub same_list : d.bytes ≡ list
  pub within : d.index ≤ length d.bytes
  pub keyed : keys ≡ map sort_key done
  pub goes_on : (others : List (List (List ℕ))) → HasNames d left others → HasNames (at_first list) max_pointers (done ++ others)
  pub stops_on : (failure : Failure) → StopsNaming d left failure → StopsNaming (at_first list) max_pointers failure

-- none is read yet
pub keyed_none : (list : List ℕ) → HasKeyed list (at_first list) max_pointers []
keyed_none list = record {
  done = [];
  same_list = refl;
  within = omega arith;
  keyed = refl;
  goes_on = λ others rest. rest;
  stops_on = λ failure stops. stops;
}

-- one more name
pub keyed_more : {list : List ℕ} {d next : Decoder} {keys after : List (List ℕ)} {labels : List (List ℕ)} {most left : ℕ}
    → HasKeyed list d most keys → TakesNextName d most labels next left → after ≡ keys ++ sort_key labels ∷ []
    → next.index ≤ length next.bytes → next.bytes ≡ d.bytes → HasKeyed list next left after
keyed_more {list} {d} {next} {labels = labels} {most = most} {left = left} h takes added within bytes = record {
  done = h.done ++ labels ∷ [];
  same_list = bytes ∙ h.same_list;
  within = within;
  keyed = added ∙ (ap (λ (l : List (List ℕ)). l ++ sort_key labels ∷ []) h.keyed ∙ sym (map-append sort_key h.done (labels ∷ [])));
  goes_on = λ others rest.
      subst (HasNames (at_first list) max_pointers) (sym (append_assoc h.done (labels ∷ []) others))
      (h.goes_on (labels ∷ others) (more d next most left labels others takes rest));
  stops_on = λ failure stops. h.stops_on failure (later d next most left labels failure takes stops);
}

-- none is left
pub keyed_all : {list : List ℕ} {d : Decoder} {left : ℕ} {keys : List (List ℕ)} (h : HasKeyed list d left keys)
    → d.index ≡ length d.bytes → HasNames (at_first list) max_pointers h.done
keyed_all {list} {d} {left} h ends = subst (HasNames (at_first list) max_pointers) (append-nil h.done) (h.goes_on [] (none d left ends))

-- one that is left is no name
keyed_no_more : {list : List ℕ} {d : Decoder} {most : ℕ} {keys : List (List ℕ)} {failure : Failure}
    → HasKeyed list d most keys → d.index ≢ length d.bytes → IsNoNextName d most failure → StopsNaming (at_first list) max_pointers failure
keyed_no_more {d = d} {most = most} {failure = failure} h left fails =
    let within = h.within in
    let before : d.index < length d.bytes = omega (arith, left) in
    h.stops_on failure (here d most failure before fails)

-- one that is left is not pushed
pub keyed_fails : {list : List ℕ} {d : Decoder} {most : ℕ} {keys : List (List ℕ)} {failure : Failure}
    → HasKeyed list d most keys → d.index ≢ length d.bytes → IsNoNextName d most failure ⊎ (failure ≡ NoMemory) → FailsToName list failure
keyed_fails h left (inl unread) = inl (keyed_no_more h left unread)
keyed_fails {list} {d} h left (inr memory) =
    let within = h.within in
    let some : 1 ≤ length list = omega (arith, left, within, ap length h.same_list) in
    inr (some, memory)
