-- One more item that is joined to others.
use Rattle.std.proofs.Common.{◌≡◌, ℕ, ◌+◌, ◌≤◌, false, true≢false, List, [], ◌∷◌, ◌++◌, length, map, Result, Ok, Err, refl, sym, ap, ◌∙◌, arith, length-append}
use Rattle.std.specs.Result.{is_ok, IsErr}
use Rattle.std.specs.List.{list_all}
use Rattle.dnw_base.specs.declared.error.ProtoError.{ProtoError}
use Rattle.dnw_base.specs.declared.error.ProtoError.TheVariants.{Memory}
use Rattle.dnw_base.specs.Fault.{Fault, FailsOr, Follows, ◌>>=◌}
use Rattle.dnw_name_form.specs.Edits.{made, with_label, with_labels}
use Rattle.dnw_name.specs.Inside.Joined.{HasJoined}
use Rattle.dnw_name.specs.declared.name.joining.Joining.{Joining}

made_push : (items : List (Result (List ℕ) Fault)) (l : List ℕ) → made (items ++ Ok l ∷ []) ≡ made items ++ l ∷ []
made_push [] l = refl
made_push (Ok k ∷ items) l = ap (λ (ls : List (List ℕ)). k ∷ ls) (made_push items l)
made_push (Err fault ∷ items) l = made_push items l

made_length : (items : List (Result (List ℕ) Fault)) (l : List ℕ) → length (made (items ++ Ok l ∷ [])) ≡ length (made items) + 1
made_length items l = ap length (made_push items l) ∙ length-append (made items) (l ∷ [])

made_fault : (items : List (Result (List ℕ) Fault)) (fault : Fault) → made (items ++ Err fault ∷ []) ≡ made items
made_fault [] fault = refl
made_fault (Ok k ∷ items) fault = ap (λ (ls : List (List ℕ)). k ∷ ls) (made_fault items fault)
made_fault (Err other ∷ items) fault = made_fault items fault

all_made_lem : (items : List (Result (List ℕ) Fault)) (l : List ℕ) → list_all is_ok (items ++ Ok l ∷ []) ≡ list_all is_ok items
all_made_lem [] l = refl
all_made_lem (Ok k ∷ items) l = all_made_lem items l
all_made_lem (Err fault ∷ items) l = refl

all_fault : (items : List (Result (List ℕ) Fault)) (fault : Fault) → list_all is_ok (items ++ Err fault ∷ []) ≡ false
all_fault [] fault = refl
all_fault (Ok k ∷ items) fault = all_fault items fault
all_fault (Err other ∷ items) fault = refl

bind_Ok : {A : Type 0} (r : Result A Fault) → (r >>= Ok) ≡ r
bind_Ok (Ok x) = refl
bind_Ok (Err fault) = refl

bind_assoc : {A B C : Type 0} (r : Result A Fault) (f : A → Result B Fault) (g : B → Result C Fault) → ((r >>= f) >>= g) ≡ (r >>= (λ x. f x >>= g))
bind_assoc (Ok x) f g = refl
bind_assoc (Err fault) f g = refl

bind_each : {A B : Type 0} (r : Result A Fault) (f g : A → Result B Fault) → ((x : A) → f x ≡ g x) → (r >>= f) ≡ (r >>= g)
bind_each (Ok x) f g same = same x
bind_each (Err fault) f g same = refl

with_labels_push : (ls more : List (List ℕ)) (l : List ℕ) → with_labels ls (more ++ l ∷ []) ≡ (with_labels ls more >>= (λ longer. with_label longer l))
with_labels_push ls [] l = bind_Ok (with_label ls l)
with_labels_push ls (k ∷ more) l =
    bind_each (with_label ls k) (λ longer. with_labels longer (more ++ l ∷ [])) (λ longer. with_labels longer more >>= (λ all. with_label all l)) (λ longer. with_labels_push longer more l)
    ∙ sym (bind_assoc (with_label ls k) (λ longer. with_labels longer more) (λ all. with_label all l))

joined_push : (items : List (Result (List ℕ) Fault)) (l : List ℕ) → with_labels [] (made (items ++ Ok l ∷ [])) ≡ (with_labels [] (made items) >>= (λ longer. with_label longer l))
joined_push items l = ap (with_labels []) (made_push items l) ∙ with_labels_push [] (made items) l

-- what fails before the label fails with it
pub fails_on : {A B : Type 0} (r : Result A Fault) (f : A → Result B Fault) (e : ProtoError) → FailsOr r ⊥ e → FailsOr (r >>= f) ⊥ e
fails_on (Ok x) f Memory h = absurd h
fails_on (Ok x) f e h = absurd h
fails_on (Err fault) f e h = h

-- an item with a label, with which the form goes on
pub HasJoined_label : (j : Joining) (items : List (Result (List ℕ) Fault)) (l : List ℕ) (form : Result (List (List ℕ)) ProtoError) → HasJoined j items
    → Follows (with_labels [] (made items) >>= (λ longer. with_label longer l)) ⊥ form → HasJoined (record j { form = form; made = j.made + 1 }) (items ++ Ok l ∷ [])
HasJoined_label j items l form h now = record {
  count = ap (λ (n : ℕ). n + 1) h.count ∙ sym (made_length items l);
  all = h.all ∙ sym (all_made_lem items l);
  labels = rw (joined_push items l) now;
}

fault_made : (r : Result (List ℕ) Fault) → IsErr r → (items : List (Result (List ℕ) Fault)) → (made (items ++ r ∷ []) ≡ made items) × (list_all is_ok (items ++ r ∷ []) ≡ false)
fault_made (Ok l) h items = absurd (true≢false (sym h))
fault_made (Err fault) h items = (made_fault items fault, all_fault items fault)

-- an item without a label
pub HasJoined_fault : (j : Joining) (r : Result (List ℕ) Fault) (items : List (Result (List ℕ) Fault)) → IsErr r → HasJoined j items → HasJoined (record j { all_made = false }) (items ++ r ∷ [])
HasJoined_fault j r items none h =
    let (same, fault) = fault_made r none items in
    record {
      count = h.count ∙ ap length (sym same);
      all = sym fault;
      labels = rw same h.labels;
    }

pub made_few : {L : Type 0} (label_of : L → Result (List ℕ) Fault) (items : List L) → length (made (map label_of items)) ≤ length items
made_few label_of [] = omega arith
made_few label_of (item ∷ items) = let one = made-one (label_of item) (map label_of items) (length items) (made_few label_of items) in omega (arith, one)
  where
    made-one : (r : Result (List ℕ) Fault) (rs : List (Result (List ℕ) Fault)) (n : ℕ) → length (made rs) ≤ n → length (made (r ∷ rs)) ≤ n + 1
    made-one (Ok l) rs n le = omega arith
    made-one (Err fault) rs n le = omega arith
