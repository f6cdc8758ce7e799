-- The octets of a set of records depend on the set alone.
use Rattle.std.proofs.Common.{◌≡◌, ℕ, List, ◌++◌, sym, ap, ◌∙◌, subst}
use Rattle.std.proofs.lemmas.Cmp.{nat_list_cmp_total}
use Rattle.std.proofs.lemmas.List.Elements.{All-contains, All-from_recursion}
use Rattle.std.proofs.lemmas.List.Sorted.{Contains-permutation, IsPermutation-sym}
use Rattle.std.proofs.lemmas.Map.Lookups.{exact_bytes}
use Rattle.std.specs.Int.{w16, w32, to_be_bytes}
use Rattle.std.specs.List.{Any, Contains, flat_map}
use Rattle.std.specs.List.Sorted.{IsPermutation}
use Rattle.dnw_base.specs.RecordTypes.{type_code}
use Rattle.dnw_base.specs.DnsClasses.{class_code}
use Rattle.dnw_base.specs.Names.{lower, wire}
use Rattle.dnw_record.specs.declared.record.Record.{Record}
use Rattle.dnw_signed.specs.CanonicalLaws.{AreAmong, DependsOnSet, IsLike, KeepsInAnyOrder}
use Rattle.dnw_signed.specs.RecordSets.{AreCanonical, IsMember, IsOfSet, IsRecordSet, IsSet, set_head, set_record, signed_owner}
use Rattle.dnw_signed.proofs.OneForm.{canonical_like, canonical_one, has_octets, of_record}
use Rattle.dnw_signed.proofs.Sets.{first_of, same_elements}

-- octets of these are octets of those
abbrev Within : List (List ℕ) → List (List ℕ) → Type 0
Within all others = (octets : List ℕ) → Contains all octets → Contains others octets

-- the same owner in lower case, type and class make the same beginning
same_head : (first other : Record) (labels ttl : ℕ) → IsOfSet other first → set_head first labels ttl ≡ set_head other labels ttl
same_head first other labels ttl same =
    ap (λ ls. wire (signed_owner ls labels) ++ (to_be_bytes w16 (type_code first.data.record_type) ++ (to_be_bytes w16 (class_code first.data.class) ++ to_be_bytes w32 ttl))) same.owner
    ∙ ap (λ n. wire (signed_owner (lower other.name.labels) labels) ++ (to_be_bytes w16 n ++ (to_be_bytes w16 (class_code first.data.class) ++ to_be_bytes w32 ttl))) same.kind
    ∙ ap (λ n. wire (signed_owner (lower other.name.labels) labels) ++ (to_be_bytes w16 (type_code other.data.record_type) ++ (to_be_bytes w16 n ++ to_be_bytes w32 ttl))) same.class

same_sets : (records others : List Record) (labels ttl : ℕ) (a b : List ℕ) (s : IsRecordSet records labels ttl a) (t : IsRecordSet others labels ttl b)
    → IsOfSet t.first s.first → Within s.all t.all → Within t.all s.all → a ≡ b
same_sets records others labels ttl a b s t head to back =
    let sorted = same_elements nat_list_cmp_total exact_bytes s.sorted t.sorted s.in_order.ascend t.in_order.ascend
    (λ octets h. t.in_order.every octets (to octets (s.in_order.each octets h)))
    (λ octets h. s.in_order.every octets (back octets (t.in_order.each octets h))) in
    s.joined ∙ ap (λ h. flat_map (set_record h) s.sorted) (same_head s.first t.first labels ttl head)
    ∙ ap (λ xs. flat_map (set_record (set_head t.first labels ttl)) xs) sorted ∙ sym t.joined

first_in : (records : List Record) (first : Record) (labels : ℕ) → IsSet records first labels → Contains records first
first_in records first labels s = subst (λ rs. Contains rs first) (sym s.begins) (first_of first s.others)

member_of : (records : List Record) (first r : Record) (labels : ℕ) → IsSet records first labels → Contains records r → IsMember first r
member_of records first r labels s h = All-contains (IsMember first) records r (All-from_recursion (IsMember first) records s.members) h

-- ---- records that are alike

within : (records others : List Record) (all more : List (List ℕ)) → AreAmong records others → AreCanonical records all → AreCanonical others more → Within all more
within records others all more among each each' octets h =
    let (r, has, of) = of_record records all octets each h in
    let (k, s, less, at, like) = All-contains (λ x. Any (IsLike x) others) records r among has in
    let (octets', has', of') = has_octets others more s each' (k, less, at) in
    subst (Contains more) (sym (canonical_like r.data s.data octets octets' like.1 of of')) has'

join_sets : (a b c : Record) → IsOfSet a b → IsOfSet c b → IsOfSet c a
join_sets a b c one two =
    record { owner = sym one.owner ∙ two.owner; kind = sym one.kind ∙ two.kind; class = sym one.class ∙ two.class }

pub depends_on_set : DependsOnSet
depends_on_set records others labels ttl a b among back s t =
    let (k, r, less, at, like) = All-contains (λ x. Any (IsLike x) others) records s.first among (first_in records s.first labels s.set) in
    let member = member_of others t.first r labels t.set (k, less, at) in
    same_sets records others labels ttl a b s t (join_sets s.first r t.first like.0 member.0)
    (within records others s.all t.all among s.canonical t.canonical) (within others records t.all s.all back t.canonical s.canonical)

-- ---- records in another order

moved : (records others : List Record) (all more : List (List ℕ)) → IsPermutation records others → AreCanonical records all → AreCanonical others more → Within all more
moved records others all more p each each' octets h =
    let (r, has, of) = of_record records all octets each h in
    let (octets', has', of') = has_octets others more r each' (Contains-permutation records others r p has) in
    subst (Contains more) (sym (canonical_one r.data octets octets' of of')) has'

pub keeps_in_any_order : KeepsInAnyOrder
keeps_in_any_order records others labels ttl a b p s t =
    let member = member_of others t.first s.first labels t.set (Contains-permutation records others s.first p (first_in records s.first labels s.set)) in
    same_sets records others labels ttl a b s t member.0
    (moved records others s.all t.all p s.canonical t.canonical) (moved others records t.all s.all (IsPermutation-sym records others p) t.canonical s.canonical)
