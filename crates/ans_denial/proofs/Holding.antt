-- What is said of names by records of a zone's chain holds in the zone.
use Rattle.std.proofs.Common.{◌≡◌, ◌&&◌, ℕ, true, false, List, [], ◌∷◌, Option, Some, None, refl, sym, ◌∙◌}
use Rattle.std.proofs.lemmas.Bool.{cond_both}
use Rattle.std.specs.List.{AllByRecursion}
use Rattle.std.specs.Option.{unwrap_or}
use Rattle.dns_names_wire.specs.Words.{KeysCompare, ZonesBegin, is_in, is_same, lower, ns_code, soa_code}
use Rattle.ans_store.proofs.Names.{in_if_same, lower_if_same}
use Rattle.ans_store.specs.Zones.{IsZone, ZoneValue, name_exists, owned_by}
use Rattle.ans_answer.specs.Outcomes.{encloser, sent_above}
use Rattle.ans_denial.specs.Chains.{IsOfChain, is_due}
use Rattle.ans_denial.specs.Nsecs.{Empty, Existence, Missing, NsecValue, Owns, Unknown, closest, covered, covers, existence, said_by, sends_below}
use Rattle.ans_denial.specs.Soundness.{Remains}
use Rattle.ans_denial.proofs.Sending.{delegation_alike, nothing_owned, owned_alike, sent_above_alike}
use Rattle.ans_denial.proofs.Covering.{AreTypesOf, chain_types, encloser_is, exists_below, free, owner_exists, owns_nothing}

-- No name above sends it away, it owns records, and these types are listed.
pub record IsOwner (zone : ZoneValue) (name : List (List ℕ)) (types : List ℕ) : Type 0 where
  pub not_sent : sent_above zone name ≡ None
  pub there : name_exists name zone.records ≡ true
  pub are : AreTypesOf zone name types

-- No name above sends it away, and it exists without records.
pub record IsEmptyName (zone : ZoneValue) (name : List (List ℕ)) : Type 0 where
  pub not_sent : sent_above zone name ≡ None
  pub there : name_exists name zone.records ≡ true
  pub owned : owned_by name zone.records ≡ []

-- No name above sends it away, it does not exist, and this is the closest encloser.
pub record IsMissing (zone : ZoneValue) (name closest : List (List ℕ)) : Type 0 where
  pub not_sent : sent_above zone name ≡ None
  pub gone : name_exists name zone.records ≡ false
  pub above : encloser zone name ≡ closest

abbrev pub Holds : ZoneValue → List (List ℕ) → Existence → Type 0
Holds zone name (Unknown reason) = Remains zone name reason
Holds zone name (Owns types) = IsOwner zone name types
Holds zone name Empty = IsEmptyName zone name
Holds zone name (Missing closest) = IsMissing zone name closest

abbrev HoldsIfSome : ZoneValue → List (List ℕ) → Option Existence → Type 0
HoldsIfSome zone name None = Unit {0}
HoldsIfSome zone name (Some e) = Holds zone name e

-- ---- the record of a name

pub due_alike : (zone : ZoneValue) (x y : List (List ℕ)) (code : ℕ) → lower x ≡ lower y → is_due zone x code ≡ is_due zone y code
unfolding is_due
due_alike zone x y code h = rw (owned_alike x y zone.records h, delegation_alike zone x y h) refl

pub types_alike : (zone : ZoneValue) (x y : List (List ℕ)) (types : List ℕ) → lower x ≡ lower y → AreTypesOf zone x types → AreTypesOf zone y types
types_alike zone x y types h are = record {
  all = λ code due. are.all code (due_alike zone x y code h ∙ due);
  only_ns = are.only_ns ∙ due_alike zone x y ns_code h;
  only_soa = are.only_soa ∙ due_alike zone x y soa_code h;
}

own_holds : (zone : ZoneValue) (nsec : NsecValue) (name : List (List ℕ)) → IsOfChain zone nsec → is_same nsec.owner name ≡ true → IsOwner zone name nsec.types
own_holds zone nsec name link same =
    let lowered = lower_if_same nsec.owner name same in
    record {
      not_sent = sent_above_alike zone name nsec.owner (sym lowered) ∙ link.owner.not_sent;
      there = owner_exists name nsec.owner zone.records (in_if_same name nsec.owner same) link.owner.owns;
      are = types_alike zone nsec.owner name nsec.types lowered (chain_types zone nsec link);
    }

-- ---- the record that covers a name

module _ (compare : KeysCompare) (begin : ZonesBegin) (zone : ZoneValue) (ok : IsZone zone) where
  module _ (nsec : NsecValue) (link : IsOfChain zone nsec) (name : List (List ℕ)) where
    covered_holds : covers nsec name ≡ true → Holds zone name (covered nsec name)
    unfolding covered
    covered_holds cov =
        cond_both (is_in nsec.owner name && sends_below nsec.types) _ _ (Holds zone name) (λ _. tt)
        (λ speaks. cond_both (is_in name nsec.next) Empty (Missing (closest nsec name)) (Holds zone name)
        (λ below. record {
          not_sent = free compare begin zone ok nsec link name cov speaks;
          there = exists_below compare begin zone ok nsec link name cov speaks ∙ below;
          owned = nothing_owned name zone.records (owns_nothing compare begin zone ok nsec link name cov speaks);
        })
        (λ none. let gone = exists_below compare begin zone ok nsec link name cov speaks ∙ none in
        record {
          not_sent = free compare begin zone ok nsec link name cov speaks;
          gone = gone;
          above = encloser_is compare begin zone ok nsec link name cov speaks gone;
        }))

    said_holds : HoldsIfSome zone name (said_by nsec name)
    unfolding said_by
    said_holds =
        cond_both (is_same nsec.owner name) (Some (Owns nsec.types)) _ (HoldsIfSome zone name) (own_holds zone nsec name link)
        (λ _. cond_both (covers nsec name) (Some (covered nsec name)) None (HoldsIfSome zone name) covered_holds (λ _. tt))

  either_holds : (name : List (List ℕ)) (o : Option Existence) (e : Existence) → HoldsIfSome zone name o → Holds zone name e → Holds zone name (unwrap_or o e)
  either_holds name None e a b = b
  either_holds name (Some x) e a b = a

  pub existence_holds : (nsecs : List NsecValue) (name : List (List ℕ)) → AllByRecursion (IsOfChain zone) nsecs → Holds zone name (existence nsecs name)
  unfolding existence
  existence_holds [] name all = tt
  existence_holds (nsec ∷ nsecs) name (link, all) =
      either_holds name (said_by nsec name) (existence nsecs name) (said_holds nsec link name) (existence_holds nsecs name all)
