-- Records are checked, and their data put into canonical form, one by one.
use Rattle.std.proofs.Common.{◌≡◌, ℕ, ◌-◌, ◌≤◌, Bool, true, false, List, [], ◌∷◌, ◌++◌, length, sym, ap, ◌∙◌, subst, append_assoc, arith}
use Rattle.std.proofs.lemmas.List.{append-nil, length-append}
use Rattle.std.specs.List.{AllByRecursion, flat_map}
use Rattle.dnw_base.specs.Limits.{max_message}
use Rattle.dnw_record.specs.DataPieces.{DataValue}
use Rattle.dnw_record.specs.declared.record.Record.{Record}
use Rattle.dnw_signed.specs.CanonicalData.{IsCanonical}
use Rattle.dnw_signed.specs.RecordSets.{AreCanonical, FailsSetFrom, FailsSet, FirstOther, IsMember, IsRecordSet, IsSet, IsInOrder, set_head, set_record}
use Rattle.dnw_signed.specs.declared.data_list.DataList.{DataList}
use Rattle.dnw_signed.specs.declared.error.CanonicalError.{CanonicalError}
use Rattle.dnw_signed.specs.declared.error.CanonicalError.TheVariants.{Memory}
use Rattle.dnw_signed.specs.Inside.Going.{HasLength, IsChecking, IsListing}
use Rattle.dnw_signed.specs.Inside.Listing.{TakesData, HoldsData, data_of}

-- ---- the check

members_push : (first : Record) (done : List Record) (item : Record) → AllByRecursion (IsMember first) done → IsMember first item
    → AllByRecursion (IsMember first) (done ++ item ∷ [])
members_push first [] item all one = (one, tt)
members_push first (r ∷ done) item (is, all) one = (is, members_push first done item all one)

pub checks_on : (first item : Record) (records left others : List Record) → IsChecking first records left → left ≡ item ∷ others → IsMember first item
    → IsChecking first records others
checks_on first item records left others c is one =
    record {
      done = c.done ++ item ∷ [];
      split = c.split ∙ ap (λ rs. c.done ++ rs) is ∙ sym (append_assoc c.done (item ∷ []) others);
      members = members_push first c.done item c.members one;
    }

pub all_checked : (first : Record) (records left : List Record) → IsChecking first records left → left ≡ [] → AllByRecursion (IsMember first) records
all_checked first records left c none =
    subst (AllByRecursion (IsMember first)) (sym (c.split ∙ ap (λ rs. c.done ++ rs) none ∙ append-nil c.done)) c.members

pub have_lengths : (first : Record) (records : List Record) → AllByRecursion (IsMember first) records → AllByRecursion HasLength records
have_lengths first [] all = tt
have_lengths first (r ∷ records) (one, all) = (one.1, have_lengths first records all)

pub fails_from : (records others : List Record) (first : Record) (labels : ℕ) (error : CanonicalError) → records ≡ first ∷ others
    → FailsSetFrom first records labels error → FailsSet records labels error
fails_from records others first labels error is h =
    subst (λ rs. FailsSet rs labels error) (sym is) (subst (λ rs. FailsSetFrom first rs labels error) is h)

pub other_at : (first item : Record) (records left others : List Record) (number : ℕ) (reason : Record → Type 0) → IsChecking first records left
    → left ≡ item ∷ others → number ≡ length records - length left → reason item → FirstOther first records number reason
other_at first item records left others number reason c is at why =
    record {
      before = c.done;
      r = item;
      after = others;
      split = c.split ∙ ap (λ rs. c.done ++ rs) is;
      count = omega (arith, at, ap length c.split, length-append c.done left);
      members = c.members;
      other = why;
    }

pub memory_is : (records : List Record) (first : Record) (labels : ℕ) → IsSet records first labels → FailsSet records labels Memory
memory_is records first labels s = fails_from records s.others first labels Memory s.begins (s.enough, s.members)

pub joins : (records : List Record) (first : Record) (labels ttl : ℕ) (all sorted : List (List ℕ)) (head octets : List ℕ) → IsSet records first labels
    → AreCanonical records all → IsInOrder all sorted → head ≡ set_head first labels ttl → octets ≡ flat_map (set_record head) sorted
    → IsRecordSet records labels ttl octets
joins records first labels ttl all sorted head octets s canonical in_order head_is is =
    record {
      first = first;
      set = s;
      all = all;
      canonical = canonical;
      sorted = sorted;
      in_order = in_order;
      joined = is ∙ ap (λ h. flat_map (set_record h) sorted) head_is;
    }

-- ---- the list

-- data that are not too long are appended
fits : (before after : DataList) (x : DataValue) (more : List ℕ) (room : Bool) → length x.octets ≤ max_message → length more ≡ length x.octets
    → TakesData room before more after → HoldsData after × (data_of after ≡ data_of before ++ more ∷ [])
fits before after x more true short same (_, listed, is) = (listed, is)
fits before after x more false short same long = absurd (omega (arith, short, same, long))

pub lists_on : (item : Record) (records left others : List Record) (before after : DataList) (more : List ℕ) (room : Bool) → IsListing records left before
    → left ≡ item ∷ others → IsCanonical item.data more → length more ≡ length item.data.octets → TakesData room before more after → IsListing records others after
lists_on item records left others before after more room c is canonical same grows =
    let (short, left_fit) = subst (AllByRecursion HasLength) is c.left_fit in
    let (listed, data_are) = fits before after item.data more room short same grows in
    record {
      listed = listed;
      left_fit = left_fit;
      rest = λ others_data h.
          subst (AreCanonical records) (sym (ap (λ xs. xs ++ others_data) data_are ∙ append_assoc (data_of before) (more ∷ []) others_data))
          (c.rest (more ∷ others_data) (subst (λ rs. AreCanonical rs (more ∷ others_data)) (sym is) (canonical, h)));
    }

pub all_listed : (records left : List Record) (list : DataList) → length left ≡ 0 → IsListing records left list → HoldsData list × AreCanonical records (data_of list)
all_listed records [] list none c = (c.listed, subst (AreCanonical records) (append-nil (data_of list)) (c.rest [] tt))
all_listed records (item ∷ left) list none c = absurd (omega (arith, none))

pub lists_from : (records : List Record) (list : DataList) → HoldsData list → data_of list ≡ [] → AllByRecursion HasLength records → IsListing records records list
lists_from records list listed none fit =
    record { listed = listed; left_fit = fit; rest = λ more h. subst (AreCanonical records) (sym (ap (λ xs. xs ++ more) none)) h }
