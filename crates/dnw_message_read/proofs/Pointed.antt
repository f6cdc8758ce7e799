-- Pointers that are known are read without a walk.
use Rattle.std.proofs.Common.{◌≡◌, ℕ, suc, ◌+◌, ◌-◌, ◌*◌, ◌<◌, ◌≤◌, nat_le, nat_lt, Bool, Option, Some, None, Result, Ok, Err, List, length, slice_get, refl, sym, ap, ◌∙◌, subst, arith}
use Rattle.std.specs.Prelude.{IfOk, OnOk}
use Rattle.std.proofs.lemmas.Bool.{cond_both, leb-true, ltb-true}
use Rattle.dnw_base.specs.declared.error.DecodeError.{DecodeError}
use Rattle.dnw_base.specs.Decoder.{Decoder, HasLeft, advanced}
use Rattle.dnw_base.specs.Limits.{max_name, pointer_offsets}
use Rattle.dnw_base.specs.Names.{encoded_size}
use Rattle.dnw_name_read.specs.Reading.{NameAt, Reads, TakesName, label, pointer, target, zero_octet}
use Rattle.dnw_name_read.proofs.Counts.{Reads_own}
use Rattle.dnw_name_read.proofs.Stand.{Reads_wider}
use Rattle.dnw_message_read.specs.declared.passing.Known.{Known}
use Rattle.dnw_message_read.specs.Inside.Passing.{IsKnown, IsPointer, LeadsFrom, first_pointer, known_after, opt_at}
use Rattle.dnw_message_read.specs.declared.error.Section.{Section}
use Rattle.dnw_message_read.specs.Messages.{rest_of}

-- a name that ends before an offset is read as well by a pointer from there
before : {b : List ℕ} {p s e k q : ℕ} {ls : List (List ℕ)} → Reads b p s None ls e k → e ≤ q → Reads b p s (Some q) ls e k
before {b} {p} (zero_octet w g) le = zero_octet (omega arith) g
before {b} {p} (label c w g one most fit r) le =
    let (more, _) = Reads_own r in label c (omega arith) g one most fit (before r le)
before {b} {p} (pointer high low w g least g' prior r) le = pointer high low (omega arith) g least g' prior r

-- what is known holds further on
pub known_on : (b : List ℕ) (p q : ℕ) (known : Known) → p ≤ q → IsKnown b p known → IsKnown b q known
known_on b p q known le is = λ some.
    let h = is some in
    record {
      labels = h.labels;
      end = h.end;
      further = h.further;
      prior = omega (arith, h.prior);
      reads = Reads_wider (known.pointer - first_pointer) (Some q) (omega arith) le h.reads;
      fits = h.fits;
      counted = h.counted;
    }

-- a pointer that is known is a name
pub known_read : (d : Decoder) (known : Known) (octets : ℕ) → IsKnown d.bytes d.index known → first_pointer ≤ octets → octets ≡ known.pointer
    → IsPointer d.bytes d.index octets → (labels : List (List ℕ)) × TakesName d (advanced d 2) labels known.followed
known_read d known octets is some same (high, low, first, second, few, octets_are) =
    let h = is (omega (arith, some, same)) in
    let there : known.pointer - first_pointer ≡ target high low = omega (arith, some, same, few, octets_are) in
    let marked : 192 ≤ high = omega (arith, some, few, octets_are) in
    let reads = subst (λ t. Reads d.bytes t t (Some d.index) h.labels h.end h.further) there h.reads in
    let prior : target high low < d.index = omega (arith, there, h.prior) in
    let name : NameAt d.bytes d.index h.labels (d.index + 2) (suc h.further) =
    record { reads = pointer high low tt first marked second prior reads; fits = h.fits } in
    (h.labels, record { end = d.index + 2; name = subst (λ k. NameAt d.bytes d.index h.labels (d.index + 2) k) (sym h.counted) name; moved = refl })

some_same : {a c : ℕ} {x : Option ℕ} → x ≡ Some a → x ≡ Some c → a ≡ c
some_same h i = cc

-- a pointer that a name begins with is known after it
pub pointer_known : {b : List ℕ} {p s e k octets : ℕ} {ls : List (List ℕ)} → s ≡ p → Reads b p s None ls e k → encoded_size ls ≤ max_name
    → first_pointer ≤ octets → IsPointer b p octets → IsKnown b e (record { pointer = octets; followed = k })
pointer_known start (zero_octet w g) fits some (high, low, first, second, few, is) =
    let same = some_same g first in absurd (omega (arith, some, few, is, same))
pointer_known start (label c w g one most fit r) fits some (high, low, first, second, few, is) =
    let same = some_same g first in absurd (omega (arith, some, few, is, same, most))
pointer_known {b} {p} {s} {octets = octets} start (pointer {e = end} {k = further} {ls = labels} high low w g least g' prior r) fits some (high', low', first, second, few, is) =
    let same = some_same g first in
    let also = some_same g' second in
    let there : target high low ≡ octets - first_pointer = omega (arith, is, same, also, least) in
    λ _. record {
      labels = labels;
      end = end;
      further = further;
      prior = omega (arith, prior, start, there);
      reads = subst (λ t. Reads b t t (Some (p + 2)) labels end further) there (Reads_wider (target high low) (Some (p + 2)) (omega arith) (omega (arith, start)) r);
      fits = fits;
      counted = refl;
    }

pub direct_known : {b : List ℕ} {p e k : ℕ} {ls : List (List ℕ)} → NameAt b p ls e k → IsKnown b e (record { pointer = first_pointer + p; followed = k + 1 })
direct_known {b} {p} {e} {k} {ls} name = λ some.
    let (after, inside) = Reads_own name.reads in
    let there : p ≡ first_pointer + p - first_pointer = omega arith in
    record {
      labels = ls;
      end = e;
      further = k;
      prior = omega (arith, after);
      reads = subst (λ t. Reads b t t (Some e) ls e k) there (before name.reads (omega arith));
      fits = name.fits;
      counted = omega arith;
    }

module _ (d after : Decoder) (known : Known) (octets p : ℕ) (b : List ℕ) (bytes : b ≡ d.bytes) (start : p ≡ d.index) (is : IsKnown d.bytes d.index known)
    (some : first_pointer ≤ octets) (same : octets ≡ known.pointer) (there : first_pointer ≤ octets → IsPointer b p octets)
    (moved : after ≡ advanced d 2) where
  pub at_known : (labels : List (List ℕ)) × TakesName d after labels known.followed
  at_known =
      rw moved (known_read d known octets is some same (subst (λ i. IsPointer d.bytes i octets) start (subst (λ c. IsPointer c p octets) bytes (there some))))

  pub on_known : IsKnown after.bytes after.index known
  on_known = rw moved (known_on d.bytes d.index (d.index + 2) known (omega arith) is)

module _ (b : List ℕ) (p e k octets : ℕ) (labels : List (List ℕ)) (name : NameAt b p labels e k) (there : first_pointer ≤ octets → IsPointer b p octets) where
  pub known_from : IsKnown b e (known_after octets p k)
  known_from = cond_both (nat_le first_pointer octets) _ _ (IsKnown b e)
      (λ some. pointer_known refl name.reads name.fits (leb-true _ _ some) (there (leb-true _ _ some)))
      (λ none. cond_both (nat_lt p pointer_offsets) _ _ (IsKnown b e) (λ few. direct_known name) (λ many. λ some. absurd (omega (arith, some))))

pub known_next : (d after : Decoder) (labels : List (List ℕ)) (k octets p : ℕ) (b : List ℕ) (known : Known) → b ≡ d.bytes → p ≡ d.index
    → TakesName d after labels k → (first_pointer ≤ octets → IsPointer b p octets) → known ≡ known_after octets p k → IsKnown after.bytes after.index known
known_next d after labels k octets p b known bytes start takes there is =
    let name = rw (← start) at takes.name in
    rw (takes.moved, is) (known_from d.bytes p takes.end k octets labels name (λ some. subst (λ c. IsPointer c p octets) bytes (there some)))

-- what is known holds after what follows a name
pub passed_on : (result : Result Bool DecodeError) (section : Section) (d after : Decoder) (known : Known) → IsKnown d.bytes d.index known
    → IfOk result (λ found. HasLeft d (rest_of section d.bytes d.index) × (after ≡ advanced d (rest_of section d.bytes d.index))
    × (found ≡ opt_at section d.bytes d.index)) → OnOk result (IsKnown after.bytes after.index known)
passed_on (Ok found) section d after known is h = rw h.1 (known_on d.bytes d.index (d.index + rest_of section d.bytes d.index) known (omega arith) is)
passed_on (Err error) section d after known is h = tt
