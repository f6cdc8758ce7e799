-- Octets begin with one message at most, or reading them fails with one error.
use Rattle.std.proofs.Common.{◌≡◌, ℕ, ◌+◌, ◌-◌, ◌<◌, ◌≤◌, List, [], ◌∷◌, length, map, slice_range, inl, inr, refl, sym, ap, ◌∙◌, subst, arith}
use Rattle.dnw_base.specs.declared.error.DecodeError.{DecodeError}
use Rattle.dnw_name_read.proofs.Unique.{Reads_unique, Stops_unique}
use Rattle.dnw_record.specs.Records.{RecordValue}
use Rattle.dnw_message_read.specs.declared.error.MessageError.{MessageError}
use Rattle.dnw_message_read.specs.declared.error.MessageErrorKind.{MessageErrorKind}
use Rattle.dnw_message_read.specs.declared.error.MessageErrorKind.TheVariants.{Decode, TooManyPointers}
use Rattle.dnw_message_read.specs.declared.error.Section.{Section}
use Rattle.dnw_message_read.specs.declared.header.Header.{Header}
use Rattle.dnw_message_read.specs.Headers.{header_of, header_size}
use Rattle.dnw_message_read.specs.Messages.{FailsFrom, FailsHere, FailsItem, FailsWithin, Item, ItemAt, ItemsAt, MessageValue, Part, PartsAt, QueryValue, Rest, done, next, none, one_more, sections_of, query_of, record_in, rest_of}
use Rattle.dnw_message_read.specs.MessageLaws.{MessagesDontFail, OneMessageError, OneMessage}
use Rattle.dnw_message_read.proofs.InTurn.{item_is}
use Rattle.dnw_message_read.proofs.Lending.{item_not_fails, not_both_lem}

-- ---- items

item_unique : {rest : Rest} {b : List ℕ} {p e e' k k' : ℕ} {x x' : Item} → ItemAt rest b p x e k → ItemAt rest b p x' e' k'
    → (x ≡ x') × (e ≡ e') × (k ≡ k')
item_unique h h' =
    let (_, _, pointers) = Reads_unique h.name.reads h'.name.reads in
    let (x, e) = item_is h in
    let (x', e') = item_is h' in
    (x ∙ sym x', e ∙ sym e', pointers)

item_fails_unique : (rest : Rest) (b : List ℕ) (p : ℕ) (error other : DecodeError) → FailsItem rest b p error → FailsItem rest b p other → error ≡ other
item_fails_unique rest b p error other (inl stops) (inl stops') = (Stops_unique stops.2 stops'.2).0
item_fails_unique rest b p error other (inl stops) (inr lacks) = absurd (not_both_lem lacks.3 stops.2)
item_fails_unique rest b p error other (inr lacks) (inl stops) = absurd (not_both_lem lacks.3 stops.2)
item_fails_unique rest b p error other (inr lacks) (inr lacks') = lacks.5 ∙ sym lacks'.5

item_from : {rest : Rest} {b : List ℕ} {p q e k : ℕ} {x : Item} → p ≡ q → ItemAt rest b q x e k → ItemAt rest b p x e k
item_from {rest} {b} {p} {q} {e} {k} {x} same h = subst (λ i. ItemAt rest b i x e k) (sym same) h

items_unique : {rest : Rest} {b : List ℕ} {p q e e' k k' : ℕ} {xs ys : List Item} → p ≡ q → ItemsAt rest b p xs e k → ItemsAt rest b q ys e' k' → length xs ≡ length ys
    → (xs ≡ ys) × (e ≡ e') × (k ≡ k')
items_unique same none none h = (refl, same, refl)
items_unique same none (one_more first more) h = absurd (omega (arith, h))
items_unique same (one_more first more) none h = absurd (omega (arith, h))
items_unique {rest} {b} {p} {q} same (one_more {x = x} {xs = xs} first more) (one_more {x = y} {xs = ys} first' more') h =
    let (x_is, ends, j) = item_unique first (item_from same first') in
    let (xs_is, e, k) = items_unique ends more more' (omega (arith, h)) in
    (ap (λ z. z ∷ xs) x_is ∙ ap (λ zs. y ∷ zs) xs_is, e, omega (arith, j, k))

-- after fewer items there is one more
one_further : {rest : Rest} {b : List ℕ} {p q r e j k : ℕ} {xs ys : List Item} → p ≡ q → ItemsAt rest b p ys r j → ItemsAt rest b q xs e k → length ys < length xs
    → (x : Item) × (f : ℕ) × (i : ℕ) × ItemAt rest b r x f i × (j + i ≤ k)
one_further same h none less = absurd (omega (arith, less))
one_further same none (one_more {q = f} {j = i} {x = x} first more) less = (x, f, i, item_from same first, omega arith)
one_further {rest = rest} {b = b} {p = p} {r = r} same (one_more {q = q} first more) (one_more first' more') less =
    let (_, ends, j) = item_unique first (item_from same first') in
    let (x, f, i, at, few) = one_further {p = q} ends more more' (omega (arith, less)) in
    (x, f, i, at, omega (arith, j, few))

-- where an item is that follows few pointers, nothing fails
here_not_fails : {rest : Rest} {b : List ℕ} {p e i left : ℕ} {x : Item} (kind : MessageErrorKind) → ItemAt rest b p x e i → i ≤ left → FailsHere rest b p left kind → ⊥
here_not_fails (Decode error) h few fails = item_not_fails h fails
here_not_fails TooManyPointers h few (_, _, _, at, many) = let (_, _, k) = item_unique h at in omega (arith, k, few, many)

here_unique : (rest : Rest) (b : List ℕ) (p left : ℕ) (kind other : MessageErrorKind) → FailsHere rest b p left kind → FailsHere rest b p left other → kind ≡ other
here_unique rest b p left (Decode error) (Decode other) h h' = ap Decode (item_fails_unique rest b p error other h h')
here_unique rest b p left (Decode error) TooManyPointers h (_, _, _, at, _) = absurd (item_not_fails at h)
here_unique rest b p left TooManyPointers (Decode other) (_, _, _, at, _) h = absurd (item_not_fails at h)
here_unique rest b p left TooManyPointers TooManyPointers h h' = refl

-- ---- sections

-- a section whose items are there, with few pointers, does not fail
within_not_fails : {b : List ℕ} {p e k left : ℕ} {s : Part} {xs : List Item} {error : MessageError} → ItemsAt (rest_of s.section) b p xs e k
    → length xs ≡ s.count → k ≤ left → FailsWithin b p s left error → ⊥
within_not_fails h counted few fails =
    let (x, f, i, at, less) = one_further refl fails.before h (omega (arith, counted, fails.item, fails.counted)) in
    here_not_fails _ at (omega (arith, less, few)) fails.why

-- the first fault is not after another one
not_after : {b : List ℕ} {p left : ℕ} {s : Part} {error other : MessageError} → (h : FailsWithin b p s left error) → (h' : FailsWithin b p s left other)
    → length h.passed < length h'.passed → ⊥
not_after h h' less =
    let (x, f, i, at, fewer) = one_further refl h.before h'.before less in
    let few = h'.few in here_not_fails _ at (omega (arith, fewer, few)) h.why

same_error : (error other : MessageError) → error.section ≡ other.section → error.item ≡ other.item → error.offset ≡ other.offset → error.kind ≡ other.kind
    → error ≡ other
same_error error other a b c d =
    let of : Section → ℕ → ℕ → MessageErrorKind → MessageError = λ w x y z. record { section = w; item = x; offset = y; kind = z } in
    ap (λ w. of w error.item error.offset error.kind) a ∙ (ap (λ x. of other.section x error.offset error.kind) b
    ∙ (ap (λ y. of other.section other.item y error.kind) c ∙ ap (of other.section other.item other.offset) d))

within_unique : {b : List ℕ} {p left : ℕ} {s : Part} {error other : MessageError} → FailsWithin b p s left error → FailsWithin b p s left other → error ≡ other
within_unique {b} {p} {left} {s} {error} {other} h h' =
    let one = not_after h h' in
    let two = not_after h' h in
    let count : length h.passed ≡ length h'.passed = grind (arith, one, two) in
    let (_, offset, followed) = items_unique refl h.before h'.before count in
    let why = rw (offset, followed) at h.why in
    same_error error other (h.section ∙ sym h'.section) (h.item ∙ (count ∙ sym h'.item)) offset (here_unique (rest_of s.section) b other.offset (left - h'.followed) error.kind other.kind why h'.why)

-- ---- sections in turn

parts_unique : {b : List ℕ} {p q e e' k k' : ℕ} {parts : List Part} {xs ys : List (List Item)} → p ≡ q → PartsAt b p parts xs e k → PartsAt b q parts ys e' k'
    → (xs ≡ ys) × (e ≡ e') × (k ≡ k')
parts_unique same done done = (refl, same, refl)
parts_unique same (next {xs = xs} {sections = sections} items counted more) (next {xs = ys} items' counted' more') =
    let (is, ends, j) = items_unique same items items' (counted ∙ sym counted') in
    let (are, e, k) = parts_unique ends more more' in
    (ap (λ z. z ∷ sections) is ∙ ap (λ zs. ys ∷ zs) are, e, omega (arith, j, k))

parts_not_fail : {b : List ℕ} {p q e k left : ℕ} {parts : List Part} {xs : List (List Item)} (error : MessageError) → p ≡ q → PartsAt b p parts xs e k → k ≤ left
    → FailsFrom b q parts left error → ⊥
parts_not_fail error same done few h = h
parts_not_fail {b} {p} {q} {left = left} error same (next {s = s} {parts = parts} items counted more) few (inl fails) =
    within_not_fails items counted (omega (arith, few)) (subst (λ i. FailsWithin b i s left error) (sym same) fails)
parts_not_fail error same (next items counted more) few (inr (xs, r, j, items', counted', _, fails)) =
    let (_, ends, pointers) = items_unique same items items' (counted ∙ sym counted') in
    parts_not_fail error ends more (omega (arith, few, pointers)) fails

fails_unique : (b : List ℕ) (p q left left' : ℕ) (error other : MessageError) (parts : List Part) → p ≡ q → left ≡ left'
    → FailsFrom b p parts left error → FailsFrom b q parts left' other → error ≡ other
fails_unique b p q left left' error other [] same limit h h' = absurd h
fails_unique b p q left left' error other (s ∷ parts) same limit (inl h) (inl h') =
    within_unique h (rw (← same, ← limit) at h')
fails_unique b p q left left' error other (s ∷ parts) same limit (inl h) (inr (xs, r, j, items, counted, few, _)) =
    absurd (within_not_fails items counted few (rw (same, limit) at h))
fails_unique b p q left left' error other (s ∷ parts) same limit (inr (xs, r, j, items, counted, few, _)) (inl h) =
    absurd (within_not_fails items counted few (rw (← same, ← limit) at h))
fails_unique b p q left left' error other (s ∷ parts) same limit (inr (xs, r, j, items, counted, _, h)) (inr (ys, r', j', items', counted', _, h')) =
    let (_, ends, pointers) = items_unique same items items' (counted ∙ sym counted') in
    fails_unique b r r' (left - j) (left' - j') error other parts ends (omega (arith, limit, pointers)) h h'

-- ---- messages

abbrev message : List ℕ → Header → List QueryValue → List RecordValue → List RecordValue → List RecordValue → ℕ → MessageValue
message octets header queries answers authorities additionals end = record {
  octets = octets;
  header = header;
  queries = queries;
  answers = answers;
  authorities = authorities;
  additionals = additionals;
  end = end;
}

same_message : (o o' : List ℕ) (h h' : Header) (q q' : List QueryValue) (a a' n n' x x' : List RecordValue) (e e' : ℕ)
    → o ≡ o' → h ≡ h' → q ≡ q' → a ≡ a' → n ≡ n' → x ≡ x' → e ≡ e' → message o h q a n x e ≡ message o' h' q' a' n' x' e'
same_message o o' h h' q q' a a' n n' x x' e e' ho hh hq ha hn hx he = rw (ho, hh, hq, ha, hn, hx, he) refl

pub one_message : OneMessage
one_message b m other k other_k h h' =
    let header : m.header ≡ other.header = h.header ∙ sym h'.header in
    let sections = subst (λ (x : Header). PartsAt b header_size (sections_of x) (h.queries ∷ h.answers ∷ h.authorities ∷ h.additionals ∷ []) m.end k) header h.sections in
    let (same, end, pointers) = parts_unique refl sections h'.sections in
    let q : h.queries ≡ h'.queries = cc in
    let a : h.answers ≡ h'.answers = cc in
    let n : h.authorities ≡ h'.authorities = cc in
    let x : h.additionals ≡ h'.additionals = cc in (
      same_message _ _ _ _ _ _ _ _ _ _ _ _ _ _ (h.octets ∙ sym h'.octets) header (h.queries_are ∙ (ap (map (query_of b)) q ∙ sym h'.queries_are))
          (h.answers_are ∙ (ap (map (record_in b)) a ∙ sym h'.answers_are)) (h.authorities_are ∙ (ap (map (record_in b)) n ∙ sym h'.authorities_are))
          (h.additionals_are ∙ (ap (map (record_in b)) x ∙ sym h'.additionals_are)) end,
      pointers,
    )

pub not_both : MessagesDontFail
not_both b most m k error h few (inl short) = let whole = h.whole in omega (arith, whole, short.0)
not_both b most m k error h few (inr (whole, fails)) =
    parts_not_fail error refl h.sections few (subst (λ (x : Header). FailsFrom b header_size (sections_of x) most error) (sym h.header) fails)

pub one_fault : OneMessageError
one_fault b most error other (inl h) (inl h') = h.1 ∙ sym h'.1
one_fault b most error other (inl h) (inr h') = absurd (omega (arith, h.0, h'.0))
one_fault b most error other (inr h) (inl h') = absurd (omega (arith, h.0, h'.0))
one_fault b most error other (inr h) (inr h') = fails_unique b header_size header_size most most error other (sections_of (header_of (slice_range b 0 header_size))) refl refl h.1 h'.1
