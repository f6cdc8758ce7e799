-- Items that follow one another, and where they are.
use Rattle.std.proofs.Common.{◌≡◌, ℕ, zero, suc, ◌+◌, ◌-◌, ◌<◌, Bool, true, false, ◌||◌, Option, List, [], ◌∷◌, ◌++◌, length, length-append, None, refl, sym, ap, ◌∙◌, subst, arith}
use Rattle.std.specs.Int.{w16, from_be_bytes}
use Rattle.std.proofs.lemmas.Bool.{ne_eqb, le-leb, lt-leb}
use Rattle.std.proofs.lemmas.List.Folds.{list_any-append}
use Rattle.std.proofs.lemmas.Option.{get_or_from_slice_get}
use Rattle.dnw_base.specs.declared.record_type.RecordType.{RecordType}
use Rattle.dnw_base.specs.declared.dns_class.DNSClass.{DNSClass}
use Rattle.dnw_base.specs.RecordTypes.{type_of_code}
use Rattle.dnw_base.specs.DnsClasses.{class_of_code}
use Rattle.dnw_base.specs.Decoder.{Decoder, HasLeft, advanced, next_bytes}
use Rattle.dnw_name_read.specs.Reading.{NameAt, Reads, TakesName, zero_octet, label, pointer}
use Rattle.dnw_name_read.proofs.Found.{NameAt_few, labels_at_NameAt}
use Rattle.dnw_message_read.specs.Messages.{Item, ItemAt, ItemsAt, FailsWithin, QueryValue, Rest, none, one_more, part, rest_of}
use Rattle.dnw_message_read.specs.Queries.{TakesQuery}
use Rattle.dnw_message_read.specs.declared.error.MessageError.{MessageError}
use Rattle.dnw_message_read.specs.declared.error.Section.{Section}
use Rattle.dnw_message_read.specs.Inside.Kept.{AreLeft, end_in_steps, item_at, item_end, items_in, name_end}
use Rattle.dnw_message_read.specs.Inside.Passing.{FailsOne, PassesItem, PassesItems, any_opt, opt_at}

-- ---- one item

-- a decoder that takes a name, and moves past what follows it
pub item_passed : (s : Section) (d at after : Decoder) (ls : List (List ℕ)) (k : ℕ) (found : Bool) → TakesName d at ls k
    → HasLeft at (rest_of s at.bytes at.index) → after ≡ advanced at (rest_of s at.bytes at.index) → found ≡ opt_at s at.bytes at.index
    → (x : Item) × ItemAt (rest_of s) d.bytes d.index x after.index k × (after ≡ record { bytes = d.bytes; index = after.index })
    × (found ≡ opt_at s d.bytes x.name_end)
item_passed s d at after ls k found h room is found_is =
    let moved = h.moved in
    let inside = rw moved at room in
    let there : after ≡ record { bytes = d.bytes; index = h.end + rest_of s d.bytes h.end } = rw moved at is in
    let ends : after.index ≡ h.end + rest_of s d.bytes h.end = ap (λ (x : Decoder). x.index) there in (
      record { labels = ls; name_end = h.end },
      record { name = h.name; ends = ends; inside = omega (arith, inside, ends) },
      there ∙ ap (λ i. record { bytes = d.bytes; index = i }) (sym ends),
      rw moved at found_is,
    )

same_query : (ls : List (List ℕ)) (kind kind' : RecordType) (class class' : DNSClass) → kind ≡ kind' → class ≡ class'
    → ◌≡◌ {A = QueryValue} (record { name = ls; query_type = kind; query_class = class }) (record { name = ls; query_type = kind'; query_class = class' })
same_query ls kind kind' class class' k c = rw (k, c) refl

-- a decoder that takes a name and two numbers is past a question
pub query_taken : (d at mid after : Decoder) (ls : List (List ℕ)) (k n m : ℕ) (record_type : RecordType) (class : DNSClass) → TakesName d at ls k
    → HasLeft at 2 × (n ≡ from_be_bytes w16 (next_bytes at 2)) × (mid ≡ advanced at 2)
    → HasLeft mid 2 × (m ≡ from_be_bytes w16 (next_bytes mid 2)) × (after ≡ advanced mid 2)
    → record_type ≡ type_of_code n → class ≡ class_of_code m
    → TakesQuery d (record { name = ls; query_type = record_type; query_class = class }) after
query_taken d at mid after ls k n m record_type class h (room, first, is) (room', second, is') kind_is class_is =
    let moved = h.moved in
    let there = rw moved at is in
    let gone = rw there at is' in
    let inside = rw there at room' in
    let first' = rw moved at first in
    let second' = rw there at second in
    let four : h.end + 2 + 2 ≡ h.end + 4 = omega arith in (
      record { labels = ls; name_end = h.end },
      h.end + 4,
      k,
      record { name = h.name; ends = refl; inside = omega (arith, inside) },
      same_query ls record_type _ class _ (kind_is ∙ ap type_of_code first') (class_is ∙ ap class_of_code second'),
      gone ∙ ap (λ i. record { bytes = d.bytes; index = i }) four,
    )

-- ---- items in turn

pub items_more : {rest : Rest} {b : List ℕ} {p q e j k : ℕ} {xs : List Item} {x : Item} → ItemsAt rest b p xs q j → ItemAt rest b q x e k
    → ItemsAt rest b p (xs ++ x ∷ []) e (j + k)
items_more {rest} {b} {p} {q} {e} {j} {k} {xs} {x} none h =
    let same : k + 0 ≡ 0 + k = omega arith in subst (λ n. ItemsAt rest b p (x ∷ []) e n) same (one_more h none)
items_more {rest} {b} {p} {q} {e} {j} {k} {xs} {x} (one_more {j = i} {k = l} {x = y} {xs = ys} first more) h =
    let same : i + (l + k) ≡ i + l + k = omega arith in
    subst (λ n. ItemsAt rest b p (y ∷ (ys ++ x ∷ [])) e n) same (one_more first (items_more more h))

-- ---- the walk

or_false : (b : Bool) → b ≡ (b || false)
or_false true = refl
or_false false = refl

found_more : (s : Section) (b b' : List ℕ) (xs : List Item) (x : Item) (found is : Bool) → b ≡ b' → found ≡ any_opt s b' xs → is ≡ opt_at s b x.name_end
    → (found || is) ≡ any_opt s b' (xs ++ x ∷ [])
found_more s b b' xs x found is same h one =
    let last = one ∙ ap (λ c. opt_at s c x.name_end) same ∙ or_false (opt_at s b' x.name_end) in
    rw (h, last) (sym (list_any-append (λ (y : Item). opt_at s b' y.name_end) xs (x ∷ [])))

pub passes_more : (s : Section) (n : ℕ) (d m a : Decoder) (left now after : ℕ) (found is : Bool) → PassesItems s n d m left now found
    → PassesItem s m a now after is → PassesItems s (n + 1) d a left after (found || is)
passes_more s n d m a left now after found is h one =
    let rest = rest_of s in
    let at : ItemAt rest d.bytes m.index one.item a.index one.pointers = subst (λ b. ItemAt rest b m.index one.item a.index one.pointers) h.same one.at in
    record {
      items = h.items ++ one.item ∷ [];
      pointers = h.pointers + one.pointers;
      at = items_more h.at at;
      counted = omega (arith, length-append h.items (one.item ∷ []), h.counted);
      found_is = found_more s m.bytes d.bytes h.items one.item found is h.same h.found_is one.found_is;
      taken = omega (arith, h.taken, one.taken);
      same = one.same ∙ h.same;
    }

pub fails_within : (section : Section) (n count : ℕ) (d m : Decoder) (left now : ℕ) (found : Bool) (error : MessageError) → n < count
    → PassesItems section n d m left now found → FailsOne section n m now error → FailsWithin d.bytes d.index (part section count) left error
fails_within section n count d m left now found error less h fails =
    let left_is : left - h.pointers ≡ now = omega (arith, h.taken) in
    let why = rw h.same at fails.why in
    record {
      passed = h.items;
      followed = h.pointers;
      before = rw fails.offset_is h.at;
      few = omega (arith, h.taken);
      section = fails.section_is;
      item = fails.item_is ∙ sym h.counted;
      counted = omega (arith, fails.item_is, less);
      why = rw (fails.offset_is, left_is) why;
    }

-- ---- where items are

end_in_steps_lem : (n : ℕ) (b : List ℕ) (p s e k : ℕ) (limit : Option ℕ) (ls : List (List ℕ)) → Reads b p s limit ls e k → length ls < n
    → end_in_steps n b p ≡ e
end_in_steps_lem zero b p s e k limit ls r less = absurd (omega arith)
end_in_steps_lem (suc n) b p s e k limit ls (zero_octet w g) less = rw (get_or_from_slice_get b p 0 0 g) refl
end_in_steps_lem (suc n) b p s e k limit ls (label {ls = rest} c w g one most fit r) less =
    rw (get_or_from_slice_get b p c 0 g, ne_eqb c 0 (λ e. omega arith), le-leb c 63 most) (end_in_steps_lem n b (p + 1 + c) s e k limit rest r (omega arith))
end_in_steps_lem (suc n) b p s e k limit ls (pointer high low w g least g' prior r) less =
    rw (get_or_from_slice_get b p high 0 g, ne_eqb high 0 (λ e. omega arith), lt-leb high 63 (omega arith)) refl

name_end_lem : (b : List ℕ) (p e k : ℕ) (ls : List (List ℕ)) → NameAt b p ls e k → name_end b p ≡ e
unfolding name_end
name_end_lem b p e k ls h = let few = NameAt_few b p ls e k h in end_in_steps_lem 128 b p p e k None ls h.reads (omega arith)

same_item : (ls ls' : List (List ℕ)) (e e' : ℕ) → ls ≡ ls' → e ≡ e' → ◌≡◌ {A = Item} (record { labels = ls; name_end = e }) (record { labels = ls'; name_end = e' })
same_item ls ls' e e' h i = rw (h, i) refl

-- an item is the one that is found there
pub item_is : {rest : Rest} {b : List ℕ} {p e k : ℕ} {x : Item} → ItemAt rest b p x e k → (x ≡ item_at b p) × (e ≡ item_end rest b p)
item_is {rest} {b} {p} {e} {k} {x} h =
    let there = name_end_lem b p x.name_end k x.labels h.name in
    (same_item x.labels _ x.name_end _ (sym (labels_at_NameAt b p x.labels x.name_end k h.name)) (sym there), rw there h.ends)

pub items_are : {rest : Rest} {b : List ℕ} {p e k : ℕ} {xs : List Item} → ItemsAt rest b p xs e k → xs ≡ items_in rest b p (length xs)
items_are none = refl
items_are {rest} {b} {p} (one_more {q = q} {x = x} {xs = xs} first more) =
    let (is, ends) = item_is first in
    ap (λ y. y ∷ xs) is ∙ ap (λ ys. item_at b p ∷ ys) (items_are more ∙ ap (λ i. items_in rest b i (length xs)) ends)

-- as many as are counted are left
pub are_left : (rest : Rest) (b : List ℕ) (p e k n : ℕ) (xs : List Item) → ItemsAt rest b p xs e k → length xs ≡ n
    → (xs ≡ items_in rest b p n) × AreLeft rest b p n
are_left rest b p e k n xs h counted =
    let is = items_are h ∙ ap (items_in rest b p) counted in
    (is, record { end = e; pointers = k; items = subst (λ ys. ItemsAt rest b p ys e k) is h })

split : (rest : Rest) (b : List ℕ) (p n e k : ℕ) (xs : List Item) → ItemsAt rest b p xs e k → xs ≡ items_in rest b p (suc n)
    → ((k : ℕ) × ItemAt rest b p (item_at b p) (item_end rest b p) k) × AreLeft rest b (item_end rest b p) n
split rest b p n e k xs none is = cc
split rest b p n e k xs (one_more {q = q} {j = j} {k = l} {x = x} {xs = ys} first more) is =
    let (at, ends) = item_is first in
    let tail : ys ≡ items_in rest b (item_end rest b p) n = cc in
    ((j, rw (← at, ← ends) first), record { end = e; pointers = l; items = rw (← tail, ← ends) more })

-- the first of those that are left, and the others
pub one_left : (rest : Rest) (b : List ℕ) (p n : ℕ) → AreLeft rest b p (suc n)
    → ((k : ℕ) × ItemAt rest b p (item_at b p) (item_end rest b p) k) × AreLeft rest b (item_end rest b p) n
one_left rest b p n h = split rest b p n h.end h.pointers _ h.items refl
