-- The data of a message follow few pointers, if its records and its octets are few.
use Rattle.std.proofs.Common.{◌≡◌, ℕ, zero, suc, ◌+◌, ◌*◌, ◌≤◌, Option, Some, None, List, [], ◌∷◌, ◌++◌, length, map, refl, sym, ap, ◌∙◌, subst, arith}
use Rattle.std.specs.List.{AllByRecursion}
use Rattle.std.proofs.Math.Nat.{suc-mul}
use Rattle.std.proofs.lemmas.List.{length-append, length-map}
use Rattle.dnw_record.specs.DataPointers.{TakesAllPointers}
use Rattle.dnw_record.specs.Records.{RecordValue}
use Rattle.dnw_record.proofs.FewPointers.{all_few, all_lack, all_then, most_of}
use Rattle.dnw_message_read.specs.DataPointers.{records_of}
use Rattle.dnw_message_read.specs.Messages.{Item, Rest, record_in, record_rest}
use Rattle.dnw_message_read.specs.declared.header.Header.{Header}
use Rattle.dnw_message_read.specs.Inside.Kept.{item_end, items_in, message_in, records_in}

-- the message of each is of n octets at most
abbrev Within : ℕ → RecordValue → Type 0
Within n r = length r.message ≤ n

within_both : (n : ℕ) (rs more : List RecordValue) → AllByRecursion (Within n) rs → AllByRecursion (Within n) more → AllByRecursion (Within n) (rs ++ more)
within_both n [] more none others = others
within_both n (r ∷ rs) more (one, rest) others = (one, within_both n rs more rest others)

within_map : (b : List ℕ) (xs : List Item) → AllByRecursion (Within (length b)) (map (record_in b) xs)
within_map b [] = tt
within_map b (x ∷ xs) = (omega arith, within_map b xs)

most_is : (rs : List RecordValue) (n : ℕ) → most_of rs n ≡ length rs * (n + n)
most_is [] n = omega arith
most_is (r ∷ rs) n = omega (arith, most_is rs n, suc-mul (length rs) (n + n))

count_of : (rest : Rest) (b : List ℕ) (p n : ℕ) → length (items_in rest b p n) ≡ n
count_of rest b p zero = refl
count_of rest b p (suc n) = ap suc (count_of rest b (item_end rest b p) n)

records_count : (b : List ℕ) (p n : ℕ) → length (records_in b p n) ≡ n
records_count b p n = length-map (items_in record_rest b p n) (record_in b) ∙ count_of record_rest b p n

pub few_records : (b : List ℕ) (h : Header) (a u d e most : ℕ)
    → (h.counts.answers + h.counts.authorities + h.counts.additionals) * (length b + length b) ≤ most
    → (left : ℕ) × TakesAllPointers (records_of (message_in b h a u d e)) most (Some left)
few_records b h a u d e most few =
    let xs = records_in b a h.counts.answers in
    let ys = records_in b u h.counts.authorities in
    let zs = records_in b d h.counts.additionals in
    let n = length b in
    let all = xs ++ (ys ++ zs) in
    let within : AllByRecursion (Within n) all =
    within_both n xs (ys ++ zs) (within_map b _) (within_both n ys zs (within_map b _) (within_map b _)) in
    let count : length all ≡ h.counts.answers + h.counts.authorities + h.counts.additionals =
    omega (arith, length-append xs (ys ++ zs), length-append ys zs, records_count b a h.counts.answers, records_count b u h.counts.authorities, records_count b d h.counts.additionals) in
    let most_few : most_of all n ≤ most = omega (arith, few, most_is all n ∙ ap (λ m. m * (n + n)) count) in
    let (left, takes, rest) = all_few all n most within most_few in
    (left, takes)

-- ---- those of the sections, one after another

pub lack_second : (xs ys zs : List RecordValue) (most left : ℕ) → TakesAllPointers xs most (Some left) → TakesAllPointers ys left None
    → TakesAllPointers (xs ++ (ys ++ zs)) most None
lack_second xs ys zs most left one two = all_then xs (ys ++ zs) most left None one (all_lack ys zs left two)

pub all_three : (xs ys zs : List RecordValue) (most left rest : ℕ) (end : Option ℕ) → TakesAllPointers xs most (Some left) → TakesAllPointers ys left (Some rest)
    → TakesAllPointers zs rest end → TakesAllPointers (xs ++ (ys ++ zs)) most end
all_three xs ys zs most left rest end one two three = all_then xs (ys ++ zs) most left end one (all_then ys zs left rest end two three)
