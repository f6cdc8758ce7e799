-- Parts and items that are written in turn, as the code goes over them.
use Rattle.std.proofs.Common.{◌≡◌, ℕ, ◌+◌, ◌<◌, suc, List, [], ◌∷◌, ◌++◌, length, get_or, take, drop, Some, None, Ok, Err, inl, inr, refl, sym, map, Bor, Iter, ap, ◌∙◌, arith}
use Rattle.std.proofs.lemmas.List.{take_more, length-append, length-map, append-nil, nil_from_length}
use Rattle.std.proofs.Math.Seq.{split_at}
use Rattle.dnw_base.specs.declared.error.ProtoError.{ProtoError}
use Rattle.dnw_write.specs.Encoder.{Encoder}
use Rattle.dnw_write_script.specs.declared.script.Part.{Part}
use Rattle.dnw_write_script.specs.Script.{EmitsPart, EmitsParts, EmitsScriptItem}
use Rattle.std.specs.Iterator.{Yields}
use Rattle.std.specs.Slice.Iter.{iter_rest, iter_steps}
use Rattle.dnw_write.specs.Emitting.{Outcome, Emits, EmitsItems, InTurn}
use Rattle.dnw_write_script.specs.declared.script.Item.{Item}
use Rattle.dnw_write_script.specs.declared.script.Reply.TheVariants.{Items}
use Rattle.dnw_write_script.specs.Runs.{RunsItems}

-- ---- parts

-- others after those that were written
parts_follow : (parts others : List Part) (v m w : Encoder) (outcome : Outcome) → EmitsParts parts v (Ok tt) m → EmitsParts others m outcome w
    → EmitsParts (parts ++ others) v outcome w
parts_follow [] others v m w outcome all more = rw all at more
parts_follow (p ∷ parts) others v m w (Ok tt) (u, one, all) more = (u, one, parts_follow parts others u m w (Ok tt) all more)
parts_follow (p ∷ parts) others v m w (Err error) (u, one, all) more = inr (u, one, parts_follow parts others u m w (Err error) all more)

-- one more of all parts is written
pub part_written : (v m w : Encoder) (parts : List Part) (i : ℕ) (part : Part) → i < length parts → part ≡ get_or parts i part
    → EmitsParts (take i parts) v (Ok tt) m → EmitsPart part m (Ok tt) w → EmitsParts (take (i + 1) parts) v (Ok tt) w
part_written v m w parts i part below is all one =
    rw (take_more parts i part below, ← is) (parts_follow (take i parts) (part ∷ []) v m w (Ok tt) all (w, one, refl))

-- or refused
pub part_refused : (v m w : Encoder) (parts : List Part) (i : ℕ) (part : Part) (error : ProtoError) → i < length parts → part ≡ get_or parts i part
    → EmitsParts (take i parts) v (Ok tt) m → EmitsPart part m (Err error) w → EmitsParts parts v (Err error) w
part_refused v m w parts i part error below is all one =
    rw (split_at parts i part below, ← is) (parts_follow (take i parts) (part ∷ drop (suc i) parts) v m w (Err error) all (inl one))

-- ---- items

-- how an item that is borrowed is written
abbrev pub EmitsLent : Emits (Bor Item)
EmitsLent item = EmitsScriptItem item.now

abbrev owned : List (Bor Item) → List Item
owned xs = map (λ (x : Bor Item). x.now) xs

yielded : (s t : Iter Item) (xs : List (Bor Item)) → Yields iter_steps s xs t → iter_rest s ≡ owned xs ++ iter_rest t
yielded s t [] ys = ap iter_rest ys
yielded s t (x ∷ xs) (m, step, ys) = step ∙ ap (λ (items : List Item). x.now ∷ items) (yielded m t xs ys)

in_turn : (v w : Encoder) (xs : List (Bor Item)) → InTurn EmitsLent v xs w → InTurn EmitsScriptItem v (owned xs) w
in_turn v w [] all = all
in_turn v w (x ∷ xs) (m, one, all) = (m, one, in_turn m w xs all)

length_owned : (xs : List (Bor Item)) → length (owned xs) ≡ length xs
length_owned xs = length-map xs (λ (x : Bor Item). x.now)

-- all were written
pub all_written : (v w : Encoder) (items : List Item) (s t : Iter Item) (count : ℕ) → iter_rest s ≡ items
    → EmitsItems EmitsLent iter_steps s v (Ok count) w t → RunsItems v items (Items count None (length w.bytes)) w
all_written v w items s t count all (xs, (m, ys, (none, _)), turn, counted) =
    let same : items ≡ owned xs = cc (all, yielded s m xs ys, nil_from_length (iter_rest m) none, append-nil (owned xs)) in
    rw same (in_turn v w xs turn, counted ∙ sym (length_owned xs), refl)

-- how many were written before the refused one
pub written_before : (v w : Encoder) (items : List Item) (s t : Iter Item) (error : ProtoError) → iter_rest s ≡ items
    → (h : EmitsItems EmitsLent iter_steps s v (Err error) w t) → length items ≡ length h.0 + 1 + length (iter_rest t)
written_before v w items s t error all (xs, x, m, (n, ys, step), turn, one) =
    omega (arith, ap length (sym all ∙ yielded s n xs ys), length-append (owned xs) (iter_rest n), length_owned xs, ap length step)

-- all up to a refused one were written
pub some_written : (v w : Encoder) (items : List Item) (s t : Iter Item) (error : ProtoError) (count : ℕ) → iter_rest s ≡ items
    → (h : EmitsItems EmitsLent iter_steps s v (Err error) w t) → count ≡ length h.0
    → RunsItems v items (Items count (Some error) (length w.bytes)) w
some_written v w items s t error count all (xs, x, m, (n, ys, step), turn, one) counted =
    let split : items ≡ owned xs ++ x.now ∷ iter_rest t = cc (yielded s n xs ys) in
    (owned xs, x.now, iter_rest t, m, split, counted ∙ sym (length_owned xs), in_turn v m xs turn, rw counted one, refl)
