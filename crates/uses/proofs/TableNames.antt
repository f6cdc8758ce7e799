-- The names of a table stand in its octets, each at its offset.
use Rattle.std.proofs.Common.{◌≡◌, ℕ, zero, suc, ◌+◌, ◌-◌, ◌<◌, ◌≤◌, List, [], ◌∷◌, ◌++◌, Result, Ok, Err, Some, IsOkAnd, length, take, drop, get_or, slice_get, refl, sym, ap, ◌∙◌, subst, append_assoc, arith}
use Rattle.std.specs.List.{AllByRecursion, flat_map}
use Rattle.std.specs.Result.{IsOk}
use Rattle.std.proofs.lemmas.List.{take_at, drop_at, drop-drop, length-append, length-drop, take_rest}
use Rattle.dns_names_wire.specs.Words.{AreLabels, Decoder, IsLabel, NameAt, ReadsBack, TakesName, encoded_size, labels_wire, wire}
use Rattle.uses.specs.Inside.TableOctets.{IsTable, table_labels, table_name, names_at, offsets}

labels_within_cons : (n : ℕ) (l rest : List ℕ) → 1 ≤ length l → table_labels (suc n) (length l ∷ (l ++ rest)) ≡ l ∷ table_labels n rest
labels_within_cons n [] rest h = absurd (omega (arith, h))
labels_within_cons n (b ∷ bs) rest h = rw (take_at bs rest (length bs) refl, drop_at bs rest (length bs) refl) refl

wire_cons : (l : List ℕ) (ls : List (List ℕ)) (rest : List ℕ) → wire (l ∷ ls) ++ rest ≡ length l ∷ (l ++ (wire ls ++ rest))
wire_cons l ls rest =
    ap (λ (octets : List ℕ). length l ∷ octets)
    (ap (λ (octets : List ℕ). octets ++ rest) (append_assoc l (labels_wire ls) (0 ∷ [])) ∙ append_assoc l (wire ls) rest)

-- a wire form gives its labels, whatever octets follow
reads_wire : (ls : List (List ℕ)) (n : ℕ) (rest : List ℕ) → AllByRecursion IsLabel ls → length (wire ls ++ rest) ≤ n → table_labels n (wire ls ++ rest) ≡ ls
reads_wire [] zero rest each le = refl
reads_wire [] (suc n) rest each le = refl
reads_wire (l ∷ ls) zero rest each le = absurd (omega (arith, le, ap length (wire_cons l ls rest)))
reads_wire (l ∷ ls) (suc n) rest each le =
    let few : length (wire ls ++ rest) ≤ n = omega (arith, le, ap length (wire_cons l ls rest), length-append l (wire ls ++ rest)) in
    ap (table_labels (suc n)) (wire_cons l ls rest) ∙ labels_within_cons n l (wire ls ++ rest) each.0.not_empty
    ∙ ap (λ (more : List (List ℕ)). l ∷ more) (reads_wire ls n rest each.1 few)

module _ (octets : List ℕ) where
  -- the octets after the first name
  past_first : (n : List (List ℕ)) (ns : List (List (List ℕ))) (p : ℕ) → drop p octets ≡ flat_map wire (n ∷ ns)
      → drop (p + length (wire n)) octets ≡ flat_map wire ns
  past_first n ns p e = sym (drop-drop (length (wire n)) p octets) ∙ ap (drop (length (wire n))) e ∙ drop_at (wire n) (flat_map wire ns) (length (wire n)) refl

  -- they begin where the octets have them
  names_are : (names : List (List (List ℕ))) (p : ℕ) → AllByRecursion AreLabels names → drop p octets ≡ flat_map wire names
      → names_at octets (offsets p names) ≡ names
  unfolding table_name
  names_are [] p each e = refl
  names_are (n ∷ ns) p each e =
      let first : table_labels (length octets) (drop p octets) ≡ n =
      ap (table_labels (length octets)) e
      ∙ reads_wire n (length octets) (flat_map wire ns) each.0.each (omega (arith, ap length e, length-drop p octets)) in
      let others = names_are ns (p + length (wire n)) each.1 (past_first n ns p e) in
      rw (first, others) refl

  -- a name's wire form is at its offset
  stands_at : (names : List (List (List ℕ))) (p i start : ℕ) → AllByRecursion AreLabels names → drop p octets ≡ flat_map wire names
      → i < length names → start ≡ get_or (offsets p names) i start
      → (ls : List (List ℕ)) × (rest : List ℕ) × AreLabels ls × (slice_get names i ≡ Some ls) × (drop start octets ≡ wire ls ++ rest)
  stands_at [] p i start each e less is = absurd (omega (arith, less))
  stands_at (n ∷ ns) p zero start each e less is = (n, flat_map wire ns, each.0, refl, ap (λ (from : ℕ). drop from octets) is ∙ e)
  stands_at (n ∷ ns) p (suc i) start each e less is = stands_at ns (p + length (wire n)) i start each.1 (past_first n ns p e) (omega (arith, less)) is

-- the view of a table is its names
pub view_of : (octets starts : List ℕ) (names : List (List (List ℕ))) → IsTable octets starts names → names_at octets starts ≡ names
view_of octets starts names table = ap (names_at octets) table.starts_are ∙ names_are octets names 0 table.labels table.octets_are

named : {E : Type 0} (names : List (List (List ℕ))) (i : ℕ) (read : Result (List (List ℕ)) E) (ls : List (List ℕ)) → slice_get names i ≡ Some ls
    → IsOkAnd read (λ name. name ≡ ls) → IsOkAnd read (λ name. slice_get names i ≡ Some name)
named names i (Ok name) ls found same = found ∙ ap Some (sym same)
named names i (Err error) ls found same = same

abbrev front_of : List ℕ → Decoder
front_of bytes = record { bytes = bytes; index = 0 }

-- the octets of a table that is lent, and the offset of one of its names
module _ (octets starts lent : List ℕ) (names : List (List (List ℕ))) (table : IsTable octets starts (names_at octets starts))
    (view : names_at octets starts ≡ names) (same : lent ≡ octets) (i start : ℕ) (less : i < length names) (is : start ≡ get_or starts i start) where
  name_there : (ls : List (List ℕ)) × (rest : List ℕ) × AreLabels ls × (slice_get names i ≡ Some ls) × (drop start lent ≡ wire ls ++ rest)
  name_there =
      let t : IsTable lent starts names = rw (same, ← view) table in
      stands_at lent names 0 i start t.labels t.octets_are less (is ∙ ap (λ (all : List ℕ). get_or all i start) t.starts_are)

  -- the name begins before their end
  pub begins_within : start ≤ length lent
  begins_within =
      let (ls, rest, are, found, octets_are) = name_there in
      omega (arith, length-drop start lent, ap length octets_are, length-append (wire ls) rest, length-append (labels_wire ls) (0 ∷ []))

  -- reading there gives it
  pub is_read : ReadsBack → {E : Type 0} (old new : Decoder) (read : Result (List (List ℕ)) E)
      → old ≡ record { bytes = take (length lent - start) (drop start lent); index = 0 }
      → ((after : Decoder) (ls : List (List ℕ)) (k : ℕ) → TakesName old after ls k → IsOkAnd read (λ name. name ≡ ls) × (new ≡ after))
      → IsOkAnd read (λ name. slice_get names i ≡ Some name)
  is_read back old new read old_is accepts =
      let (ls, rest, are, found, octets_are) = name_there in
      let bytes : old ≡ front_of (wire ls ++ rest) = old_is ∙ ap front_of (take_rest lent start ∙ octets_are) in
      let end = 0 + encoded_size ls in
      let takes : TakesName old (record { bytes = old.bytes; index = end }) ls 0 = record {
        end = end;
        name = subst (λ (d : Decoder). NameAt d.bytes d.index ls end 0) (sym bytes) (back [] rest ls are);
        moved = refl;
      } in
      named names i read ls found (accepts (record { bytes = old.bytes; index = end }) ls 0 takes).0

pub ok_if : {T E : Type 0} (P : T → Type 0) (read : Result T E) → IsOkAnd read P → IsOk read
ok_if P (Ok x) h = refl
ok_if P (Err e) h = absurd h

pub value_if : {T E : Type 0} (P : T → Type 0) (read : Result T E) (x : T) → IsOkAnd read P → read ≡ Ok x → P x
value_if P read x h same = subst (λ (r : Result _ _). IsOkAnd r P) same h
