-- The steps that list the fields of data.
use Rattle.std.proofs.Common.{◌≡◌, ◌≢◌, ◌≤◌, ◌<◌, ◌⊎◌, ℕ, ◌+◌, ◌-◌, Bool, true, false, List, [], ◌∷◌, ◌++◌, drop, length, slice_range, inl, inr, refl, sym, ap, ◌∙◌, subst, arith}
use Rattle.std.proofs.lemmas.List.{length-take, length-drop}
use Rattle.dnw_base.specs.declared.error.DecodeError.{DecodeError}
use Rattle.dnw_base.specs.Decoder.{Decoder, HasLeft, advanced, next_bytes}
use Rattle.dnw_name_read.specs.Reading.{TakesName}
use Rattle.dnw_data.specs.declared.kind.Kind.{Kind}
use Rattle.dnw_data.specs.declared.kind.Kind.TheVariants as kinds
use Rattle.dnw_data.specs.declared.kind.ListKind.TheVariants as lists
use Rattle.dnw_data.specs.Fields.{FailsField, FailsName, TakesField, TakesOwn, own_at, size_at}
use Rattle.dnw_data.specs.Lists.{ItemsValue, head_size as entry_head, item_size as entry_size, tag_of}
use Rattle.dnw_data.specs.Values.{FieldValue, name, own_value}
use Rattle.dnw_data.specs.Walks.{IsAtEnd}
use Rattle.dnw_c_base.specs.Failures.{of_decode}
use Rattle.dnw_c_base.specs.declared.failure.Failure.{Failure}
use Rattle.dnw_c_base.specs.declared.failure.Failure.TheVariants.{NoRoom, TooManyPointers, WrongDataLength}
use Rattle.dnw_c_messages.specs.FieldCalls.{head_of}
use Rattle.dnw_c_messages.specs.Listings.{Exceeds, IsOwnKind, Task, data_row, entries, entries_of, entry, entry_kind, entry_row, fault_row, field_row, fields, with_name, with_row, name_field, no_field, no_fields, octets_left, own_field}
use Rattle.dnw_c_messages.specs.Inside.Sheets.{FillsTo, Fits, Goes, HaltsOn, RowsAdvance, Sheet, left_of, listing, sheet}
use Rattle.dnw_c_messages.specs.declared.rows.Listed.{Listed}
use Rattle.dnw_c_messages.specs.declared.rows.TableRow.{TableRow}
use Rattle.dnw_c_messages.proofs.Steps.{goes_quietly, goes_step, halts_step, halts_task, no_row}
use Rattle.dnw_c_messages.specs.Inside.PlainFields.{IsPlainSize}
use Rattle.dnw_c_messages.proofs.Taken.{past_head, plain_taken}

-- ---- kinds

own_taken : (kind : Kind) (d after : Decoder) (value : FieldValue) → IsOwnKind kind → TakesField kind d value after → TakesOwn kind d value after
own_taken (kinds.Name form) d after value own h = absurd own
own_taken kind d after value own h = h

name_taken : (kind : Kind) (d after : Decoder) (labels : List (List ℕ)) (k : ℕ) → ¬ (IsOwnKind kind) → TakesName d after labels k
    → TakesField kind d (name labels) after
name_taken (kinds.Name form) d after labels k other h = (labels, k, h, refl)
name_taken kind d after labels k other h = absurd (other tt)

pub name_failed : (kind : Kind) (d : Decoder) (error : DecodeError) → ¬ (IsOwnKind kind) → FailsName d error → FailsField kind d error
name_failed (kinds.Name form) d error other h = h
name_failed kind d error other h = absurd (other tt)

pub name_onward : (kind : Kind) (d after : Decoder) (labels : List (List ℕ)) (k p e : ℕ) → ¬ (IsOwnKind kind) → TakesName d after labels k
    → p ≡ d.index → e ≡ after.index → p + head_of kind ≤ e
name_onward kind d after labels k p e other h start end =
    let past = past_head kind d after (name labels) (name_taken kind d after labels k other h) in omega (arith, past, start, end)

pub own_onward : (kind : Kind) (d after : Decoder) (value : FieldValue) (p e : ℕ) → TakesField kind d value after → p ≡ d.index → e ≡ after.index
    → p + head_of kind ≤ e
own_onward kind d after value p e h start end = let past = past_head kind d after value h in omega (arith, past, start, end)

-- ---- a field that is none

pub fault_goes : (kind : Kind) (d : Decoder) (rows new : List TableRow) (names : List ℕ) (at after : Listed) (why : Failure)
    → (error : DecodeError) × FailsField kind d error × (why ≡ of_decode error) → Fits (sheet rows names at)
    → RowsAdvance rows new at after (λ l. with_row l (fault_row why d)) → (kinds : List Kind) (b : List ℕ) (p : ℕ)
    → Goes b (fields (kind ∷ kinds) d ∷ []) p (sheet rows names at) [] p (sheet new names after)
fault_goes kind d rows new names at after why (error, fails, is) fits puts kinds b p =
    goes_step (no_field error fails)
    (subst (λ w. FillsTo (sheet rows names at) (sheet new names after) (with_row (listing (sheet rows names at)) (fault_row w d))) is (puts names fits.names))

pub fault_halts : (kind : Kind) (d : Decoder) (rows : List TableRow) (names : List ℕ) (at : Listed) (why failure : Failure)
    → (error : DecodeError) × FailsField kind d error × (why ≡ of_decode error) → (failure ≡ NoRoom) × (at.row_count ≡ length rows)
    → (kinds : List Kind) (b : List ℕ) (p : ℕ) → HaltsOn b (fields (kind ∷ kinds) d ∷ []) p (sheet rows names at) failure
fault_halts kind d rows names at why failure (error, fails, is) (none, full) kinds b p =
    halts_step (no_field error fails) (no_row rows names at (fault_row (of_decode error) d) full) none

-- ---- a name

module _ (kind : Kind) (d after : Decoder) (labels : List (List ℕ)) (k p e : ℕ) (row : TableRow) (s : Sheet) (other : ¬ (IsOwnKind kind))
    (h : TakesName d after labels k) (row_is : row ≡ field_row kind p e) (start : p ≡ d.index) (end : e ≡ after.index) where
  its_row : row ≡ field_row kind d.index after.index
  its_row = row_is ∙ ap (λ i. field_row kind i e) start ∙ ap (field_row kind d.index) end

  pub name_goes : (t : Sheet) → (k ≤ s.at.left) × FillsTo s t (with_name (listing s) labels k row) → (kinds : List Kind) (b : List ℕ) (q : ℕ)
      → Goes b (fields (kind ∷ kinds) d ∷ []) q s (fields kinds after ∷ []) q t
  name_goes t (few, puts) kinds b q =
      goes_step (name_field other h few) (subst (λ r. FillsTo s t (with_name (listing s) labels k r)) its_row puts)

  fails_name : (kind' : Kind) → kind' ≡ kind → ¬ (IsOwnKind kind') → s.at.left < k → (others : List Kind) (b : List ℕ) (q : ℕ)
      → HaltsOn b (fields (kind' ∷ others) d ∷ []) q s TooManyPointers
  fails_name (kinds.Name form) same some more others b q = halts_task (fields (kinds.Name form ∷ others) d) (after, labels, k, h, more, refl)
  fails_name kind' same some more others b q = absurd (some tt)

  pub name_halts : (failure : Failure)
      → ((failure ≡ TooManyPointers) × (s.at.left < k)) ⊎ ((failure ≡ NoRoom) × (k ≤ s.at.left)
      × Exceeds (length s.rows) (length s.names) (with_name (listing s) labels k row)) → (kinds : List Kind) (b : List ℕ) (q : ℕ)
      → HaltsOn b (fields (kind ∷ kinds) d ∷ []) q s failure
  name_halts failure (inl (is, more)) kinds b q =
      subst (λ f. HaltsOn b (fields (kind ∷ kinds) d ∷ []) q s f) (sym is) (fails_name kind refl other more kinds b q)
  name_halts failure (inr (is, few, much)) kinds b q =
      halts_step (name_field other h few)
      (subst (λ r. Exceeds (length s.rows) (length s.names) (with_name (listing s) labels k r)) its_row much) is

-- ---- another field

entries_differ : (list list' : ItemsValue) (e : ℕ) → entries list e ∷ [] ≡ entries list' e ∷ [] → list ≡ list'
entries_differ list list' e same = cc

size_within : (bytes : List ℕ) (i n : ℕ) → length (next_bytes (record { bytes = bytes; index = i }) n) ≤ n
size_within bytes i n = omega (arith, length-take (i + n - i) (drop i bytes))

own_within : (kind : Kind) (own : List ℕ) (list : ItemsValue) (e : ℕ) → IsOwnKind kind → entries_of (own_value kind own) e ≡ entries list e ∷ []
    → list.octets ≡ own
own_within (kinds.Name form) own list e other is = absurd other
own_within (kinds.List lists.Texts) own list e other is = sym (ap (λ (x : ItemsValue). x.octets) (entries_differ _ list e is))
own_within (kinds.List lists.Types) own list e other is = sym (ap (λ (x : ItemsValue). x.octets) (entries_differ _ list e is))
own_within (kinds.List lists.Params) own list e other is = sym (ap (λ (x : ItemsValue). x.octets) (entries_differ _ list e is))
own_within (kinds.List lists.Prefixes) own list e other is = sym (ap (λ (x : ItemsValue). x.octets) (entries_differ _ list e is))
own_within (kinds.List lists.Names) own list e other is = sym (ap (λ (x : ItemsValue). x.octets) (entries_differ _ list e is))
own_within kind own list e other is = absurd cc

-- a list that ends at an offset has no more octets than are before
pub list_within : (kind : Kind) (d after : Decoder) (value : FieldValue) (e : ℕ) → IsOwnKind kind → TakesField kind d value after → e ≡ after.index
    → (list : ItemsValue) → entries_of value e ≡ entries list e ∷ [] → length list.octets ≤ e
list_within kind d after value e own h end list is =
    let (left, right, value_is, moved) = own_taken kind d after value own h in
    let there : after.index ≡ d.index + size_at kind d = ap (λ (x : Decoder). x.index) moved in
    let octets : list.octets ≡ own_at kind d = own_within kind (own_at kind d) list e own (ap (λ v. entries_of v e) (sym value_is) ∙ is) in
    omega (arith, ap length octets, size_within d.bytes d.index (size_at kind d), there, end)

module _ (kind : Kind) (d after : Decoder) (value : FieldValue) (p e : ℕ) (own : IsOwnKind kind) (h : TakesField kind d value after)
    (start : p ≡ d.index) (end : e ≡ after.index) where
  the_row : field_row kind p e ≡ field_row kind d.index after.index
  the_row = ap (λ i. field_row kind i e) start ∙ ap (field_row kind d.index) end

  pub own_goes : (row : TableRow) (rows new : List TableRow) (names : List ℕ) (at later : Listed) → row ≡ field_row kind p e → Fits (sheet rows names at)
      → RowsAdvance rows new at later (λ l. with_row l row) → (kinds : List Kind) (b : List ℕ) (q : ℕ)
      → Goes b (fields (kind ∷ kinds) d ∷ []) q (sheet rows names at) (entries_of value e ++ fields kinds after ∷ []) q (sheet new names later)
  own_goes row rows new names at later is fits puts kinds b q =
      let s = sheet rows names at in
      let t = sheet new names later in
      let step = subst (λ r. FillsTo s t (with_row (listing s) r)) (is ∙ the_row) (puts names fits.names) in
      subst (λ i. Goes b (fields (kind ∷ kinds) d ∷ []) q s (entries_of value i ++ fields kinds after ∷ []) q t) (sym end)
      (goes_step (own_field own (own_taken kind d after value own h)) step)

  pub own_halts : (rows : List TableRow) (names : List ℕ) (at : Listed) (failure : Failure) → (failure ≡ NoRoom) × (at.row_count ≡ length rows)
      → (kinds : List Kind) (b : List ℕ) (q : ℕ) → HaltsOn b (fields (kind ∷ kinds) d ∷ []) q (sheet rows names at) failure
  own_halts rows names at failure (none, full) kinds b q =
      halts_step (own_field own (own_taken kind d after value own h)) (no_row rows names at (field_row kind d.index after.index) full) none

-- ---- a field that any octets are

module _ (kind : Kind) (d : Decoder) (n : ℕ) (plain : IsPlainSize kind (length d.bytes - d.index) n) (left : HasLeft d n) where
  its_field : TakesField kind d (own_value kind (own_at kind d)) (advanced d n)
  its_field = plain_taken kind d n plain left

  pub plain_halts : (rows : List TableRow) (names : List ℕ) (at : Listed) (failure : Failure) → (failure ≡ NoRoom) × (at.row_count ≡ length rows)
      → (kinds : List Kind) (b : List ℕ) (q : ℕ) → HaltsOn b (fields (kind ∷ kinds) d ∷ []) q (sheet rows names at) failure
  plain_halts rows names at failure full =
      own_halts kind d (advanced d n) (own_value kind (own_at kind d)) d.index (d.index + n) plain.own its_field refl refl rows names at failure full

module _ (kind : Kind) (d after : Decoder) (n : ℕ) (plain : IsPlainSize kind (length d.bytes - d.index) n) (left : HasLeft d n)
    (moved : after ≡ advanced d n) where
  pub plain_goes : (p e : ℕ) → p ≡ d.index → e ≡ after.index → (row : TableRow) → row ≡ field_row kind p e → (rows new : List TableRow) (names : List ℕ) (at later : Listed)
      → Fits (sheet rows names at) → RowsAdvance rows new at later (λ l. with_row l row) → (kinds : List Kind) (b : List ℕ) (q : ℕ)
      → Goes b (fields (kind ∷ kinds) d ∷ []) q (sheet rows names at) (fields kinds after ∷ []) q (sheet new names later)
  plain_goes p e start end row is rows new names at later fits puts kinds b q =
      let value = own_value kind (own_at kind d) in
      let field : TakesField kind d value after = subst (TakesField kind d value) (sym moved) (plain_taken kind d n plain left) in
      subst (λ ts. Goes b (fields (kind ∷ kinds) d ∷ []) q (sheet rows names at) (ts ++ fields kinds after ∷ []) q (sheet new names later))
      (plain.no_list (own_at kind d) e)
      (own_goes kind d after value p e plain.own field start end row rows new names at later is fits puts kinds b q)

-- ---- the end of the data

pub ended : (d : Decoder) (s : Sheet) (kinds : List Kind) → kinds ≡ [] → IsAtEnd d → Fits s → (b : List ℕ) (p : ℕ)
    → Goes b (fields kinds d ∷ []) p s [] p s
ended d s [] none end fits b p = goes_quietly fits (no_fields end)
ended d s (kind ∷ kinds) none end fits b p = absurd cc

pub left_goes : (d : Decoder) (rows new : List TableRow) (names : List ℕ) (at after : Listed) (kinds : List Kind) → kinds ≡ [] → ¬ (IsAtEnd d)
    → Fits (sheet rows names at) → RowsAdvance rows new at after (λ l. with_row l (fault_row WrongDataLength d)) → (b : List ℕ) (p : ℕ)
    → Goes b (fields kinds d ∷ []) p (sheet rows names at) [] p (sheet new names after)
left_goes d rows new names at after [] none some fits puts b p = goes_step (octets_left some) (puts names fits.names)
left_goes d rows new names at after (kind ∷ kinds) none some fits puts b p = absurd cc

pub left_halts : (d : Decoder) (rows : List TableRow) (names : List ℕ) (at : Listed) (failure : Failure) (kinds : List Kind) → kinds ≡ []
    → ¬ (IsAtEnd d) → (failure ≡ NoRoom) × (at.row_count ≡ length rows) → (b : List ℕ) (p : ℕ)
    → HaltsOn b (fields kinds d ∷ []) p (sheet rows names at) failure
left_halts d rows names at failure [] none some (is, full) b p = halts_step (octets_left some) (no_row rows names at (fault_row WrongDataLength d) full) is
left_halts d rows names at failure (kind ∷ kinds) none some is b p = absurd cc

pub fields_over : {b : List ℕ} {ts : List Task} {p q : ℕ} {s t : Sheet} (more : Bool) (kinds : List Kind) (d : Decoder) → more ≡ false
    → Goes b ts p s (left_of more kinds d) q t → Goes b ts p s [] q t
fields_over {b} {ts} {p} {q} {s} {t} more kinds d is g = subst (λ m. Goes b ts p s (left_of m kinds d) q t) is g

pub fields_on : {b : List ℕ} {ts : List Task} {p q : ℕ} {s t : Sheet} (more : Bool) (kinds : List Kind) (d : Decoder) → more ≡ true
    → Goes b ts p s (left_of more kinds d) q t → Goes b ts p s (fields kinds d ∷ []) q t
fields_on {b} {ts} {p} {q} {s} {t} more kinds d is g = subst (λ m. Goes b ts p s (left_of m kinds d) q t) is g

-- ---- entries

module _ (list after : ItemsValue) (tag e : ℕ) (own bytes : List ℕ) (row : TableRow) (tag_is : tag ≡ tag_of list.kind list.octets)
    (own_is : own ≡ slice_range list.octets (entry_head list.kind) (entry_size list.kind list.octets))
    (after_is : after ≡ record { kind = list.kind; octets = drop (entry_size list.kind list.octets) list.octets })
    (bytes_are : bytes ≡ after.octets) (row_is : row ≡ data_row entry_kind tag (e - length bytes - length own) (length own))
    (fewer : length after.octets < length list.octets) where
  its_entry : row ≡ entry_row list e
  its_entry =
      let rest : bytes ≡ drop (entry_size list.kind list.octets) list.octets = bytes_are ∙ ap (λ (x : ItemsValue). x.octets) after_is in
      row_is ∙ ap (λ t. data_row entry_kind t (e - length bytes - length own) (length own)) tag_is
      ∙ ap (λ (bs : List ℕ). data_row entry_kind (tag_of list.kind list.octets) (e - length bs - length own) (length own)) rest
      ∙ ap (λ (o : List ℕ). data_row entry_kind (tag_of list.kind list.octets)
      (e - length (drop (entry_size list.kind list.octets) list.octets) - length o) (length o)) own_is

  some_left : list.octets ≢ []
  some_left none = absurd (omega (arith, fewer, ap length none))

  pub entry_goes : (rows new : List TableRow) (at later : Listed) → at.row_count ≤ length rows → RowsAdvance rows new at later (λ l. with_row l row)
      → (names : List ℕ) → at.names_len ≤ length names → (b : List ℕ) (p : ℕ)
      → Goes b (entries list e ∷ []) p (sheet rows names at) (entries after e ∷ []) p (sheet new names later)
  entry_goes rows new at later fits puts names few b p =
      let s = sheet rows names at in
      let t = sheet new names later in
      let put = subst (λ r. FillsTo s t (with_row (listing s) r)) its_entry (puts names few) in
      subst (λ x. Goes b (entries list e ∷ []) p s (entries x e ∷ []) p t) (sym after_is) (goes_step (entry some_left) put)

  pub entry_halts : (rows : List TableRow) (at : Listed) (failure : Failure) → (failure ≡ NoRoom) × (at.row_count ≡ length rows)
      → (names : List ℕ) (b : List ℕ) (p : ℕ) → HaltsOn b (entries list e ∷ []) p (sheet rows names at) failure
  entry_halts rows at failure (is, full) names b p = halts_step (entry some_left) (no_row rows names at (entry_row list e) full) is

-- an entry lies before where its list ends
pub entry_within : (list after : ItemsValue) (e : ℕ) (own : List ℕ) → length list.octets ≤ e
    → own ≡ slice_range list.octets (entry_head list.kind) (entry_size list.kind list.octets)
    → after ≡ record { kind = list.kind; octets = drop (entry_size list.kind list.octets) list.octets }
    → length own ≤ e - length after.octets
entry_within list after e own few own_is after_is =
    let n = entry_size list.kind list.octets in
    let h = entry_head list.kind in
    let rest : length after.octets ≡ length list.octets - n = ap (λ (x : ItemsValue). length x.octets) after_is ∙ length-drop n list.octets in
    omega (arith, rest, few, ap length own_is, length-take (n - h) (drop h list.octets), length-drop h list.octets)
