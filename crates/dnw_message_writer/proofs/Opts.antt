-- OPT records, whose data are any octets.
use Rattle.std.proofs.Common.{◌≡◌, ◌==◌, ◌||◌, false, replicate, get_or, Result, Ok, Err, OnOk, IfErr, Some, ◌<◌, arith, ℕ, List, [], ◌∷◌, ◌++◌, length, take, inl, inr, refl, sym, ap, subst}
use Rattle.std.specs.Int.{w16, to_be_bytes}
use Rattle.std.specs.List.{flat_map}
use Rattle.std.proofs.lemmas.Bool.{cases_Bool}
use Rattle.std.proofs.lemmas.List.{append-nil, take-replicate}
use Rattle.dnw_data.specs.Table.{fields_of, fields_of_some, hex, is_internet_type, is_like_internet, may_lack_data}
use Rattle.dnw_record.specs.DataPieces.{IsData, octets_piece}
use Rattle.dnw_message_writer.specs.Data.{AreOfData, names_among, whole_octets}
use Rattle.dnw_message_writer.specs.Edns.{padding}
use Rattle.dnw_message_writer.specs.Items.{ItemForm, ItemPast}
use Rattle.dnw_message_writer.specs.States.{AddsItem, FailsToAdd, room_of}
use Rattle.dnw_message_writer.specs.declared.pieces.Piece.{Piece}
use Rattle.dnw_message_writer.specs.declared.section.Section.{Section}
use Rattle.dnw_message_writer.specs.declared.section.WriteError.{WriteError}
use Rattle.dnw_message_writer.specs.declared.state.WriterState.{WriterState}
use Rattle.dnw_message_writer.proofs.Splitting.{of_all}

-- an item of a form is one of another form that it has too
pub adds_as : (s : Section) (form other : ItemForm) (w : WriterState) (old : List ℕ) (v : WriterState) (new : List ℕ)
    → form.is_opt ≡ other.is_opt
    → ((b : List ℕ) (near : ℕ) (hints octets after : List ℕ) → form.writes b near hints octets after → other.writes b near hints octets after)
    → AddsItem s form w old v new → AddsItem s other w old v new
adds_as s form other w old v new same f (octets, hints, is, limit, fits, new_is, after_is) =
    (octets, hints, f (take w.end old) w.owner w.hints octets hints is, rw same at limit, fits, new_is, rw same at after_is)

pub fails_as : (s : Section) (past other : ItemPast) (w : WriterState) (m : List ℕ) (e : WriteError) → past.is_opt ≡ other.is_opt
    → ((limit : ℕ) (b : List ℕ) (near : ℕ) (hints : List ℕ) → past.goes limit b near hints → other.goes limit b near hints)
    → FailsToAdd s past w m e → FailsToAdd s other w m e
fails_as s past other w m e same f (inl no_limit) = inl (rw same at no_limit)
fails_as s past other w m e same f (inr (limit, goes, is)) =
    inr (rw same at limit, f (room_of w m) (take w.end m) w.owner w.hints goes, is)

some_opt : (class : ℕ) (d : List ℕ) → fields_of_some class 41 d ≡ hex ∷ []
unfolding is_internet_type
some_opt class d = elim (cases_Bool (is_like_internet class)) [
  | inl like ↦ rw like refl
  | inr other ↦ rw other refl
]

never_lacks : (class : ℕ) → may_lack_data class 41 ≡ false
never_lacks class = elim (cases_Bool (class == 254 || class == 255)) [
  | inl any ↦ rw any refl
  | inr other ↦ rw other refl
]

opt_fields : (class : ℕ) (d : List ℕ) → fields_of class 41 d ≡ hex ∷ []
unfolding fields_of
opt_fields class [] = rw (never_lacks class) (some_opt class [])
opt_fields class (x ∷ xs) = some_opt class (x ∷ xs)

any_data : (d : List ℕ) → IsData (hex ∷ []) d
any_data d = (
  octets_piece d ∷ [],
  record { are = ((ap length (sym (append-nil d)), refl), tt); whole = sym (append-nil d) },
)

pub opt_pieces : (class : ℕ) (d : List ℕ) (xs : List Piece) → flat_map whole_octets xs ≡ d → ((at : ℕ) → names_among at xs ≡ [])
    → AreOfData (fields_of class 41 d) d xs
opt_pieces class d xs whole names =
    subst (λ ks. AreOfData ks d xs) (sym (opt_fields class d)) (of_all (hex ∷ []) d xs refl (any_data d) whole names)

pub on_ok_as : {A E : Type 0} (r : Result A E) {P Q : Type 0} → (P → Q) → OnOk r P → OnOk r Q
on_ok_as (Ok x) f h = f h
on_ok_as (Err e) f h = tt

pub if_err_as : {A E : Type 0} (r : Result A E) (P Q : E → Type 0) → ((e : E) → P e → Q e) → IfErr r P → IfErr r Q
if_err_as (Ok x) P Q f h = tt
if_err_as (Err e) P Q f h = f e h

-- the octets of the option Padding
pub padding_is : (len : List ℕ) (size : ℕ) → len ≡ to_be_bytes w16 size → size < 512
    → (0 ∷ 12 ∷ get_or len 0 0 ∷ get_or len 1 0 ∷ []) ++ take size (replicate 512 0) ≡ padding (Some size)
padding_is len size is small =
    rw is (ap (λ o. (0 ∷ 12 ∷ to_be_bytes w16 size) ++ o) (take-replicate size 512 0 (omega (arith, small))))
