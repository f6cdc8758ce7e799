-- What a run writes after the old bytes, chunk by chunk: parts, records and placeholders.
use Rattle.std.proofs.Common.{◌≡◌, ℕ, zero, suc, ◌+◌, ◌≤◌, Bool, List, [], ◌∷◌, ◌++◌, length, map, take, slice_get, slice_range, Some, refl, sym, ap, ◌∙◌, append_assoc, arith}
use Rattle.std.specs.List.{AllByRecursion, flat_map}
use Rattle.std.specs.Int.{w16, to_be_bytes}
use Rattle.std.proofs.lemmas.List.{length-append, append-nil}
use Rattle.dnw_write.specs.declared.encoder.modes.NameEncoding.{NameEncoding}
use Rattle.dnw_name_read.proofs.Back.{slice_range_middle}
use Rattle.dnw_write_script.specs.declared.wire_record.WireRecord.{WireRecord}
use Rattle.dnw_write_script.specs.Parts.{WirePart, name_part}
use Rattle.dnw_write_script.specs.Pieces.{BytesStand, Piece, PieceAt, PiecesLie, filled_in, place_piece, record_piece, wire_piece}

-- What is written at once: a part, or a record by the mode and in canonical form or not.
pub data Content : Type 0 where
  of_part : WirePart → Content
  of_record : NameEncoding → Bool → WireRecord → Content

abbrev pub piece_in : Content → Piece
piece_in (of_part part) = wire_piece part
piece_in (of_record mode canonical r) = record_piece mode canonical r

-- What was written, as these bytes, or a placeholder with its value.
pub data Chunk : Type 0 where
  wrote : Content → List ℕ → Chunk
  place : ℕ → Chunk

abbrev pub bytes_of : Chunk → List ℕ
bytes_of (wrote content d) = d
bytes_of (place value) = to_be_bytes w16 value

abbrev pub laid : List Chunk → List ℕ
laid cs = flat_map bytes_of cs

-- These bytes may be there: at a placeholder any two.
abbrev pub MayBe : Chunk → List ℕ → Type 0
MayBe (wrote content d) e = e ≡ d
MayBe (place value) e = length e ≡ 2

-- Other bytes begin with b and the chunks after it, whatever is in the placeholders.
abbrev pub Begins : List ℕ → List Chunk → List ℕ → Type 0
Begins b [] x = (more : List ℕ) × (x ≡ b ++ more)
Begins b (c ∷ cs) x = (e : List ℕ) × MayBe c e × Begins (b ++ e) cs x

abbrev pub piece_of : Chunk → Piece
piece_of (wrote content d) = piece_in content
piece_of (place value) = place_piece value

-- the offset after the chunks that begin at p
abbrev pub upto : ℕ → List Chunk → ℕ
upto p [] = p
upto p (c ∷ cs) = upto (p + length (bytes_of c)) cs

-- and those after the placeholders
abbrev pub ends_of : ℕ → List Chunk → List ℕ
ends_of p [] = []
ends_of p (wrote content d ∷ cs) = ends_of (p + length d) cs
ends_of p (place value ∷ cs) = (p + 2) ∷ ends_of (p + 2) cs

-- The piece of a part or record is there.
abbrev pub Stands : List ℕ → ℕ → Chunk → Type 0
Stands x p (wrote content d) = PieceAt x (piece_in content) p (p + length d)
Stands x p (place value) = Unit {0}

abbrev pub Standing : List ℕ → ℕ → List Chunk → Type 0
Standing x p [] = Unit {0}
Standing x p (c ∷ cs) = Stands x p c × Standing x (p + length (bytes_of c)) cs

-- ---- more chunks

pub ends_append : (p : ℕ) (cs ds : List Chunk) → ends_of p (cs ++ ds) ≡ ends_of p cs ++ ends_of (upto p cs) ds
ends_append p [] ds = refl
ends_append p (wrote content d ∷ cs) ds = ends_append (p + length d) cs ds
ends_append p (place value ∷ cs) ds = ap (λ (es : List ℕ). (p + 2) ∷ es) (ends_append (p + 2) cs ds)

pub upto_laid : (p : ℕ) (cs : List Chunk) → upto p cs ≡ p + length (laid cs)
upto_laid p [] = omega arith
upto_laid p (c ∷ cs) = omega (arith, upto_laid (p + length (bytes_of c)) cs, length-append (bytes_of c) (laid cs))

pub standing_join : (x : List ℕ) (p : ℕ) (cs ds : List Chunk) → Standing x p cs → Standing x (upto p cs) ds → Standing x p (cs ++ ds)
standing_join x p [] ds h more = more
standing_join x p (c ∷ cs) ds h more = (h.0, standing_join x (p + length (bytes_of c)) cs ds h.1 more)

pub standing_split : (x : List ℕ) (p : ℕ) (cs ds : List Chunk) → Standing x p (cs ++ ds) → Standing x p cs × Standing x (upto p cs) ds
standing_split x p [] ds h = (tt, h)
standing_split x p (c ∷ cs) ds h = let (some, more) = standing_split x (p + length (bytes_of c)) cs ds h.1 in ((h.0, some), more)

-- each placeholder ends before the end
pub ends_most : (p most : ℕ) (cs : List Chunk) → upto p cs ≤ most → AllByRecursion (λ e. e ≤ most) (ends_of p cs)
ends_most p most [] le = tt
ends_most p most (wrote content d ∷ cs) le = ends_most (p + length d) most cs le
ends_most p most (place value ∷ cs) le = (omega (arith, le, upto_laid (p + 2) cs), ends_most (p + 2) most cs le)

-- ---- bytes that begin with chunks

own : (c : Chunk) → MayBe c (bytes_of c)
own (wrote content d) = refl
own (place value) = refl

length_may_be : (c : Chunk) (e : List ℕ) → MayBe c e → length e ≡ length (bytes_of c)
length_may_be (wrote content d) e may = ap length may
length_may_be (place value) e may = may

pub begins_laid : (b x more : List ℕ) (cs : List Chunk) → x ≡ b ++ (laid cs ++ more) → Begins b cs x
begins_laid b x more [] is = (more, is)
begins_laid b x more (c ∷ cs) is = (bytes_of c, own c, begins_laid (b ++ bytes_of c) x more cs (is ∙ simp append_assoc))

begins_front : (b x : List ℕ) (cs : List Chunk) → Begins b cs x → (more : List ℕ) × (x ≡ b ++ more)
begins_front b x [] h = h
begins_front b x (c ∷ cs) (e, may, h) = let (more, is) = begins_front (b ++ e) x cs h in (e ++ more, is ∙ append_assoc b e more)

-- The bytes up to where the others follow begin with the first chunks.
pub begins_split : (b x : List ℕ) (cs ds : List Chunk) → Begins b (cs ++ ds) x
    → (y : List ℕ) × (length y ≡ upto (length b) cs) × Begins b cs y × Begins y ds x
begins_split b x [] ds h = (b, refl, ([], sym (append-nil b)), h)
begins_split b x (c ∷ cs) ds (e, may, h) =
    let (y, size, first, more) = begins_split (b ++ e) x cs ds h in
    (y, cc (size, length-append b e, length_may_be c e may), (e, may, first), more)

-- Other chunks may follow the first ones.
pub begins_others : (b x : List ℕ) (cs ds es : List Chunk) → ((y : List ℕ) → Begins y ds x → Begins y es x) → Begins b (cs ++ ds) x → Begins b (cs ++ es) x
begins_others b x [] ds es others h = others b h
begins_others b x (c ∷ cs) ds es others (e, may, h) = (e, may, begins_others (b ++ e) x cs ds es others h)

-- So they begin with the first chunks.
pub begins_first : (b x : List ℕ) (cs ds : List Chunk) → Begins b (cs ++ ds) x → Begins b cs x
begins_first b x cs ds h = rw append-nil at (begins_others b x cs ds [] (λ y more. begins_front y x ds more) h)

-- ---- pieces

-- bytes after others are there
pub bytes_stand : (x y d more : List ℕ) (p : ℕ) → x ≡ y ++ (d ++ more) → length y ≡ p → BytesStand x d p (p + length d)
bytes_stand x y d more p is size = (
  ap (λ z. slice_range z p (p + length d)) is ∙ slice_range_middle y d more p (p + length d) (sym size) refl,
  refl,
  omega (arith, size, ap length is, length-append y (d ++ more), length-append d more),
)

piece_stands : (x b more : List ℕ) (p : ℕ) (c : Chunk) → x ≡ b ++ (bytes_of c ++ more) → length b ≡ p → Stands x p c → PieceAt x (piece_of c) p (p + length (bytes_of c))
piece_stands x b more p (wrote content d) is size h = h
piece_stands x b more p (place value) is size h = bytes_stand x b (to_be_bytes w16 value) more p is size

-- In the bytes of the chunks the first k pieces are there.
pub spells : (x b : List ℕ) (p k : ℕ) (cs : List Chunk) → length b ≡ p → x ≡ b ++ laid cs → Standing x p cs
    → PiecesLie x (take k (map piece_of cs)) p (upto p (take k cs))
spells x b p (suc k) (c ∷ cs) size is h =
    let d = bytes_of c in (
      p + length d,
      piece_stands x b (laid cs) p c is size h.0,
      spells x (b ++ d) (p + length d) k cs (omega (arith, size, length-append b d)) (is ∙ sym (append_assoc b d (laid cs))) h.1,
    )
spells x b p k cs size is h = refl

-- ---- a placeholder is filled

-- another value ends where the first one did
pub upto_filled : (p k value other : ℕ) (front back : List Chunk)
    → upto p (take k (front ++ place value ∷ back)) ≡ upto p (take k (front ++ place other ∷ back))
upto_filled p (suc k) value other (c ∷ front) back = upto_filled (p + length (bytes_of c)) k value other front back
upto_filled p k value other front back = refl

-- neither a part nor a record is a placeholder
filled_after : (number value : ℕ) (content : Content) (ps : List Piece) → filled_in (piece_in content ∷ ps) number value ≡ piece_in content ∷ filled_in ps number value
filled_after number value (of_part (name_part mode name)) ps = refl
filled_after number value content ps = refl

-- The placeholder of a number, which ends there, among the chunks, and their pieces once it has another value.
abbrev pub Splits : ℕ → ℕ → ℕ → List Chunk → ℕ → Type 0
Splits number value p cs end =
    (front : List Chunk) × (held : ℕ) × (back : List Chunk) × (cs ≡ front ++ place held ∷ back) × (upto p front + 2 ≡ end) × (end ≤ upto p cs)
    × (filled_in (map piece_of cs) number value ≡ map piece_of (front ++ place value ∷ back))

pub split_at : (number value p : ℕ) (cs : List Chunk) (end : ℕ) → slice_get (ends_of p cs) number ≡ Some end → Splits number value p cs end
split_at number value p [] end here = absurd cc
split_at number value p (wrote content d ∷ cs) end here =
    let (front, held, back, whole, ends, within, pieces) = split_at number value (p + length d) cs end here in
    (wrote content d ∷ front, held, back, cc, ends, within, cc (filled_after number value content (map piece_of cs)))
split_at zero value p (place held ∷ cs) end here = let ends : p + 2 ≡ end = cc in ([], held, cs, refl, ends, omega (arith, upto_laid (p + 2) cs), refl)
split_at (suc number) value p (place held ∷ cs) end here =
    let (front, other, back, whole, ends, within, pieces) = split_at number value (p + 2) cs end here in
    (place held ∷ front, other, back, cc, ends, within, cc)
