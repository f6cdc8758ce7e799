-- Lists of record types (RFC 4034, section 4.2; RFC 5155, section 3.3; RFC 7477, section 2.1.2): the names of types, in any order
-- when they are parsed, and in the order of their codes when they are printed.
use Rattle.std.specs.Prelude.{ℕ, zero, suc, ◌≡◌, ◌≢◌, ◌-◌, ◌*◌, ◌==◌, ◌&&◌, Bool, false, not, nat_le, if◌then◌else◌, List, [], ◌∷◌, ◌++◌, length, take, drop, slice_index, flat_map, Option, Some, None, option_map, codes as text_codes}
use Rattle.std.specs.List.{list_any}
use Rattle.std.specs.Str.{IsUtf8}
use Rattle.dnw_base.specs.CodeTexts.{numbered}
use Rattle.dnw_base.specs.declared.record_type.RecordType.{RecordType}
use Rattle.dnw_base.specs.RecordTypes.{type_code as code_of, type_text, type_of_code, type_of_text}
use Rattle.dnw_data.specs.declared.kind.ListKind.TheVariants as lists
use Rattle.dnw_data.specs.Values.{FieldValue, type_code, types, items}
use Rattle.dnw_data.specs.TypeSets.{IsSetOf, Encodes, set_codes, octets_codes, window_size}
use Rattle.dnw_base.specs.Limits.{max_window}
use Rattle.dnw_zone_data.specs.Words.{after_spaces, word, after_word, is_asterisk}

-- ---- printing

-- the octets of a window that is as short as it can be: at most 32, and the last has a bit
abbrev pub is_window : List ℕ → Bool
is_window octets = nat_le (length octets) max_window && not (slice_index octets (length octets - 1) == 0)

-- the codes of a bitmap of at most so many windows, if each is as short as it can be (RFC 4034, section 4.1.2)
abbrev pub codes_within : ℕ → List ℕ → Option (List ℕ)
codes_within n [] = Some []
codes_within zero bytes = None
codes_within (suc n) (number ∷ []) = None
codes_within (suc n) (number ∷ len ∷ bytes) =
    if nat_le len (length bytes) && is_window (take len bytes)
    then option_map (λ codes. octets_codes (window_size * number) (take len bytes) ++ codes) (codes_within n (drop len bytes))
    else None

-- Types whose names fewer than three of BIND, NSD, Knot, ldns and dnspython read, or of which one of them makes another type: EID, NIMLOC,
-- ATMA, SINK, NINFO, RKEY, TALINK, DSYNC, HHIT, BRID, UINFO, UID, GID, UNSPEC, NXNAME, AVC, DOA, AMTRELAY, RESINFO, WALLET, CLA, IPN and
-- TA.
abbrev pub unread_names : List ℕ
unread_names =
    31 ∷ 32 ∷ 34 ∷ 40 ∷ 56 ∷ 57 ∷ 58 ∷ 66 ∷ 67 ∷ 68 ∷ 100 ∷ 101 ∷ 102 ∷ 103 ∷ 128 ∷ 258 ∷ 259 ∷ 260 ∷ 261 ∷ 262 ∷ 263 ∷ 264 ∷ 32768 ∷ []

unfoldable pub has_unread_name : ℕ → Bool
has_unread_name code = list_any (λ known. known == code) unread_names

-- the text of a type in data: its name, or `TYPE` and its code, which all of them read (RFC 3597, section 5)
abbrev pub shown_type : RecordType → List ℕ
shown_type kind = if has_unread_name (code_of kind) then numbered (text_codes "TYPE") (code_of kind) else type_text kind

-- a type after a space
abbrev pub code_text : ℕ → List ℕ
code_text code = 32 ∷ shown_type (type_of_code code)

abbrev pub codes_text : List ℕ → List ℕ
codes_text codes = flat_map code_text codes

-- The text is that of the types of a bitmap, which is as short as it can be.
abbrev pub PrintsTypes : List ℕ → List ℕ → Type 0
PrintsTypes own text = (codes : List ℕ) × (codes_within (length own) own ≡ Some codes) × (text ≡ codes_text codes)

-- ---- parsing

-- a word is this type
abbrev pub IsTypeWord : List ℕ → RecordType → Type 0
IsTypeWord text kind = IsUtf8 text × (type_of_text text ≡ Some kind) × (is_asterisk text ≡ false)

-- a word is a type, as the field that it makes
abbrev pub IsTypeField : List ℕ → FieldValue → Type 0
IsTypeField text value = (code : RecordType) × IsTypeWord text code × (value ≡ type_code code)

-- the words of a text are these types
abbrev pub AreTypeWords : List ℕ → List RecordType → Type 0
AreTypeWords left [] = after_spaces left ≡ []
AreTypeWords left (kind ∷ kinds) =
    (after_spaces left ≢ []) × IsTypeWord (word (after_spaces left)) kind × AreTypeWords (after_word (after_spaces left)) kinds

-- the octets are the bitmap of these types, as short as it can be
abbrev pub AreBitmap : List RecordType → List ℕ → Type 0
AreBitmap listed own = (set : List RecordType) × IsSetOf listed set × Encodes (set_codes set) own

-- the words of a text are types, and this is their bitmap; there may be none
abbrev pub AreTypes : List ℕ → FieldValue → Type 0
AreTypes left value =
    (listed : List RecordType) × (own : List ℕ) × AreTypeWords left listed × AreBitmap listed own × (value ≡ types (items lists.Types own))
