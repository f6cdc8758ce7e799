-- Reading a name of a message, with compression pointers (RFC 1035, section 4.1.4).
--
-- A name is read in segments. The first starts where the name does, and each pointer starts another, which must begin
-- before the segment that it was reached from. No element of a segment may begin at its limit or after it, which is the
-- start of that other segment. So a pointer must point before the start of its own segment.
use Rattle.std.specs.Prelude.{◌≡◌, ℕ, suc, ◌+◌, ◌-◌, ◌*◌, ◌<◌, ◌≤◌, Option, Some, None, List, [], ◌∷◌, length, slice_get, slice_range}
use Rattle.dnw_base.specs.declared.error.DecodeError.{DecodeError}
use Rattle.dnw_base.specs.declared.error.DecodeError.TheVariants.{LabelOverlapsWithOther, InsufficientBytes, PointerNotPriorToLabel, DomainNameTooLong, UnrecognizedLabelCode}
use Rattle.dnw_base.specs.Decoder.{Decoder}
use Rattle.dnw_base.specs.Limits.{max_label, max_name, pointer_bits}
use Rattle.dnw_base.specs.Names.{encoded_size}

-- an element may begin here
abbrev pub IsWithin : ℕ → Option ℕ → Type 0
IsWithin p None = Unit {0}
IsWithin p (Some limit) = p < limit

-- the offset that a pointer points to: the low 14 bits of its two octets
abbrev pub target : ℕ → ℕ → ℕ
target high low = (high - pointer_bits) * 256 + low

-- Reads b p s limit ls e k: in the message b, from offset p on, in a segment that started at s and has this limit, the
-- labels ls are read, the name's own octets end at e, and k pointers are followed.
pub data Reads (b : List ℕ) : ℕ → ℕ → Option ℕ → List (List ℕ) → ℕ → ℕ → Type 0 where
  -- a zero octet ends the name
  zero_octet : {p s : ℕ} {limit : Option ℕ}
      → IsWithin p limit → slice_get b p ≡ Some 0
      → Reads b p s limit [] (p + 1) 0
  -- a length octet of 1 to 63, and a label of so many octets
  label : {p s e k : ℕ} {limit : Option ℕ} {ls : List (List ℕ)} (c : ℕ)
      → IsWithin p limit → slice_get b p ≡ Some c → 1 ≤ c → c ≤ max_label → p + 1 + c ≤ length b
      → Reads b (p + 1 + c) s limit ls e k
      → Reads b p s limit (slice_range b (p + 1) (p + 1 + c) ∷ ls) e k
  -- a pointer of two octets, after which the name's own octets end; the second octet may be at the limit
  pointer : {p s e k : ℕ} {limit : Option ℕ} {ls : List (List ℕ)} (high low : ℕ)
      → IsWithin p limit → slice_get b p ≡ Some high → pointer_bits ≤ high → slice_get b (p + 1) ≡ Some low → target high low < s
      → Reads b (target high low) (target high low) (Some s) ls e k
      → Reads b p s limit ls (p + 2) (suc k)

-- There is a name at p: these labels, which fit into a name; its own octets end at e, and k pointers are followed.
pub record NameAt (b : List ℕ) (p : ℕ) (ls : List (List ℕ)) (e k : ℕ) : Type 0 where
  pub reads : Reads b p p None ls e k
  pub fits : encoded_size ls ≤ max_name

-- Stops b p s limit n error k j: reading stops with this error. n is the encoded size so far, with the closing zero, and
-- from here on k pointers are followed and j labels found. A label counts if its octets are there, also the one that
-- makes the name too long.
pub data Stops (b : List ℕ) : ℕ → ℕ → Option ℕ → ℕ → DecodeError → ℕ → ℕ → Type 0 where
  -- the segment runs into the one that it was reached from
  overlap : {p s limit n : ℕ}
      → limit ≤ p
      → Stops b p s (Some limit) n (LabelOverlapsWithOther s limit) 0 0
  -- the message ends where an element should begin
  no_octet : {p s n : ℕ} {limit : Option ℕ}
      → IsWithin p limit → length b ≤ p
      → Stops b p s limit n InsufficientBytes 0 0
  -- the second octet of a pointer is missing
  half_pointer : {p s n : ℕ} {limit : Option ℕ} (high : ℕ)
      → IsWithin p limit → slice_get b p ≡ Some high → pointer_bits ≤ high → length b ≤ p + 1
      → Stops b p s limit n InsufficientBytes 0 0
  -- a pointer does not point before its own segment
  not_prior : {p s n : ℕ} {limit : Option ℕ} (high low : ℕ)
      → IsWithin p limit → slice_get b p ≡ Some high → pointer_bits ≤ high → slice_get b (p + 1) ≡ Some low → s ≤ target high low
      → Stops b p s limit n (PointerNotPriorToLabel p (target high low)) 0 0
  -- reading stops after a pointer
  pointer : {p s n k j : ℕ} {limit : Option ℕ} {error : DecodeError} (high low : ℕ)
      → IsWithin p limit → slice_get b p ≡ Some high → pointer_bits ≤ high → slice_get b (p + 1) ≡ Some low → target high low < s
      → Stops b (target high low) (target high low) (Some s) n error k j
      → Stops b p s limit n error (suc k) j
  -- the message ends within a label
  cut_label : {p s n : ℕ} {limit : Option ℕ} (c : ℕ)
      → IsWithin p limit → slice_get b p ≡ Some c → 1 ≤ c → c ≤ max_label → length b < p + 1 + c
      → Stops b p s limit n InsufficientBytes 0 0
  -- a label makes the name too long
  too_long : {p s n : ℕ} {limit : Option ℕ} (c : ℕ)
      → IsWithin p limit → slice_get b p ≡ Some c → 1 ≤ c → c ≤ max_label → p + 1 + c ≤ length b → max_name < n + 1 + c
      → Stops b p s limit n (DomainNameTooLong c) 0 1
  -- reading stops after a label
  label : {p s n k j : ℕ} {limit : Option ℕ} {error : DecodeError} (c : ℕ)
      → IsWithin p limit → slice_get b p ≡ Some c → 1 ≤ c → c ≤ max_label → p + 1 + c ≤ length b → n + 1 + c ≤ max_name
      → Stops b (p + 1 + c) s limit (n + 1 + c) error k j
      → Stops b p s limit n error k (suc j)
  -- an octet from 64 to 191 begins no element
  reserved : {p s n : ℕ} {limit : Option ℕ} (c : ℕ)
      → IsWithin p limit → slice_get b p ≡ Some c → max_label < c → c < pointer_bits
      → Stops b p s limit n (UnrecognizedLabelCode c) 0 0

-- There is no name at p: reading stops with this error, after k pointers and j labels.
abbrev pub FaultAt : List ℕ → ℕ → DecodeError → ℕ → ℕ → Type 0
FaultAt b p error k j = Stops b p p None 1 error k j

-- The decoder was at a name, and is after the name's own octets now.
pub record TakesName (before after : Decoder) (ls : List (List ℕ)) (k : ℕ) : Type 0 where
  pub end : ℕ
  pub name : NameAt before.bytes before.index ls end k
  pub moved : after ≡ record { bytes = before.bytes; index = end }

-- The decoder is where reading a name stops with this error.
abbrev pub StopsAt : Decoder → DecodeError → ℕ → ℕ → Type 0
StopsAt before error k j = FaultAt before.bytes before.index error k j
