-- What the walk over a message's items knows.
use Rattle.std.specs.Prelude.{◌≡◌, ℕ, suc, ◌+◌, ◌-◌, ◌*◌, ◌<◌, ◌≤◌, nat_le, nat_lt, if◌then◌else◌, Bool, false, Some, List, length, slice_get}
use Rattle.std.specs.List.{list_any}
use Rattle.dnw_base.specs.Decoder.{Decoder}
use Rattle.dnw_base.specs.Limits.{max_name, pointer_offsets}
use Rattle.dnw_base.specs.Names.{encoded_size}
use Rattle.dnw_name_read.specs.Reading.{Reads}
use Rattle.dnw_message_read.specs.declared.passing.Known.{Known}
use Rattle.dnw_message_read.specs.declared.error.MessageError.{MessageError}
use Rattle.dnw_message_read.specs.declared.error.Section.{Section}
use Rattle.dnw_message_read.specs.declared.error.Section.TheVariants as section
use Rattle.dnw_message_read.specs.Edns.{is_opt}
use Rattle.dnw_message_read.specs.Messages.{FailsHere, Item, ItemAt, ItemsAt, rest_of}
use Rattle.dnw_record.specs.Records.{fixed_at, type_field}

-- whether the item of a section whose name ends at e is an OPT record
abbrev pub opt_at : Section → List ℕ → ℕ → Bool
opt_at section.Queries b e = false
opt_at kind b e = is_opt (type_field (fixed_at b e))

-- whether one of these items is
abbrev pub any_opt : Section → List ℕ → List Item → Bool
any_opt section b items = list_any (λ x. opt_at section b x.name_end) items

-- A decoder moved past an item, whose pointers were taken from those that are left, and found whether it is an OPT record.
pub record PassesItem (section : Section) (before after : Decoder) (left now : ℕ) (found : Bool) : Type 0 where
  pub item : Item
  pub pointers : ℕ
  pub at : ItemAt (rest_of section) before.bytes before.index item after.index pointers
  pub found_is : found ≡ opt_at section before.bytes item.name_end
  pub taken : now + pointers ≡ left
  pub same : after.bytes ≡ before.bytes

-- It moved past so many items, and found whether one of them is.
pub record PassesItems (section : Section) (count : ℕ) (before after : Decoder) (left now : ℕ) (found : Bool) : Type 0 where
  pub items : List Item
  pub pointers : ℕ
  pub at : ItemsAt (rest_of section) before.bytes before.index items after.index pointers
  pub found_is : found ≡ any_opt section before.bytes items
  pub counted : length items ≡ count
  pub taken : now + pointers ≡ left
  pub same : after.bytes ≡ before.bytes

-- It is at an item that fails.
pub record FailsOne (section : Section) (item : ℕ) (before : Decoder) (left : ℕ) (error : MessageError) : Type 0 where
  pub section_is : error.section ≡ section
  pub item_is : error.item ≡ item
  pub offset_is : error.offset ≡ before.index
  pub why : FailsHere (rest_of section) before.bytes before.index left error.kind

-- ---- pointers that are known

-- the least number that the two octets of a pointer are (section 4.1.4)
abbrev pub first_pointer : ℕ
first_pointer = 49152

-- These two octets are at p, the high one first.
abbrev pub IsPointer : List ℕ → ℕ → ℕ → Type 0
IsPointer b p octets =
    (high : ℕ) × (low : ℕ) × (slice_get b p ≡ Some high) × (slice_get b (p + 1) ≡ Some low) × (low < 256) × (octets ≡ high * 256 + low)

-- A name at p that is a pointer to t follows k pointers.
pub record LeadsFrom (b : List ℕ) (p t k : ℕ) : Type 0 where
  pub labels : List (List ℕ)
  pub end : ℕ
  pub further : ℕ
  pub prior : t < p
  pub reads : Reads b t t (Some p) labels end further
  pub fits : encoded_size labels ≤ max_name
  pub counted : k ≡ suc further

-- What is known of a pointer holds of a name at p: nothing of a number that is none.
abbrev pub IsKnown : List ℕ → ℕ → Known → Type 0
IsKnown b p known = first_pointer ≤ known.pointer → LeadsFrom b p (known.pointer - first_pointer) known.followed

-- what is known after a name at p that begins with these two octets and follows k pointers
abbrev pub known_after : ℕ → ℕ → ℕ → Known
known_after octets p k =
    if nat_le first_pointer octets then record { pointer = octets; followed = k }
    else if nat_lt p pointer_offsets then record { pointer = first_pointer + p; followed = k + 1 }
    else record { pointer = 0; followed = 0 }
