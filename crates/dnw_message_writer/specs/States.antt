-- A message while it is written: how an item is added to it, whole or not at all (RFC 1035, section 4.1).
use Rattle.std.specs.Prelude.{◌≡◌, ◌≢◌, ℕ, ◌+◌, ◌-◌, ◌<◌, ◌≤◌, ◌⊎◌, min, if◌then◌else◌, Bool, true, List, [], ◌∷◌, ◌++◌, length, take, replicate, slice_index}
use Rattle.std.specs.Int.{w16, from_be_bytes, to_be_bytes}
use Rattle.dnw_base.specs.Limits.{max_message}
use Rattle.dnw_message_writer.specs.CompressedNames.{put_at}
use Rattle.dnw_message_writer.specs.Items.{ItemForm, ItemPast, place_at}
use Rattle.dnw_message_writer.specs.Sections.{offset_of_count, rank}
use Rattle.dnw_message_writer.specs.Standing.{first_item}
use Rattle.dnw_message_writer.specs.declared.section.Section.{Section}
use Rattle.dnw_message_writer.specs.declared.section.Section.TheVariants.{Additionals}
use Rattle.dnw_message_writer.specs.declared.section.WriteError.{WriteError}
use Rattle.dnw_message_writer.specs.declared.section.WriteError.TheVariants.{NoMessage, NoRoom, OutOfOrder, SecondOpt}
use Rattle.dnw_message_writer.specs.declared.state.WriterState.{WriterState}

-- the header of a message without items
abbrev pub empty_header : ℕ → ℕ → List ℕ
empty_header id flags = to_be_bytes w16 id ++ (to_be_bytes w16 flags ++ replicate 8 0)

-- A message begins: its header is put at the start, where it has room, and nothing is known of names.
abbrev pub BeginsMessage : ℕ → ℕ → ℕ → List ℕ → WriterState → List ℕ → Type 0
BeginsMessage id flags max_size old w new =
    (first_item ≤ length old) × (first_item ≤ max_size)
    × (new ≡ put_at old 0 (empty_header id flags))
    × (w ≡ record { end = first_item; max_size = max_size; reserved = 0; owner = 0; rank = 0; has_opt = 0; hints = replicate 512 0 })

-- how many items the header says that a section has
abbrev pub count_in_header : Section → List ℕ → ℕ
count_in_header s m = from_be_bytes w16 (slice_index m (offset_of_count s) ∷ slice_index m (offset_of_count s + 1) ∷ [])

-- the message with one more item of a section
abbrev pub with_one_more : Section → List ℕ → List ℕ
with_one_more s m = put_at m (offset_of_count s) (to_be_bytes w16 (count_in_header s m + 1))

-- the offset up to which items may go
abbrev pub room_of : WriterState → List ℕ → ℕ
room_of w m = min (min max_message (length m)) w.max_size - w.reserved

-- The state is that of a message, whose section has one more item to count.
pub record IsOfMessage (s : Section) (w : WriterState) (m : List ℕ) : Type 0 where
  pub whole : first_item ≤ w.end
  pub there : first_item ≤ length m
  pub few : count_in_header s m < 65535

-- An OPT record may follow if there is none (RFC 6891, section 6.1.1).
abbrev pub IsSingle : Bool → WriterState → Type 0
IsSingle opt w = opt ≡ true → w.has_opt ≡ 0

-- An item of a section, an OPT record or another, may follow, up to this limit.
pub record IsLimit (s : Section) (opt : Bool) (w : WriterState) (m : List ℕ) (limit : ℕ) : Type 0 where
  pub message : IsOfMessage s w m
  pub ordered : w.rank ≤ rank s
  pub single : IsSingle opt w
  pub limit_is : limit ≡ room_of w m
  pub room : w.end ≤ limit

-- It may not: the first of these that holds says why.
abbrev pub FailsToTakeLimit : Section → Bool → WriterState → List ℕ → WriteError → Type 0
FailsToTakeLimit s opt w m e =
    ((IsOfMessage s w m → ⊥) × (e ≡ NoMessage))
    ⊎ (IsOfMessage s w m × (rank s < w.rank) × (e ≡ OutOfOrder))
    ⊎ (IsOfMessage s w m × (w.rank ≤ rank s) × (opt ≡ true) × (w.has_opt ≢ 0) × (e ≡ SecondOpt))
    ⊎ (IsOfMessage s w m × (w.rank ≤ rank s) × IsSingle opt w × (room_of w m < w.end) × (e ≡ NoRoom))

-- the state after an item of a section, an OPT record or another, that ends here
abbrev pub added : Section → Bool → List ℕ → ℕ → WriterState → WriterState
added s opt m end w = record {
  end = end;
  max_size = w.max_size;
  reserved = w.reserved;
  owner = place_at m w.end;
  rank = rank s;
  has_opt = if opt then 1 else w.has_opt;
  hints = w.hints;
}

-- An item of this form is added: it is written at the end, and counted.
abbrev pub AddsItem : Section → ItemForm → WriterState → List ℕ → WriterState → List ℕ → Type 0
AddsItem s form w old after new =
    (octets : List ℕ) × (hints : List ℕ) × form.writes (take w.end old) w.owner w.hints octets hints
    × IsLimit s form.is_opt w old (room_of w old) × (w.end + length octets ≤ room_of w old)
    × (new ≡ with_one_more s (put_at old w.end octets))
    × (after ≡ added s form.is_opt (put_at old w.end octets) (w.end + length octets) (record w { hints = hints }))

-- It is not: no item may follow, or this one goes past the limit.
abbrev pub FailsToAdd : Section → ItemPast → WriterState → List ℕ → WriteError → Type 0
FailsToAdd s past w m e =
    FailsToTakeLimit s past.is_opt w m e
    ⊎ (IsLimit s past.is_opt w m (room_of w m) × past.goes (room_of w m) (take w.end m) w.owner w.hints × (e ≡ NoRoom))

-- the sum of two numbers of octets, if that is a number at all
abbrev pub more_octets : ℕ → ℕ → ℕ
more_octets held more = min (held + more) 18446744073709551615

-- the state that holds back so many octets fewer
abbrev pub released : ℕ → WriterState → WriterState
released held w = record w { reserved = w.reserved - held }

-- The state for a last item: it holds back so many octets fewer, and knows no name of the message. So no pointer stands for a name of
-- the item, which has as many octets as were held back for it.
abbrev pub for_last : ℕ → WriterState → WriterState
for_last held w = record w { reserved = w.reserved - held; owner = 0; hints = replicate 512 0 }

-- An item is added to the additional section, and no other may follow.
abbrev pub AddsLastItem : ItemForm → WriterState → List ℕ → WriterState → List ℕ → Type 0
AddsLastItem form w old after new =
    (v : WriterState) × AddsItem Additionals form w old v new × (after ≡ record v { rank = 4 })
