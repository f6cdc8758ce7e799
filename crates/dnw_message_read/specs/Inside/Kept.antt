-- How the sections of a message are kept: where each begins, and how many items it has.
use Rattle.std.specs.Prelude.{◌≡◌, ℕ, zero, suc, ◌+◌, ◌≤◌, ◌==◌, nat_le, if◌then◌else◌, Bool, List, [], ◌∷◌, ◌++◌, map, length, slice_index}
use Rattle.std.specs.Bool.{FalseIff}
use Rattle.dnw_base.specs.Limits.{max_label, max_labels}
use Rattle.dnw_name_read.specs.Inside.Found.{labels_at}
use Rattle.dnw_record.specs.Records.{RecordValue}
use Rattle.dnw_message_read.specs.declared.header.Header.{Header}
use Rattle.dnw_message_read.specs.Headers.{header_size}
use Rattle.dnw_message_read.specs.Edns.{opts_in}
use Rattle.dnw_message_read.specs.Messages.{Item, ItemsAt, MessageValue, QueryValue, Rest, query_of, question_rest, record_in, record_rest}

-- where the own octets of the name at p end, after at most n labels
abbrev pub end_in_steps : ℕ → List ℕ → ℕ → ℕ
end_in_steps zero b p = p
end_in_steps (suc n) b p =
    if slice_index b p == 0 then p + 1
    else if nat_le (slice_index b p) max_label then end_in_steps n b (p + 1 + slice_index b p)
    else p + 2

unfoldable pub name_end : List ℕ → ℕ → ℕ
name_end b p = end_in_steps (max_labels + 1) b p

-- the item at p
abbrev pub item_at : List ℕ → ℕ → Item
item_at b p = record { labels = labels_at b p; name_end = name_end b p }

abbrev pub item_end : Rest → List ℕ → ℕ → ℕ
item_end rest b p = name_end b p + rest b (name_end b p)

-- the n items from p on
abbrev pub items_in : Rest → List ℕ → ℕ → ℕ → List Item
items_in rest b p zero = []
items_in rest b p (suc n) = item_at b p ∷ items_in rest b (item_end rest b p) n

-- n items are left from p on
pub record AreLeft (rest : Rest) (b : List ℕ) (p n : ℕ) : Type 0 where
  pub end : ℕ
  pub pointers : ℕ
  pub items : ItemsAt rest b p (items_in rest b p n) end pointers

-- and they end at e
abbrev pub EndAt : Rest → List ℕ → ℕ → ℕ → ℕ → Type 0
EndAt rest b p n e = (k : ℕ) × ItemsAt rest b p (items_in rest b p n) e k

abbrev pub queries_in : List ℕ → ℕ → ℕ → List QueryValue
queries_in b p n = map (query_of b) (items_in question_rest b p n)

abbrev pub records_in : List ℕ → ℕ → ℕ → List RecordValue
records_in b p n = map (record_in b) (items_in record_rest b p n)

-- the message whose sections begin at these offsets
abbrev pub message_in : List ℕ → Header → ℕ → ℕ → ℕ → ℕ → MessageValue
message_in b h answers authorities additionals end = record {
  octets = b;
  header = h;
  queries = queries_in b header_size h.counts.queries;
  answers = records_in b answers h.counts.answers;
  authorities = records_in b authorities h.counts.authorities;
  additionals = records_in b additionals h.counts.additionals;
  end = end;
}

-- Each section of a message is left from its start on, and ends where the next one begins. The flags are set just if there are
-- OPT records outside the additional section, and in it.
pub record IsKept (b : List ℕ) (h : Header) (answers authorities additionals end : ℕ) (opt_outside opt_inside : Bool) : Type 0 where
  pub queries : AreLeft question_rest b header_size h.counts.queries
  pub answers_left : AreLeft record_rest b answers h.counts.answers
  pub authorities_left : AreLeft record_rest b authorities h.counts.authorities
  pub additionals_left : AreLeft record_rest b additionals h.counts.additionals
  pub in_turn : EndAt question_rest b header_size h.counts.queries answers × EndAt record_rest b answers h.counts.answers authorities
      × EndAt record_rest b authorities h.counts.authorities additionals × EndAt record_rest b additionals h.counts.additionals end
  pub outside : FalseIff opt_outside (opts_in (records_in b answers h.counts.answers ++ records_in b authorities h.counts.authorities) ≡ [])
  pub inside : FalseIff opt_inside (opts_in (records_in b additionals h.counts.additionals) ≡ [])
  pub within : end ≤ length b
  pub starts : (header_size ≤ length b) × (answers ≤ length b) × (authorities ≤ length b) × (additionals ≤ length b)
