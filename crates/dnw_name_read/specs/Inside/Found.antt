-- How a name in a message is kept: the message, and where the name is.
use Rattle.std.specs.Prelude.{◌≡◌, ℕ, zero, suc, ◌+◌, ◌-◌, ◌<◌, ◌≤◌, ◌==◌, nat_le, if◌then◌else◌, Option, List, [], ◌∷◌, ◌++◌, length, take, drop, slice_index, slice_range}
use Rattle.dnw_name_read.specs.declared.walk.Walked.{Walked}
use Rattle.dnw_base.specs.Limits.{max_label, max_labels, pointer_bits}
use Rattle.dnw_base.specs.Names.{encoded_size, wire}
use Rattle.dnw_name_read.specs.Buffers.{put}
use Rattle.dnw_name_read.specs.Reading.{target, Reads, NameAt}

-- the labels that are read at p in at most n steps
abbrev pub labels_in_steps : ℕ → List ℕ → ℕ → List (List ℕ)
labels_in_steps zero b p = []
labels_in_steps (suc n) b p =
    if slice_index b p == 0 then []
    else if nat_le (slice_index b p) max_label then slice_range b (p + 1) (p + 1 + slice_index b p) ∷ labels_in_steps n b (p + 1 + slice_index b p)
    else labels_in_steps n b (target (slice_index b p) (slice_index b (p + 1)))

-- the labels of the name at p: it takes at most p pointers, 127 labels and the closing zero
unfoldable pub labels_at : List ℕ → ℕ → List (List ℕ)
labels_at b p = labels_in_steps (p + (max_labels + 1)) b p

-- A name is at p, takes so many octets in its wire form, and its own octets end at e.
pub record StandsAt (b : List ℕ) (p e size count pointers : ℕ) : Type 0 where
  pub name : NameAt b p (labels_at b p) e pointers
  pub size_is : size ≡ encoded_size (labels_at b p)
  pub count_is : count ≡ length (labels_at b p)

-- The wire form of the name at p, of so many octets, is in two pieces: so many octets at p, and the others at tail.
pub record IsInTwo (b : List ℕ) (p size head tail : ℕ) : Type 0 where
  pub front : p + head ≤ length b
  pub part : head ≤ size
  pub back : tail + (size - head) ≤ length b
  pub form : slice_range b p (p + head) ++ slice_range b tail (tail + (size - head)) ≡ wire (labels_at b p)

-- Such a name, and its two pieces, if so many octets at p are known to be one. They are if one pointer at most is followed from there
-- on, and if none is, all octets are at p.
pub record NameLiesAt (b : List ℕ) (p size count head tail : ℕ) : Type 0 where
  pub end : ℕ
  pub pointers : ℕ
  pub stands : StandsAt b p end size count pointers
  pub pieces : 1 ≤ head → IsInTwo b p size head tail
  pub known : pointers ≤ 1 → 1 ≤ head
  pub whole : pointers ≡ 0 → head ≡ size

-- What a walk from p has found: the name, and where its first label is.
pub record IsFound (b : List ℕ) (p : ℕ) (walked : Walked) (count pointers : ℕ) : Type 0 where
  pub stands : StandsAt b p walked.end walked.size count pointers
  pub lies : NameLiesAt b walked.first walked.size count walked.head walked.tail
  pub same : labels_at b walked.first ≡ labels_at b p

-- The labels at p are read there, in a segment that began at s.
pub record ReadsOn (b : List ℕ) (s p : ℕ) : Type 0 where
  pub limit : Option ℕ
  pub end : ℕ
  pub pointers : ℕ
  pub reads : Reads b p s limit (labels_at b p) end pointers
  pub back : s ≤ p
  pub few : length (labels_at b p) ≤ max_labels
  pub inside : p < length b

-- The labels at p are read there.
pub record MoreAt (b : List ℕ) (p : ℕ) : Type 0 where
  pub segment : ℕ
  pub on : ReadsOn b segment p

-- The offsets and sizes of a copy, as below.
pub record CopyCounts (b : List ℕ) (start run position filled segment : ℕ) : Type 0 where
  pub order : run ≤ position
  pub back : segment ≤ run
  pub size : filled + (position - run) + length (wire (labels_at b position)) ≡ length (wire (labels_at b start))

-- A copy has come to position and filled the front of a buffer, with the octets from run on still to be written: with these
-- octets and the wire form of the labels that follow put there, the wire form of the whole name is at the front.
pub record CopiesRuns (b : List ℕ) (start run position : ℕ) (buffer out : List ℕ) (filled : ℕ) : Type 0 where
  pub segment : ℕ
  pub on : ReadsOn b segment position
  pub counts : CopyCounts b start run position filled segment
  pub whole : take filled out ++ (slice_range b run position ++ (wire (labels_at b position) ++ drop (length (wire (labels_at b start))) out))
      ≡ put buffer (wire (labels_at b start))

-- Pointers lead from p to t, the offset of a label or of the end of the name.
pub record LeadsTo (b : List ℕ) (p t : ℕ) : Type 0 where
  pub more : MoreAt b t
  pub same : labels_at b t ≡ labels_at b p
  pub last : slice_index b t < pointer_bits

-- So many labels are left to be read at p.
pub record IsLeftAt (b : List ℕ) (p left : ℕ) : Type 0 where
  pub more : MoreAt b p
  pub counted : left ≡ length (labels_at b p)
