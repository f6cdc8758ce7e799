-- The limits of labels, names, records and messages (RFC 1035, sections 2.3.4, 3.2.1, 3.3, 4.1.4 and 4.2.2; RFC 4034, section
-- 4.1.2; RFC 6891, section 6.2.3). The constants of the code have these values: the contracts tie them.
use Rattle.std.specs.Prelude.{ℕ}

-- the most octets of a label
abbrev pub max_label : ℕ
max_label = 63

-- the most octets of a name in its wire form
abbrev pub max_name : ℕ
max_name = 255

-- the most labels of a name: each takes two octets or more, and the closing zero one
abbrev pub max_labels : ℕ
max_labels = 127

-- the most octets of character data, without its length octet
abbrev pub max_character_data : ℕ
max_character_data = 255

-- the size of a message that no write goes past unless another is set
abbrev pub max_message : ℕ
max_message = 65535

-- the most pointers that the names of one message follow, unless another limit is set
abbrev pub max_pointers : ℕ
max_pointers = 65536

-- the least size of a message that a sender can be taken to accept
abbrev pub min_payload : ℕ
min_payload = 512

-- the most octets of the data of a record
abbrev pub max_data : ℕ
max_data = 65535

-- the most octets of a window in a bitmap of record types
abbrev pub max_window : ℕ
max_window = 32

-- the first octet from which on an element of a name is a pointer
abbrev pub pointer_bits : ℕ
pointer_bits = 192

-- a pointer has 14 bits, and so holds one of as many offsets
abbrev pub pointer_offsets : ℕ
pointer_offsets = 16384

-- names that end before this offset are kept for compression
abbrev pub pointer_reach : ℕ
pointer_reach = 16383
