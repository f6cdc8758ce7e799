-- Options as text, as `dig` of BIND 9.18 shows them without the `; ` that it puts before each.
use Rattle.std.specs.Prelude.{ℕ, ◌+◌, ◌*◌, ◌/◌, ◌%◌, ◌==◌, ◌&&◌, ◌||◌, Bool, nat_le, if◌then◌else◌, Some, None, List, [], ◌∷◌, ◌++◌, length, slice_index, flat_map, codes, decimal, chars, encode_utf8}
use Rattle.std.specs.Char.{digit_char, is_control}
use Rattle.std.specs.Net.Text.{ipv4_text, ipv6_text}
use Rattle.dnw_message_read.specs.Codes.{option_code}
use Rattle.dnw_message_read.specs.Rules.{code_of, option_octets}
use Rattle.dnw_message_read.specs.Values.{OptionFields, nsid, client_subnet, expire, cookie, tcp_keepalive, padding, extended_error}

-- ---- octets

-- an octet in hexadecimal, with digits in lower case
abbrev pub octet_digits : ℕ → List ℕ
octet_digits o = digit_char (o / 16) ∷ digit_char (o % 16) ∷ []

-- octets in hexadecimal, each after a text
abbrev pub digits_text : List ℕ → List ℕ → List ℕ
digits_text before octets = flat_map (λ o. before ++ octet_digits o) octets

-- octets as characters: a dot is in the place of each that is not printable ASCII
abbrev pub printable_text : List ℕ → List ℕ
printable_text octets = flat_map (λ o. (if nat_le 32 o && nat_le o 126 then o else 46) ∷ []) octets

-- octets, if there are any: in hexadecimal, and as characters
abbrev pub octets_text : List ℕ → List ℕ
octets_text octets =
    if length octets == 0 then []
    else digits_text (codes " ") octets ++ (codes " (\"" ++ (printable_text octets ++ codes "\")"))

-- a code and octets
abbrev pub unnamed_text : ℕ → List ℕ → List ℕ
unnamed_text code octets = codes "OPT=" ++ (decimal code ++ (codes ":" ++ octets_text octets))

-- ---- the network of a client

-- two octets of an address from an even place on, as a number; octets that are not there are 0
abbrev pub segment_at : List ℕ → ℕ → ℕ
segment_at address i = slice_index address (2 * i) * 256 + slice_index address (2 * i + 1)

-- the address of a family
abbrev pub address_text : ℕ → List ℕ → List ℕ
address_text family address =
    if family == 1 then ipv4_text (slice_index address 0 ∷ slice_index address 1 ∷ slice_index address 2 ∷ slice_index address 3 ∷ [])
    else if family == 2
    then ipv6_text (segment_at address 0 ∷ segment_at address 1 ∷ segment_at address 2 ∷ segment_at address 3 ∷ segment_at address 4 ∷ segment_at address 5 ∷ segment_at address 6 ∷ segment_at address 7 ∷ [])
    else codes "0"

-- The family is one of those that are shown by an address, or 0 for no address.
abbrev pub is_shown_family : ℕ → ℕ → Bool
is_shown_family family source = (family == 1) || ((family == 2) || ((family == 0) && (source == 0)))

-- an address and two prefixes, or octets if the family is another
abbrev pub network_text : (family source scope : ℕ) → List ℕ → List ℕ
network_text family source scope address =
    if is_shown_family family source
    then codes "CLIENT-SUBNET: " ++ (address_text family address ++ (codes "/" ++ (decimal source ++ (codes "/" ++ decimal scope))))
    else unnamed_text 8 (option_octets (client_subnet family source scope address))

-- ---- the time after which a zone expires

-- so many of a unit, after a text; and nothing if it is 0
abbrev pub count_text : List ℕ → ℕ → List ℕ → List ℕ
count_text before count unit =
    if count == 0 then [] else before ++ (decimal count ++ (codes " " ++ (unit ++ (if count == 1 then [] else codes "s"))))

-- a space, if words are before it
abbrev pub gap : Bool → List ℕ
gap after = if after then codes " " else []

-- seconds as weeks, days, hours, minutes and seconds
abbrev pub period_text : ℕ → List ℕ
period_text seconds =
    if seconds == 0 then codes "0 seconds"
    else count_text [] (seconds / 604800) (codes "week")
    ++ (count_text (gap (nat_le 604800 seconds)) (seconds / 86400 % 7) (codes "day")
    ++ (count_text (gap (nat_le 86400 seconds)) (seconds / 3600 % 24) (codes "hour")
    ++ (count_text (gap (nat_le 3600 seconds)) (seconds / 60 % 60) (codes "minute")
    ++ count_text (gap (nat_le 60 seconds)) (seconds % 60) (codes "second"))))

-- ---- extended DNS errors

-- the name of a code (RFC 8914, section 4, and IANA's registry "Extended DNS Error Codes"), or an empty text
abbrev pub error_name : ℕ → List ℕ
error_name code =
    if code == 0 then codes "Other"
    else if code == 1 then codes "Unsupported DNSKEY Algorithm"
    else if code == 2 then codes "Unsupported DS Digest Type"
    else if code == 3 then codes "Stale Answer"
    else if code == 4 then codes "Forged Answer"
    else if code == 5 then codes "DNSSEC Indeterminate"
    else if code == 6 then codes "DNSSEC Bogus"
    else if code == 7 then codes "Signature Expired"
    else if code == 8 then codes "Signature Not Yet Valid"
    else if code == 9 then codes "DNSKEY Missing"
    else if code == 10 then codes "RRSIGs Missing"
    else if code == 11 then codes "No Zone Key Bit Set"
    else if code == 12 then codes "NSEC Missing"
    else if code == 13 then codes "Cached Error"
    else if code == 14 then codes "Not Ready"
    else if code == 15 then codes "Blocked"
    else if code == 16 then codes "Censored"
    else if code == 17 then codes "Filtered"
    else if code == 18 then codes "Prohibited"
    else if code == 19 then codes "Stale NXDOMAIN Answer"
    else if code == 20 then codes "Not Authoritative"
    else if code == 21 then codes "Not Supported"
    else if code == 22 then codes "No Reachable Authority"
    else if code == 23 then codes "Network Error"
    else if code == 24 then codes "Invalid Data"
    else if code == 25 then codes "Signature Expired before Valid"
    else if code == 26 then codes "Too Early"
    else if code == 27 then codes "Unsupported NSEC3 Iterations Value"
    else if code == 28 then codes "Unable to conform to policy"
    else if code == 29 then codes "Synthesized"
    else if code == 30 then codes "Invalid Query Type"
    else []

-- a name in parentheses, if there is one
abbrev pub named_text : List ℕ → List ℕ
named_text name = if length name == 0 then [] else codes " (" ++ (name ++ codes ")")

-- Characters that end a line, or that turn the direction of text: those with the property Bidi_Control (Unicode, annex 9).
abbrev pub turns_text : ℕ → Bool
turns_text c =
    (c == 0x61C) || ((nat_le 0x200E c && nat_le c 0x200F) || ((nat_le 0x2028 c && nat_le c 0x202E) || (nat_le 0x2066 c && nat_le c 0x2069)))

-- a character: a dot is in the place of one for control, and of one that turns the text
abbrev pub shown_char : ℕ → ℕ
shown_char c = if is_control c || turns_text c then 46 else c

abbrev pub shown_text : List ℕ → List ℕ
shown_text text = flat_map (λ c. encode_utf8 (shown_char c)) (chars text)

-- the text of an error, if there is any
abbrev pub extra_text : List ℕ → List ℕ
extra_text text = if length text == 0 then [] else codes ": (" ++ (shown_text text ++ codes ")")

-- a code, its name and a text
abbrev pub error_text : ℕ → List ℕ → List ℕ
error_text code text = codes "EDE: " ++ (decimal code ++ (named_text (error_name code) ++ extra_text text))

-- ---- padding

abbrev pub padding_text : ℕ → List ℕ
padding_text count = if count == 0 then codes "PAD:" else codes "PAD: (" ++ (decimal count ++ codes " bytes)")

-- ---- all

-- an option; one that `dig` does not know is its code and its octets
abbrev pub option_text : OptionFields → List ℕ
option_text (nsid octets) = codes "NSID:" ++ octets_text octets
option_text (client_subnet family source scope address) = network_text family source scope address
option_text (expire None) = codes "EXPIRE:"
option_text (expire (Some seconds)) = codes "EXPIRE: " ++ (decimal seconds ++ (codes " (" ++ (period_text seconds ++ codes ")")))
option_text (cookie client server) = codes "COOKIE: " ++ (digits_text [] client ++ digits_text [] server)
option_text (tcp_keepalive None) = codes "TCP KEEPALIVE:"
option_text (tcp_keepalive (Some timeout)) = codes "TCP KEEPALIVE: " ++ (decimal (timeout / 10) ++ (codes "." ++ (decimal (timeout % 10) ++ codes " secs")))
option_text (padding octets) = padding_text (length octets)
option_text (extended_error code text) = error_text code text
option_text value = unnamed_text (option_code (code_of value)) (option_octets value)
