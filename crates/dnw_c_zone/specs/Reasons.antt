-- The numbers by which C learns what is wrong with a text, and what sentences say of it.
use Rattle.std.specs.Prelude.{◌≡◌, ◌≢◌, ◌⊎◌, ℕ, nat_le, Bool, true, false, List, [], ◌++◌, codes, decimal}
use Rattle.dnw_base.specs.Entries.{Entry, entry}
use Rattle.dnw_c_zone.specs.declared.reason.Reason.{Reason}
use Rattle.dnw_c_zone.specs.declared.reason.Reason.TheVariants as why

-- the table of the reasons: the number in C, and the words of the sentence. From 32 on, a field of data is not as wanted.
abbrev pub reason_entry : Reason → Entry
reason_entry why.NestedParenthesis = entry 1 (codes "more than 255 parentheses are open")
reason_entry why.UnopenedParenthesis = entry 2 (codes "no parenthesis is open")
reason_entry why.UnclosedParenthesis = entry 3 (codes "the text ends within parentheses")
reason_entry why.UnclosedQuote = entry 4 (codes "the line ends within a quoted string")
reason_entry why.UnfinishedEscape = entry 5 (codes "the line ends after a backslash")
reason_entry why.MoreEntries = entry 6 (codes "another entry is there")
reason_entry why.NoOwner = entry 7 (codes "wanted an owner")
reason_entry why.NoTimeToLive = entry 8 (codes "wanted a time to live")
reason_entry why.NoType = entry 9 (codes "wanted a record type")
reason_entry why.TooLong = entry 10 (codes "wanted data of at most 65535 octets")
reason_entry why.NoOwnerBefore = entry 11 (codes "no owner is there, nor in an entry before")
reason_entry why.BadOwner = entry 12 (codes "the owner is no name")
reason_entry why.NoTimeToLiveBefore = entry 13 (codes "no time to live is there, nor in an entry before")
reason_entry why.UnknownDirective = entry 14 (codes "no entry has this name")
reason_entry why.Generate = entry 15 (codes "$GENERATE is not read")
reason_entry why.NoName = entry 16 (codes "no name is there")
reason_entry why.NoTime = entry 17 (codes "no time is there")
reason_entry why.NoFile = entry 18 (codes "no file is there")
reason_entry why.WordsLeft = entry 19 (codes "more words are there")
reason_entry why.UnknownType = entry 20 (codes "the type is unknown")
reason_entry why.OtherType = entry 21 (codes "no zone has records of this type")
reason_entry why.TimeTooLarge = entry 22 (codes "the time is too large")
reason_entry why.NoRange = entry 23 (codes "no range is there")
reason_entry why.TooMany = entry 24 (codes "more records than the limit")
reason_entry why.BadTemplate = entry 25 (codes "wanted $ or ${offset,width,base}")
reason_entry why.Name = entry 32 (codes "wanted a name")
reason_entry why.U8 = entry 33 (codes "wanted a number of at most 255")
reason_entry why.U16 = entry 34 (codes "wanted a number of at most 65535")
reason_entry why.U32 = entry 35 (codes "wanted a number of at most 4294967295")
reason_entry why.Period = entry 36 (codes "wanted seconds, or a period as 1h30m")
reason_entry why.Algorithm = entry 37 (codes "wanted an algorithm by its number or mnemonic")
reason_entry why.CertificateType = entry 38 (codes "wanted a type of certificates by its number or mnemonic")
reason_entry why.Time = entry 39 (codes "wanted YYYYMMDDHHmmSS or a number of seconds")
reason_entry why.Ipv4 = entry 40 (codes "wanted an IPv4 address")
reason_entry why.Ipv6 = entry 41 (codes "wanted an IPv6 address")
reason_entry why.Eui48 = entry 42 (codes "wanted six pairs of hexadecimal digits with hyphens between them")
reason_entry why.Eui64 = entry 43 (codes "wanted eight pairs of hexadecimal digits with hyphens between them")
reason_entry why.TypeCode = entry 44 (codes "wanted a record type")
reason_entry why.CharacterString = entry 45 (codes "wanted a character string of at most 255 octets")
reason_entry why.Tag = entry 46 (codes "wanted 1 to 255 letters and digits")
reason_entry why.Salt = entry 47 (codes "wanted `-` or 1 to 255 octets in hexadecimal")
reason_entry why.Hash = entry 48 (codes "wanted 1 to 255 octets in base 32")
reason_entry why.Text = entry 49 (codes "wanted a text of at most 65535 octets")
reason_entry why.Hexadecimal = entry 50 (codes "wanted octets in hexadecimal")
reason_entry why.Base64 = entry 51 (codes "wanted octets in base 64")
reason_entry why.Strings = entry 52 (codes "wanted character strings of at most 255 octets, one or more")
reason_entry why.Types = entry 53 (codes "wanted record types")
reason_entry why.Params = entry 54 (codes "wanted service parameters, each key once")
reason_entry why.Generic = entry 55 (codes "wanted the form of any data, which begins with \\#")
reason_entry why.Size = entry 56 (codes "wanted a number of octets of at most 65535")
reason_entry why.Octets = entry 57 (codes "wanted as many octets in hexadecimal as the number says")
reason_entry why.Data = entry 58 (codes "wanted octets that are data of the type")
reason_entry why.End = entry 59 (codes "wanted the end of the data")
reason_entry why.Scheme = entry 60 (codes "wanted a scheme by its number or mnemonic")
reason_entry why.Names = entry 61 (codes "wanted names")
reason_entry why.Gateway = entry 62 (codes "wanted the type of a gateway (0 to 3), an algorithm, and `.`, an address or a name")
reason_entry why.Relay = entry 63 (codes "wanted 0 or 1, the type of a relay (0 to 3), and `.`, an address or a name")
reason_entry why.HostIdentity = entry 64 (codes "wanted an algorithm, a tag in hexadecimal, and a key in base 64")
reason_entry why.Location = entry 65 (codes "wanted a location: latitude, longitude and altitude")
reason_entry why.Locator = entry 66 (codes "wanted four groups of hexadecimal digits with colons between them")
reason_entry why.NodeNumber = entry 67 (codes "wanted a number of at most 18446744073709551615")
reason_entry why.Nsap = entry 68 (codes "wanted `0x` and octets in hexadecimal")
reason_entry why.Prefixes = entry 69 (codes "wanted address prefixes, each as 1:192.0.2.0/24")
reason_entry why.Protocol = entry 70 (codes "wanted a protocol by its number or name")
reason_entry why.Ports = entry 71 (codes "wanted ports or names of services")
reason_entry why.OldTypes = entry 72 (codes "wanted record types of codes of 1 to 127")
reason_entry why.Mandatory = entry 73 (codes "wanted `mandatory` to list keys of other parameters that are there")

abbrev pub reason_number : Reason → ℕ
reason_number reason = (reason_entry reason).code

abbrev pub reason_text : Reason → List ℕ
reason_text reason = (reason_entry reason).name

-- The reason is about a field of data.
abbrev pub is_of_field : Reason → Bool
is_of_field reason = nat_le 32 (reason_number reason)

-- words at an offset
abbrev pub at_place : ℕ → List ℕ → List ℕ
at_place offset words = codes "at offset " ++ (decimal offset ++ (codes ": " ++ words))

-- words at an offset about a field
abbrev pub at_field : ℕ → ℕ → List ℕ → List ℕ
at_field offset field words = at_place offset (words ++ (codes " (field " ++ (decimal field ++ codes ")")))

-- words at an offset, about a field or about none
abbrev pub worded : Bool → ℕ → ℕ → List ℕ → List ℕ
worded true offset field words = at_field offset field words
worded false offset field words = at_place offset words

-- the sentence for a reason
abbrev pub sentence : ℕ → ℕ → Reason → List ℕ
sentence offset field reason = worded (is_of_field reason) offset field (reason_text reason)

-- The sentence for the number of a reason; there is none for another number.
abbrev pub HasSentence : ℕ → ℕ → ℕ → List ℕ → Type 0
HasSentence offset field code text =
    ((reason : Reason) × (code ≡ reason_number reason) × (text ≡ sentence offset field reason))
    ⊎ (((reason : Reason) → reason_number reason ≢ code) × (text ≡ []))
