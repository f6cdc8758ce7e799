-- What is shown of names, a line for each word.
use Rattle.std.specs.Prelude.{◌≡◌, ◌⊎◌, ℕ, codes, List, map, [], ◌∷◌, ◌++◌, None, Ok, Err}
use Rattle.std.specs.Borrow.{Bor}
use Rattle.std.specs.Net.Grammar.{IsIpText}
use Rattle.std.specs.declared.net.ip_addr.IpAddr.{IpAddr}
use Rattle.hex.specs.Hex.{encode_lower}
use Rattle.dns_names_wire.specs.Words.{NameValue, name_of_text, origin_labels, reverse_name, sort_key, text_of_name, wire}
use Rattle.dns_names_wire.specs.declared.name_text.NameTextError.{NameTextError}
use Rattle.dnw_commands.specs.Refusals.{SaysWrong}
use Rattle.dnw_commands.specs.declared.base.refusal.Refusal.{Refusal}
use Rattle.dnw_commands.specs.declared.base.refusal.Refusal.TheVariants.{Name}
use Rattle.dnw_commands.specs.declared.names.shown.Shown.{Shown}
use Rattle.dnw_commands.specs.declared.names.shown.Shown.TheVariants.{Wire, Key, Reverse}

-- A word is the text of this name, in a master file without an origin.
abbrev pub IsNameTyped : List ℕ → NameValue → Type 0
IsNameTyped word name = name_of_text (origin_labels None) word ≡ Ok name

-- This is shown of a word.
abbrev pub IsLineOf : Shown → List ℕ → List ℕ → Type 0
IsLineOf Wire word line = (name : NameValue) × IsNameTyped word name × (line ≡ encode_lower (wire name.labels))
IsLineOf Key word line = (name : NameValue) × IsNameTyped word name × (line ≡ encode_lower (sort_key name.labels))
IsLineOf Reverse word line = (address : IpAddr) × IsIpText word address × (line ≡ text_of_name (reverse_name address))

-- A word is no text of a name.
abbrev pub FailsNameText : List ℕ → Refusal → Type 0
FailsNameText word refusal = (error : NameTextError) × (name_of_text (origin_labels None) word ≡ Err error) × (refusal ≡ Name error)

-- Nothing is shown of a word, which is no name or no address.
abbrev pub FailsWord : Shown → List ℕ → Refusal → Type 0
FailsWord Reverse word refusal = ((address : IpAddr) → ¬ (IsIpText word address)) × SaysWrong (codes "an IPv4 or IPv6 address") word refusal
FailsWord shown word refusal = FailsNameText word refusal

-- the octets of words
abbrev pub texts_of : List (Bor (List ℕ)) → List (List ℕ)
texts_of words = map (λ word. word.now) words

-- These are the lines of words, each with a line feed.
abbrev pub AreLines : Shown → List (List ℕ) → List ℕ → Type 0
AreLines shown [] text = text ≡ []
AreLines shown (word ∷ words) text =
    (line : List ℕ) × (others : List ℕ) × IsLineOf shown word line × AreLines shown words others × (text ≡ (line ++ 10 ∷ []) ++ others)

-- One of the words has no line, and those before it have.
abbrev pub FailsLines : Shown → List (List ℕ) → Refusal → Type 0
FailsLines shown [] refusal = ⊥
FailsLines shown (word ∷ words) refusal =
    FailsWord shown word refusal ⊎ ((line : List ℕ) × IsLineOf shown word line × FailsLines shown words refusal)
