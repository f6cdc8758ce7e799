-- What is written is read as the same.
use Rattle.std.proofs.Common.{◌≡◌, ◌≢◌, ◌==◌, ◌<◌, ◌^◌, ℕ, Bool, false, true, if◌then◌else◌, sym, None, Some, Ok, List, [], ◌∷◌, ◌++◌, length, take, drop, nat_lt, refl, ap, inl, inr, rules, tests, arith, length-append}
use Rattle.std.specs.Int.{w16, to_be_bytes}
use Rattle.std.specs.Str.{is_utf8}
use Rattle.std.proofs.Math.Seq.{drop-append_seam, take-append_seam}
use Rattle.std.proofs.lemmas.Nat.{from_be_bytes-to_be_bytes_2, from_be_bytes-to_be_bytes_4}
use Rattle.dnw_base.specs.Names.{labels_wire, wire}
use Rattle.dnw_message_read.specs.declared.option_error.OptionError.TheVariants.{Named}
use Rattle.dnw_message_read.specs.declared.code.OptionCode.TheVariants.{Unknown}
use Rattle.dnw_message_read.specs.Codes.{option_of_code}
use Rattle.dnw_message_read.specs.Values.{OptionFields, VersionValue, nsid, client_subnet, expire, cookie, tcp_keepalive, padding, chain, extended_error, report_channel, zone_version, unknown}
use Rattle.dnw_message_read.specs.Rules.{has_no_name, value_fault}
use Rattle.dnw_message_read.specs.Reading.{ReadsOption, checked, cookie_of, error_of, subnet_of, version_of}
use Rattle.dnw_message_read.specs.OptionLaws.{OptionsComeBack}

checked_right : (value : OptionFields) → value_fault value ≡ None → Ok value ≡ checked value
checked_right value none = rw (none, checked) refl

subnet_back : (family source scope : ℕ) (address : List ℕ) → family < 2 ^ 16 → value_fault (client_subnet family source scope address) ≡ None
    → Ok (client_subnet family source scope address) ≡ subnet_of (to_be_bytes w16 family ++ source ∷ scope ∷ address)
subnet_back family source scope address fits none =
    let long : nat_lt (length (to_be_bytes w16 family ++ source ∷ scope ∷ address)) 4 ≡ false = search (rules, tests) in
    rw (long, from_be_bytes-to_be_bytes_2 family fits) (checked_right (client_subnet family source scope address) none)

error_back : (code : ℕ) (text : List ℕ) → code < 2 ^ 16 → is_utf8 text ≡ true → Ok (extended_error code text) ≡ error_of (to_be_bytes w16 code ++ text)
error_back code text fits right =
    let long : nat_lt (length (to_be_bytes w16 code ++ text)) 2 ≡ false = search (rules, tests) in
    rw (long, from_be_bytes-to_be_bytes_2 code fits, right) refl

version_back : (v : VersionValue) → value_fault (zone_version (Some v)) ≡ None → Ok (zone_version (Some v)) ≡ version_of (v.labels ∷ v.version_type ∷ v.version)
version_back v none =
    let some : (length (v.labels ∷ v.version_type ∷ v.version) == 0) ≡ false = search (rules, tests) in
    let long : nat_lt (length (v.labels ∷ v.version_type ∷ v.version)) 2 ≡ false = search (rules, tests) in
    rw (some, long) (checked_right (zone_version (Some v)) none)

front_of : (n : ℕ) (xs ys : List ℕ) → length xs ≡ n → take n (xs ++ ys) ≡ xs
front_of n xs ys e = rw (sym e) (take-append_seam xs ys)

others_of : (n : ℕ) (xs ys : List ℕ) → length xs ≡ n → drop n (xs ++ ys) ≡ ys
others_of n xs ys e = rw (sym e) (drop-append_seam xs ys)

cookie_back : (client server : List ℕ) → length client ≡ 8 → value_fault (cookie client server) ≡ None → Ok (cookie client server) ≡ cookie_of (client ++ server)
cookie_back client server eight none =
    let long : nat_lt (length (client ++ server)) 8 ≡ false = search (rules, tests, length-append, eight) in
    rw (long, front_of 8 client server eight, others_of 8 client server eight) (checked_right (cookie client server) none)

wire_some : (labels : List (List ℕ)) → wire labels ≢ []
wire_some labels e = omega (arith, length-append (labels_wire labels) (0 ∷ []), ap length e)

unknown_code : (code : ℕ) → has_no_name (option_of_code code) ≡ true → option_of_code code ≡ Unknown code
unfolding option_of_code
unknown_code code h = search (rules, tests)

true_if_none : (test : Bool) → (if test then None else Some Named) ≡ None → test ≡ true
true_if_none true e = refl
true_if_none false e = search rules

unknown_back : (code : ℕ) (octets : List ℕ) → value_fault (unknown code octets) ≡ None → ReadsOption (option_of_code code) octets (Ok (unknown code octets))
unknown_back code octets none = rw (unknown_code code (true_if_none (has_no_name (option_of_code code)) none)) refl

pub comes_back : OptionsComeBack
unfolding option_of_code
comes_back (nsid octets) is none = refl
comes_back (client_subnet family source scope address) is none = subnet_back family source scope address is.0 none
comes_back (expire None) is none = refl
comes_back (expire (Some seconds)) is none = rw (from_be_bytes-to_be_bytes_4 seconds is) refl
comes_back (cookie client server) is none = cookie_back client server is none
comes_back (tcp_keepalive None) is none = refl
comes_back (tcp_keepalive (Some timeout)) is none = rw (from_be_bytes-to_be_bytes_2 timeout is) refl
comes_back (padding octets) is none = refl
comes_back (chain None) is none = inl (refl, refl)
comes_back (chain (Some labels)) is none = inr (wire_some labels, (labels, (is, refl), refl))
comes_back (extended_error code text) is none = error_back code text is.0 is.1
comes_back (report_channel labels) is none = (labels, (is, refl), refl)
comes_back (zone_version None) is none = refl
comes_back (zone_version (Some v)) is none = version_back v none
comes_back (unknown code octets) is none = unknown_back code octets none
