-- What words and octets of gateways, relays and host identities are.
use Rattle.std.proofs.Common.{◌≡◌, ◌≤◌, ◌<◌, ℕ, ◌+◌, ◌-◌, ◌*◌, ◌/◌, ◌%◌, ◌==◌, Bool, true, false, List, [], ◌∷◌, ◌++◌, length, slice_index, take, drop, IfOk, refl, sym, ap, ◌∙◌, subst, arith, append_assoc, length-drop, inl, inr}
use Rattle.std.specs.Prelude.{Option, Result, Ok, Err}
use Rattle.std.specs.Net.Addr.{ipv4_octets, ipv6_segments, octets_of}
use Rattle.std.specs.Net.Grammar.{IsIpv4Text, IsIpv6Text}
use Rattle.std.specs.declared.net.Ipv4Addr.{Ipv4Addr}
use Rattle.std.specs.declared.net.Ipv6Addr.{Ipv6Addr}
use Rattle.std.proofs.lemmas.List.{take_all}
use Rattle.dnw_base.specs.Names.{NameValue}
use Rattle.dnw_data.specs.declared.kind.Shape.TheVariants.{Gateway, Relay}
use Rattle.dnw_data.specs.declared.kind.Shown.TheVariants.{Hex, Base64}
use Rattle.dnw_data.specs.Values.{FieldValue}
use Rattle.dnw_zone_values.specs.Inside.Steps.{PushesOne}
use Rattle.dnw_zone_values.specs.Numbers.{max_u8, IsNumberText}
use Rattle.dnw_zone_data.specs.Appending.{AppendsOne}
use Rattle.dnw_zone_data.specs.Gateways.{AreTagAndKey, IsGatewayEnd, IsGateway, IsIdentity, IsRelay, PrintsEnd, PrintsGateway, PrintsRelay, identity_wire, of_shape, relay_flag}
use Rattle.dnw_zone_data.specs.Parsing.{SpellsOctets}
use Rattle.dnw_zone_data.proofs.GatewaysBack.{end_type}
use Rattle.dnw_zone_data.proofs.OneText.{one_base64, one_hex}

-- ---- parsing

-- octets that are one thing are another
pub pushes_as : {E : Type 0} (Is Of : List ℕ → Type 0) (old new : List ℕ) (read : Result Bool E) → ((own : List ℕ) → Is own → Of own) → ((own : List ℕ) → Of own → Is own)
    → IfOk read (PushesOne Is old new) → IfOk read (PushesOne Of old new)
pushes_as Is Of old new (Ok true) to from h = (h.0, to h.0 h.1, h.2)
pushes_as Is Of old new (Ok false) to from h = λ own is. h own (from own is)
pushes_as Is Of old new (Err e) to from h = h

abbrev pub IsEnd4 : List ℕ → List ℕ → Type 0
IsEnd4 text own = (a : Ipv4Addr) × IsIpv4Text text a × (own ≡ ipv4_octets a)

pub end4 : (origin : Option NameValue) (text own : List ℕ) → IsGatewayEnd origin 1 text own → IsEnd4 text own
end4 origin text own (inl is) = absurd (omega (arith, is.0))
end4 origin text own (inr (inl is)) = (is.1, is.2, is.3)
end4 origin text own (inr (inr (inl is))) = absurd (omega (arith, is.0))
end4 origin text own (inr (inr (inr is))) = absurd (omega (arith, is.0))

abbrev pub IsEnd6 : List ℕ → List ℕ → Type 0
IsEnd6 text own = (a : Ipv6Addr) × IsIpv6Text text a × (own ≡ octets_of (ipv6_segments a))

pub end6 : (origin : Option NameValue) (text own : List ℕ) → IsGatewayEnd origin 2 text own → IsEnd6 text own
end6 origin text own (inl is) = absurd (omega (arith, is.0))
end6 origin text own (inr (inl is)) = absurd (omega (arith, is.0))
end6 origin text own (inr (inr (inl is))) = (is.1, is.2, is.3)
end6 origin text own (inr (inr (inr is))) = absurd (omega (arith, is.0))

pub as_gateway : {E : Type 0} (origin : Option NameValue) (first second third old two new : List ℕ) (type algorithm : ℕ) (read : Result Bool E) → IsNumberText max_u8 first type
    → IsNumberText max_u8 second algorithm → two ≡ old ++ type ∷ algorithm ∷ [] → IfOk read (PushesOne (IsGatewayEnd origin type third) two new)
    → IfOk read (AppendsOne (IsGateway origin first second third) old new)
as_gateway origin first second third old two new type algorithm (Ok true) t g e h =
    let octets : new ≡ old ++ type ∷ algorithm ∷ h.0 = h.2 ∙ ap (λ (xs : List ℕ). xs ++ h.0) e ∙ append_assoc old (type ∷ algorithm ∷ []) h.0 in
    (of_shape Gateway (type ∷ algorithm ∷ h.0), (type, algorithm, h.0, t, g, h.1, refl), octets)
as_gateway origin first second third old two new type algorithm (Ok false) t g e h =
    λ value is. h is.2 (subst (λ (n : ℕ). IsGatewayEnd origin n third is.2) (sym is.3.1 ∙ t.1) is.5)
as_gateway origin first second third old two new type algorithm (Err x) t g e h = h

pub as_relay : {E : Type 0} (origin : Option NameValue) (first second third old one new : List ℕ) (flag type : ℕ) (read : Result Bool E) → IsNumberText 1 first flag
    → IsNumberText max_u8 second type → one ≡ old ++ (relay_flag * flag + type) ∷ [] → IfOk read (PushesOne (IsGatewayEnd origin type third) one new)
    → IfOk read (AppendsOne (IsRelay origin first second third) old new)
as_relay origin first second third old one new flag type (Ok true) d t e h =
    let octets : new ≡ old ++ (relay_flag * flag + type) ∷ h.0 = h.2 ∙ ap (λ (xs : List ℕ). xs ++ h.0) e ∙ append_assoc old ((relay_flag * flag + type) ∷ []) h.0 in
    (of_shape Relay ((relay_flag * flag + type) ∷ h.0), (flag, type, h.0, d, t, h.1, refl), octets)
as_relay origin first second third old one new flag type (Ok false) d t e h =
    λ value is. h is.2 (subst (λ (n : ℕ). IsGatewayEnd origin n third is.2) (sym is.4.1 ∙ t.1) is.5)
as_relay origin first second third old one new flag type (Err x) d t e h = h

-- octets that were appended to none
pub alone : (Is : List ℕ → Type 0) (start items : List ℕ) → start ≡ [] → PushesOne Is start items true → Is items
alone Is start items none (own, is, e) = subst Is (sym (e ∙ ap (λ (xs : List ℕ). xs ++ own) none)) is

pub no_identity : (first second third tag key : List ℕ) → SpellsOctets Hex second tag → SpellsOctets Base64 third key → ¬ (AreTagAndKey tag key)
    → (value : FieldValue) → ¬ (IsIdentity first second third value)
no_identity first second third tag key hex base none value (algorithm, own, other, n, h, b, are, e) =
    let same : own ≡ tag = one_hex second own tag h hex in
    let also : other ≡ key = one_base64 third other key b base in
    none (subst (λ (k : List ℕ). AreTagAndKey tag k) also (subst (λ (t : List ℕ). AreTagAndKey t other) same are))

-- ---- printing

pub some_if : (xs : List ℕ) (b : Bool) → b ≡ (length xs == 0) → b ≡ false → 1 ≤ length xs
some_if [] b test is = let no : false ≡ true = sym is ∙ test in absurd cc
some_if (x ∷ xs) b test is = omega arith

pub two_of : (xs : List ℕ) → 2 ≤ length xs → xs ≡ slice_index xs 0 ∷ slice_index xs 1 ∷ drop 2 xs
two_of [] some = absurd (omega (arith, some))
two_of (a ∷ []) some = absurd (omega (arith, some))
two_of (a ∷ b ∷ xs) some = refl

pub one_of : (xs : List ℕ) → 1 ≤ length xs → xs ≡ slice_index xs 0 ∷ drop 1 xs
one_of [] some = absurd (omega (arith, some))
one_of (a ∷ xs) some = refl

pub four_of : (xs : List ℕ) → 4 ≤ length xs → xs ≡ slice_index xs 0 ∷ slice_index xs 1 ∷ slice_index xs 2 ∷ slice_index xs 3 ∷ drop 4 xs
four_of [] some = absurd (omega (arith, some))
four_of (a ∷ []) some = absurd (omega (arith, some))
four_of (a ∷ b ∷ []) some = absurd (omega (arith, some))
four_of (a ∷ b ∷ c ∷ []) some = absurd (omega (arith, some))
four_of (a ∷ b ∷ c ∷ d ∷ xs) some = refl

-- what is left of a slice after some octets
pub tail_is : (n : ℕ) (xs : List ℕ) → take (length xs - n) (drop n xs) ≡ drop n xs
tail_is n xs = take_all (length xs - n) (drop n xs) (omega (arith, length-drop n xs))

pub no_gateway : (own left : List ℕ) → left ≡ drop 2 own → ((shown : List ℕ) → ¬ (PrintsEnd (slice_index own 0) left shown)) → (text : List ℕ) → ¬ (PrintsGateway own text)
no_gateway own left tail none text (type, algorithm, gateway, shown, e, print, p) =
    none shown (subst (λ (xs : List ℕ). PrintsEnd (slice_index own 0) xs shown) (sym tail) (subst (λ (xs : List ℕ). PrintsEnd (slice_index xs 0) (drop 2 xs) shown) (sym e) print))

pub no_relay : (own left : List ℕ) → left ≡ drop 1 own → ((shown : List ℕ) → ¬ (PrintsEnd (slice_index own 0 % 128) left shown)) → (text : List ℕ) → ¬ (PrintsRelay own text)
no_relay own left tail none text (flag, type, relay, shown, bit, e, print, p) =
    let few = end_type type relay shown print in
    let same : type ≡ (relay_flag * flag + type) % 128 = omega (arith, few) in
    let here : PrintsEnd ((relay_flag * flag + type) % 128) relay shown = subst (λ (n : ℕ). PrintsEnd n relay shown) same print in
    none shown (subst (λ (xs : List ℕ). PrintsEnd (slice_index own 0 % 128) xs shown) (sym tail) (subst (λ (xs : List ℕ). PrintsEnd (slice_index xs 0 % 128) (drop 1 xs) shown) (sym e) here))

-- octets are a host identity with this tag and key
pub identity_of : (own rest tag key : List ℕ) (len algorithm high low : ℕ) → own ≡ len ∷ algorithm ∷ high ∷ low ∷ rest → rest ≡ tag ++ key → length tag ≡ len → 1 ≤ length tag
    → 1 ≤ length key → high < 256 → low < 256 → len < 256 → length key ≡ high * 256 + low → AreTagAndKey tag key × (own ≡ identity_wire algorithm tag key)
identity_of own rest tag key len algorithm high low e parts size some_tag some_key h l t count =
    let first : high ≡ length key / 256 % 256 = omega (arith, count, h, l) in
    let second : low ≡ length key % 256 = omega (arith, count, h, l) in (
      record { some_tag = some_tag; short_tag = omega (arith, size, t); some_key = some_key; short_key = omega (arith, count, h, l) },
      e ∙ rw (parts, sym size, first, second) refl,
    )
