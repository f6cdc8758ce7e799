-- Servers that are found one by one.
use Rattle.std.proofs.Common.{◌≡◌, ℕ, ◌+◌, ◌-◌, ◌<◌, ◌≤◌, ◌==◌, Bool, true, false, List, [], ◌∷◌, ◌++◌, length, get_or, take, drop, Option, Some, None, refl, sym, ap, ◌∙◌}
use Rattle.std.proofs.lemmas.Grind.{flat_map-append}
use Rattle.std.specs.List.{flat_map}
use Rattle.std.specs.Option.{option_map, option_to_list}
use Rattle.dns_names_wire.specs.Words.{RecordValue, any_code}
use Rattle.ans_store.specs.Zones.{ZoneValue}
use Rattle.ans_answer.specs.Additionals.{server}
use Rattle.ans_answer.specs.Answers.{ZoneAnswer, records_of_type}
use Rattle.ans_answer.specs.Outcomes.{is_wanted}
use Rattle.ans_answer.specs.Seen.{part_seen, parts_seen}
use Rattle.ans_answer.specs.declared.answer.Part.{Part}
use Rattle.ans_answer.specs.declared.answer.Part.TheVariants as parts
use Rattle.ans_reply.specs.Inside.Roles.{owned_in, with_wanted_server}
use Rattle.ans_reply.specs.Sections.{address_parts, each_once, helping_parts, is_referral, own_records, part_records, section_of, servers_of, with_server}
use Rattle.ans_reply.proofs.Ranges.{drop_next, range_next, range_none}

-- the names of servers
abbrev pub Servers : Type 0
Servers = List (List (List ℕ))

pub servers_append : (names : Servers) (xs ys : List RecordValue) → servers_of names (xs ++ ys) ≡ servers_of (servers_of names xs) ys
unfolding servers_of
servers_append names [] ys = refl
servers_append names (x ∷ xs) ys = servers_append (with_server names (server x)) xs ys

-- ---- the records of a type

abbrev pub servers_from : List RecordValue → ℕ → ℕ → ℕ → Servers → Servers
servers_from zs code k e names = servers_of names (records_of_type code (take (e - k) (drop k zs)))

server_first : (names : Servers) (code : ℕ) (r : RecordValue) (rs : List RecordValue)
    → servers_of (with_wanted_server code names r) (records_of_type code rs) ≡ servers_of names (records_of_type code (r ∷ rs))
unfolding servers_of records_of_type
server_first names code r rs = by (is_wanted code r) refl
  where
    by : (b : Bool) → b ≡ is_wanted code r
        → servers_of (with_wanted_server code names r) (records_of_type code rs) ≡ servers_of names (records_of_type code (r ∷ rs))
    by true is = rw (sym is) refl
    by false is = rw (sym is) refl

pub servers_step : (before now : Servers) (zs : List RecordValue) (code k e : ℕ) (r : RecordValue) → k < e → e ≤ length zs → r ≡ get_or zs k r
    → now ≡ with_wanted_server code before r → servers_from zs code (k + 1) e now ≡ servers_from zs code k e before
servers_step before now zs code k e r h within is is_now =
    ap (servers_from zs code (k + 1) e) is_now
    ∙ (server_first before code r (take (e - (k + 1)) (drop (k + 1) zs))
    ∙ ap (λ (rs : List RecordValue). servers_of before (records_of_type code rs)) (sym (range_next zs k e r h within is)))

pub servers_end : (before : Servers) (zs : List RecordValue) (code k e : ℕ) → e ≤ k → servers_from zs code k e before ≡ before
unfolding servers_of records_of_type
servers_end before zs code k e h = ap (λ (rs : List RecordValue). servers_of before (records_of_type code rs)) (range_none zs k e h)

-- ---- the records of parts

own_is : (zs : List RecordValue) (names : List (List (List ℕ))) (p : Part) → own_records (part_seen zs names p) ≡ owned_in zs p
own_is zs names (parts.Kept node code) = refl
own_is zs names (parts.Named number node code) = refl
own_is zs names (parts.Made number node) = refl
own_is zs names (parts.Denying node) = refl

own_all : (zs : List RecordValue) (names : List (List (List ℕ))) (ps : List Part) → flat_map own_records (parts_seen zs names ps) ≡ flat_map (owned_in zs) ps
own_all zs names [] = refl
own_all zs names (p ∷ ps) =
    ap (λ (xs : List RecordValue). xs ++ flat_map own_records (parts_seen zs names ps)) (own_is zs names p)
    ∙ ap (λ (xs : List RecordValue). owned_in zs p ++ xs) (own_all zs names ps)

pub named_step : (zs : List RecordValue) (before now : Servers) (ps : List Part) (i : ℕ) (p : Part) → i < length ps → p ≡ get_or ps i p
    → now ≡ servers_of before (owned_in zs p)
    → servers_of now (flat_map (owned_in zs) (drop (i + 1) ps)) ≡ servers_of before (flat_map (owned_in zs) (drop i ps))
named_step zs before now ps i p h is is_now =
    let rest = flat_map (owned_in zs) (drop (i + 1) ps) in
    ap (λ (ns : Servers). servers_of ns rest) is_now
    ∙ (sym (servers_append before (owned_in zs p) rest)
    ∙ ap (λ (qs : List Part). servers_of before (flat_map (owned_in zs) qs)) (sym (drop_next ps i p h is)))

pub named_none : (zs : List RecordValue) (before : Servers) (ps : List Part) (i : ℕ) → drop i ps ≡ []
    → servers_of before (flat_map (owned_in zs) (drop i ps)) ≡ before
unfolding servers_of
named_none zs before ps i none = ap (λ (qs : List Part). servers_of before (flat_map (owned_in zs) qs)) none

option_seen : (zs : List RecordValue) (names : List (List (List ℕ))) (p : Option Part)
    → parts_seen zs names (option_to_list p) ≡ option_to_list (option_map (part_seen zs names) p)
option_seen zs names None = refl
option_seen zs names (Some p) = refl

-- The servers of an answer are those that the records of its parts name.
pub all_named : (zs : List RecordValue) (names : List (List (List ℕ))) (ps : List Part) (found authority : Option Part)
    → servers_of (servers_of (servers_of [] (flat_map (owned_in zs) ps)) (flat_map (owned_in zs) (option_to_list found))) (flat_map (owned_in zs) (option_to_list authority))
    ≡ servers_of [] (flat_map own_records (parts_seen zs names (ps ++ option_to_list found) ++ option_to_list (option_map (part_seen zs names) authority)))
all_named zs names ps found authority =
    let own = λ (qs : List Part). flat_map (owned_in zs) qs in
    let last = option_to_list authority in
    let first = ps ++ option_to_list found in
    let joined : own first ++ own last ≡ flat_map own_records (parts_seen zs names first ++ option_to_list (option_map (part_seen zs names) authority)) =
    ap (λ (xs : List RecordValue). xs ++ own last) (sym (own_all zs names first))
    ∙ (ap (λ (xs : List RecordValue). flat_map own_records (parts_seen zs names first) ++ xs)
    (sym (own_all zs names last) ∙ ap (flat_map own_records) (option_seen zs names authority))
    ∙ sym (flat_map-append own_records (parts_seen zs names first) (option_to_list (option_map (part_seen zs names) authority)))) in
    ap (λ (ns : Servers). servers_of ns (own last)) (sym (servers_append [] (own ps) (own (option_to_list found))))
    ∙ (sym (servers_append [] (own ps ++ own (option_to_list found)) (own last))
    ∙ (ap (λ (xs : List RecordValue). servers_of [] (xs ++ own last)) (sym (flat_map-append (owned_in zs) ps (option_to_list found)))
    ∙ ap (servers_of []) joined))

-- ---- what helps

pub helped : (zone : ZoneValue) (code : ℕ) (a : ZoneAnswer) (referral : Bool) (names : Servers) → (code == any_code) ≡ false → referral ≡ is_referral a.authority
    → names ≡ servers_of [] (flat_map own_records (a.answers ++ option_to_list a.authority))
    → each_once [] (flat_map part_records (flat_map (address_parts zone referral) names)) ≡ section_of (helping_parts zone code a)
unfolding section_of helping_parts
helped zone code a referral names other is are = rw (is, are, other) refl

pub not_helped : (zone : ZoneValue) (code : ℕ) (a : ZoneAnswer) → (code == any_code) ≡ true → section_of (helping_parts zone code a) ≡ []
unfolding section_of helping_parts each_once
not_helped zone code a all = rw all refl
