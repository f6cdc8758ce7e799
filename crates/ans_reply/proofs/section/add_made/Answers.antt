use Rattle.std.proofs.Common.{◌≡◌, ◌∙◌, List, ℕ, Option, Some, None, ap, refl, rules, sym}
use Rattle.dns_names_wire.specs.Words.{RecordValue, class_code, cname_code, wire}
use Rattle.ans_reply.specs.Sections.{ReplyRecord, each_once, made_alias, made_aliases, with_once}
use Rattle.ans_reply.proofs.section.add_made.Goals as goal

none_made : (before : List ReplyRecord) (owner name : List (List ℕ)) (found : Option RecordValue) → found ≡ None
    → before ≡ each_once before (made_aliases owner name found)
unfolding each_once
none_made before owner name found is = rw is refl

one_made : (before now : List ReplyRecord) (x : ReplyRecord) (owner name : List (List ℕ)) (found : Option RecordValue) (r : RecordValue) → found ≡ Some r
    → x ≡ made_alias owner name r → now ≡ with_once before x → now ≡ each_once before (made_aliases owner name found)
unfolding each_once
one_made before now x owner name found r is made once =
    once ∙ (ap (with_once before) made ∙ ap (λ (o : Option RecordValue). each_once before (made_aliases owner name o)) (sym is))

made_is : (owner name : List (List ℕ)) (class ttl : ℕ) (octets : List ℕ) (r : RecordValue) → class ≡ class_code r.class → ttl ≡ r.ttl → octets ≡ wire name
    → record { owner = owner; code = cname_code; class = class; ttl = ttl; octets = octets } ≡ made_alias owner name r
made_is owner name class ttl octets r is_class is_ttl is_octets = rw (is_class, is_ttl, is_octets) refl

pub returns-in_default : goal.returns-in_default
returns-in_default c name is = none_made c.args.records.now.items c.args.owner.labels name _ (sym c.first_of.ensures ∙ c.in_default.is)

pub returns : goal.returns
returns c name is =
    let r = c.in-Some.record in
    let class : c.code-class.result ≡ class_code r.class = search rules in
    let ttl : c.ttl.result ≡ r.ttl = search rules in
    one_made c.args.records.now.items c.push_once.new.records.items c.new.result c.args.owner.labels name _ r (sym c.first_of.ensures ∙ c.in-Some.is)
    (c.new.ensures ∙ made_is c.args.owner.labels name c.code-class.result c.ttl.result c.args.target.now r class ttl is) c.in_ok-push_once.ensures
