-- A name is read from the octets that are its wire form.
use Rattle.std.proofs.Common.{◌≡◌, ◌∙◌, ◌<◌, [], Some, length, drop, ap, sym, arith}
use Rattle.std.proofs.lemmas.List.{append-nil, length-append}
use Rattle.dns_names_wire.specs.Words.{wire}
use Rattle.ans_answer.proofs.Targets.{gives_name, gives_none, gives_none_longer, is_whole, whole_if_long}
use Rattle.ans_answer.proofs.target.name_in.Goals as goal

pub returns-in_default : goal.returns-in_default
returns-in_default c =
    sym (gives_none c.args.octets.now (λ ls are is. c.in_default.ensures.none ls [] are (is ∙ sym (append-nil (wire ls)))))

pub returns-then-as_wire-octets : goal.returns-then-as_wire-octets
returns-then-as_wire-octets c =
    let ls = c.in-Some.labels in
    let (are, is) = c.in-Some.ensures.some in
    let rest = drop (length (wire ls)) c.args.octets.now in
    let long : length c.as_wire.result.now ≡ length (wire ls) = ap length c.as_wire.ensures.form in
    let longer : length (wire ls) < length c.args.octets.now = omega (arith, ap length is, length-append (wire ls) rest, long, c.if-as_wire-octets.true) in
    sym (gives_none_longer ls c.args.octets.now rest are is longer)

pub returns : goal.returns
returns c =
    let ls = c.in-Some.labels in
    let (are, is) = c.in-Some.ensures.some in
    let same = whole_if_long ls c.args.octets.now is (sym (ap length c.as_wire.ensures.form) ∙ c.if-as_wire-octets.false) in
    ap Some (c.name_of.ensures ∙ is_whole ls c.args.octets.now are same) ∙ sym (gives_name ls c.args.octets.now are same)
