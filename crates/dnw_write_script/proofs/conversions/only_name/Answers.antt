use Rattle.std.proofs.Common.{◌≡◌, true, ap, sym, ◌∙◌, rules}
use Rattle.dnw_base.specs.Names.{NameValue, wire}
use Rattle.dnw_write_script.proofs.WireRecords.{one_name}
use Rattle.dnw_write_script.proofs.conversions.only_name.Goals as goal

pub unwrap-name-requires : goal.unwrap-name-requires
unwrap-name-requires c =
    let (form, is) = c.requires in
    let (labels, after, k, takes, _) = one_name form c.args.rdata.now.octets (rw is at c.octets.ensures.of_type) in
    let read = (c.read.ensures.accepts after labels k (rw (c.new.ensures, c.octets.ensures.octets) takes)).0 in
    search rules

pub returns : goal.returns
returns c =
    let (form, is) = c.requires in
    let (labels, after, k, takes, whole) = one_name form c.args.rdata.now.octets (rw is at c.octets.ensures.of_type) in
    let read = (c.read.ensures.accepts after labels k (rw (c.new.ensures, c.octets.ensures.octets) takes)).0 in
    let same : c.unwrap-name.result ≡ labels = rw c.unwrap-name.ensures at read in
    let name : c.unwrap.result ≡ record { is_fqdn = true; labels = c.unwrap-name.result } = cc in
    (ap (λ (x : NameValue). x.is_fqdn) name, whole ∙ ap wire (sym same ∙ sym (ap (λ (x : NameValue). x.labels) name)))
