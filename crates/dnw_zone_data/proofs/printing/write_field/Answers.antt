use Rattle.std.proofs.Common.{List, ℕ, subst, IfOk}
use Rattle.std.specs.Prelude.{string_bytes}
use Rattle.dnw_zone_data.specs.Printing.{PrintsStrings}
use Rattle.dnw_zone_data.specs.Appending.{Appended}
use Rattle.dnw_zone_data.specs.TypeLists.{PrintsTypes}
use Rattle.dnw_zone_data.specs.NameLists.{PrintsNames}
use Rattle.dnw_zone_data.specs.ParamLists.{PrintsParams}
use Rattle.dnw_zone_data.specs.PrefixLists.{PrintsPrefixes}
use Rattle.dnw_zone_data.proofs.printing.write_field.Goals as goal

pub returns-in-Texts : goal.returns-in-Texts
returns-in-Texts c =
    let Is : List ℕ → Type 0 = λ own. IfOk c.write_strings.result (Appended (PrintsStrings own) (string_bytes c.args.out.now) (string_bytes c.write_strings.new.out)) in
    rw c.in-Texts.is (subst Is c.as_bytes.ensures.octets c.write_strings.ensures)

pub returns-in-Types : goal.returns-in-Types
returns-in-Types c =
    let Is : List ℕ → Type 0 = λ own. IfOk c.write_types.result (Appended (PrintsTypes own) (string_bytes c.args.out.now) (string_bytes c.write_types.new.out)) in
    rw c.in-Types.is (subst Is c.as_bytes-in-Types.ensures.octets c.write_types.ensures)

pub returns-in-Params : goal.returns-in-Params
returns-in-Params c =
    let Is : List ℕ → Type 0 = λ own. IfOk c.write_param_list.result (Appended (PrintsParams own) (string_bytes c.args.out.now) (string_bytes c.write_param_list.new.out)) in
    rw c.in-Params.is (subst Is c.as_bytes-in-Params.ensures.octets c.write_param_list.ensures)

pub returns-in-Names : goal.returns-in-Names
returns-in-Names c =
    let Is : List ℕ → Type 0 = λ own. IfOk c.write_names.result (Appended (PrintsNames own) (string_bytes c.args.out.now) (string_bytes c.write_names.new.out)) in
    rw c.in-Names.is (subst Is c.as_bytes-in-Names.ensures.octets c.write_names.ensures)

pub returns-in-Prefixes : goal.returns-in-Prefixes
returns-in-Prefixes c =
    let Is : List ℕ → Type 0 = λ own. IfOk c.write_prefixes.result (Appended (PrintsPrefixes own) (string_bytes c.args.out.now) (string_bytes c.write_prefixes.new.out)) in
    rw c.in-Prefixes.is (subst Is c.as_bytes-in-Prefixes.ensures.octets c.write_prefixes.ensures)
