use Rattle.std.proofs.Common.{◌≤◌, length, ap, inl, inr, subst, arith}
use Rattle.std.proofs.lemmas.List.{length-map}
use Rattle.dnw_base.specs.RecordTypes.{type_code}
use Rattle.dnw_c_base.proofs.Exits.{refused, within}
use Rattle.dnw_c_base.specs.Results.{Puts}
use Rattle.dnw_data.proofs.Few.{bitmaps_list_few}
use Rattle.dnw_data.specs.SetLaws.{most_types}
use Rattle.dnw_c_messages.specs.TypeLists.{FailsToList}
use Rattle.dnw_c_messages.proofs.type_sets.read.Goals as goal

pub returns-in_err-listed : goal.returns-in_err-listed
returns-in_err-listed c =
    inr (refused (FailsToList c.args.bitmap.now) c.args.codes.now c.from_residual.result _ c.from_residual.ensures.1 c.in_err-listed.ensures.err)

pub returns : goal.returns
returns c =
    let codes = c.in_ok-listed.listed.items in
    let old = c.args.codes.now in
    let new = c.put_codes.new.list in
    let (is, (types, set, listed)) = c.in_ok-listed.ensures.ok in
    let puts = subst (λ l. Puts l (length l) old new c.put_codes.result) c.as_slice.ensures.value c.put_codes.ensures in
    let few : length codes ≤ most_types c.args.bitmap.now =
    omega (arith, bitmaps_list_few c.args.bitmap.now types set, ap length listed, length-map types type_code) in
    inl (codes, is, (types, set, listed), within _ codes (length codes) old new _ puts few)
