use Rattle.std.proofs.Common.{◌≡◌, ◌++◌, ◌∷◌, OnOk, IfErr, [], get_or, replicate, take, ap, ◌∙◌, subst}
use Rattle.dnw_message_writer.specs.Edns.{ttl_of_edns, opt_data, padding}
use Rattle.dnw_message_writer.specs.Listed.{data_form, data_past}
use Rattle.dnw_message_writer.specs.States.{AddsItem, FailsToAdd}
use Rattle.dnw_message_writer.specs.declared.section.Section.TheVariants.{Additionals}
use Rattle.dnw_message_writer.proofs.Opts.{padding_is}
use Rattle.dnw_message_writer.proofs.state.WriterState.add_opt.Goals as goal

pub returns-clause-ok : goal.returns-clause-ok
returns-clause-ok c =
    let options = c.args.edns.now.options.now in
    let len = c.to_be_bytes-len.result in
    let same : options ++ ((0 ∷ 12 ∷ get_or len 0 0 ∷ get_or len 1 0 ∷ []) ++ take c.in-Some.size (replicate 512 0))
    ≡ opt_data c.args.edns.now c.args.block c.args.self.now c.args.message.now =
    ap (λ o. options ++ o) (padding_is len c.in-Some.size c.to_be_bytes-len.ensures c.in-Some.ensures.small ∙ ap padding c.in-Some.ensures.size) in
    subst (λ d. OnOk c.opt_record-2.result (AddsItem Additionals (data_form [] 41 c.args.edns.now.max_payload (ttl_of_edns c.args.edns.now) d) c.args.self.now
    c.args.message.now c.opt_record-2.new.self c.opt_record-2.new.message)) same
    (rw c.ttl_of-ttl.ensures at c.opt_record-2.ensures.ok)

pub returns-clause-err : goal.returns-clause-err
returns-clause-err c =
    let options = c.args.edns.now.options.now in
    let len = c.to_be_bytes-len.result in
    let same : options ++ ((0 ∷ 12 ∷ get_or len 0 0 ∷ get_or len 1 0 ∷ []) ++ take c.in-Some.size (replicate 512 0))
    ≡ opt_data c.args.edns.now c.args.block c.args.self.now c.args.message.now =
    ap (λ o. options ++ o) (padding_is len c.in-Some.size c.to_be_bytes-len.ensures c.in-Some.ensures.small ∙ ap padding c.in-Some.ensures.size) in
    subst (λ d. IfErr c.opt_record-2.result (FailsToAdd Additionals (data_past [] 41 c.args.edns.now.max_payload (ttl_of_edns c.args.edns.now) d) c.args.self.now
    c.args.message.now)) same
    (rw c.ttl_of-ttl.ensures at c.opt_record-2.ensures.err)
