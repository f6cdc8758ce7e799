use Rattle.std.proofs.Common.{◌/◌, ◌%◌, ◌^◌, ◌==◌, max, sym, ap, ◌∙◌}
use Rattle.std.specs.Int.{bit_at}
use Rattle.dnw_base.specs.DnsClasses.{class_code}
use Rattle.dnw_base.specs.Limits.{min_payload}
use Rattle.dnw_message_read.proofs.Extension.{options_there}
use Rattle.dnw_message_read.proofs.edns.EdnsRef.read.Goals as goal

pub returns-clause-ok : goal.returns-clause-ok
returns-clause-ok c =
    let ttl = c.ttl-ttl.ensures in (
      sym c.owner.ensures ∙ c.is_root.ensures.0 c.if-not-is_root.false,
      c.max.ensures ∙ ap (λ n. max n min_payload) (c.from.ensures ∙ ap class_code c.class.ensures),
      ap (λ n. n / 2 ^ 24) ttl,
      ap (λ n. n / 2 ^ 16 % 256) ttl,
      ap (λ n. bit_at n 15 == 1) ttl,
      c.rdata_offset.ensures,
      c.rdata-options.ensures.len,
      options_there c.rdata-options.result.now _ c.rdata-options.ensures.octets (c.are_options.ensures.0 c.if-not-are_options.false),
    )
