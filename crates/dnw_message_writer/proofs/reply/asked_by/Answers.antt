use Rattle.std.proofs.Common.{◌/◌, ◌%◌, ◌^◌, ◌==◌, max, inl, inr, refl, sym, ap, ◌∙◌}
use Rattle.std.specs.Int.{bit_at}
use Rattle.dnw_base.specs.DnsClasses.{class_code}
use Rattle.dnw_base.specs.Limits.{min_payload}
use Rattle.dnw_message_read.specs.declared.edns.EdnsError.TheVariants.{CutOption, OwnerNotRoot}
use Rattle.dnw_message_writer.proofs.reply.asked_by.Goals as goal

pub returns-then-not-is_root : goal.returns-then-not-is_root
returns-then-not-is_root c =
    inl (OwnerNotRoot, λ root. (let yes = c.is_root.ensures.1 (c.owner.ensures ∙ root) in absurd cc), c.nothing_asked.ensures)

pub returns-then-not-are_options : goal.returns-then-not-are_options
returns-then-not-are_options c =
    inl (
      CutOption,
      (
        sym c.owner.ensures ∙ c.is_root.ensures.0 c.if-not-is_root.false,
        λ has. (let yes = c.are_options.ensures.1 (rw c.rdata.ensures.octets has) in absurd cc),
      ),
      c.nothing_asked-then-not-are_options.ensures,
    )

pub returns : goal.returns
returns c =
    let x = c.args.opt.now in
    let ttl = c.ttl-ttl.ensures in
    let (xs, are) = rw c.rdata.ensures.octets at (c.are_options.ensures.0 c.if-not-are_options.false) in
    let payload = c.max.ensures ∙ ap (λ n. max n min_payload) (c.from.ensures ∙ ap class_code c.class.ensures) in
    inr (
      record {
        max_payload = max (class_code x.class) min_payload;
        rcode_high = x.ttl / 2 ^ 24;
        version = x.ttl / 2 ^ 16 % 256;
        dnssec_ok = bit_at x.ttl 15 == 1;
        start = x.start;
        len = x.len;
        options = xs;
      },
      (sym c.owner.ensures ∙ c.is_root.ensures.0 c.if-not-is_root.false, refl, refl, refl, refl, refl, refl, are),
      rw (payload, c.code_for.ensures, ttl) refl,
    )
