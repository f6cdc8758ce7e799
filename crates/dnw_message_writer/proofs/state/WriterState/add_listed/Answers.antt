use Rattle.std.proofs.Common.{◌≡◌, length}
use Rattle.dnw_message_writer.proofs.Listing.{listing_kept, listing_on}
use Rattle.dnw_message_writer.proofs.state.WriterState.add_listed.Goals as goal

pub returns-in-Err-clause-kept : goal.returns-in-Err-clause-kept
returns-in-Err-clause-kept c =
    listing_kept c.args.section c.args.owner c.args.record_type c.args.class c.args.ttl c.args.self.now c.args.message.now c.args.set.now c.records.invariant
    c.record_data-added.new.message c.in-Err.ensures.same.1

pub records-preserved : goal.records-preserved
records-preserved c =
    let next = c.in-Some.ensures in
    let size : length c.record_data-added.new.message ≡ length c.records.message = c.record_data-added.auto.message in
    let added = rw (c.clone.ensures.same, next.1) at c.in_default-added.ensures.ok in
    listing_on c.args.section c.args.owner c.args.record_type c.args.class c.args.ttl c.args.self.now c.args.message.now c.args.set.now c.records.invariant
    c.record_data-added.new.self c.record_data-added.new.message c.in-Some.rest.now next.0 next.2 size added
