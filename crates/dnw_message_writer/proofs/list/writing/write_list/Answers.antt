-- The items of a list are not all written, or what comes last is not.
use Rattle.std.proofs.Common.{◌≡◌, ◌≤◌, ℕ, Bool, List, inl, inr, is_some, ap, subst, ◌∙◌}
use Rattle.std.proofs.lemmas.Result.{err_from_is_err_and}
use Rattle.dnw_message_writer.specs.Replies.{most_code}
use Rattle.dnw_message_writer.specs.States.{BeginsMessage}
use Rattle.dnw_message_writer.specs.declared.needs.Purpose.{Purpose}
use Rattle.dnw_message_writer.specs.declared.state.WriterState.{WriterState}
use Rattle.dnw_message_writer.specs.Lists.{ScansList, Starts, progress, progress_at, with_code}
use Rattle.dnw_message_writer.specs.ListEnds.{held_by}
use Rattle.dnw_message_writer.specs.declared.list.ends.Ends.{Ends}
use Rattle.dnw_message_writer.proofs.list.writing.write_list.Goals as goal

-- the message has begun
module _ (id : ℕ) (old : List ℕ) {list : List ℕ} {max_size flags code : ℕ} (ends : Ends) (needs : Purpose) (w : WriterState) (m : List ℕ) where
  started : (said : Bool) (most both held : ℕ) → ScansList list flags ends needs → said ≡ is_some ends.opt → most ≡ most_code said → code ≤ most
      → both ≡ with_code flags code → BeginsMessage id both max_size old w m → held ≡ held_by ends
      → Starts list max_size id flags code old ends needs (progress_at list (record w { reserved = held }) m)
  started said most both held scans said_is most_is fits both_is begins held_is = (
    scans,
    subst (λ n. code ≤ n) (most_is ∙ ap most_code said_is) fits,
    w,
    m,
    subst (λ f. BeginsMessage id f max_size old w m) both_is begins,
    ap (λ h. progress_at list (record w { reserved = h }) m) held_is,
  )

pub returns-in_err-missing : goal.returns-in_err-missing
returns-in_err-missing c =
    let found = c.in_ok-scan.scan in
    let w = c.begin.new.writer in
    let m = c.begin.new.message in
    let first = progress_at c.args.items.now (record w { reserved = c.held.result }) m in
    let starts : Starts c.args.items.now c.args.max_size c.args.id c.args.flags c.args.code c.args.message.now found.ends found.purpose first =
    started c.args.id c.args.message.now found.ends found.purpose w m c.is_some.result c.most_code.result c.with_code.result c.held.result c.in_ok-scan.ensures.ok
    c.is_some.ensures c.most_code.ensures c.if-code-most_code.false c.with_code.ensures c.in_ok-begin.ensures.ok c.held.ensures in
    let (p, goes, fails) = rw c.is_bare-bare.ensures at c.in_err-missing.ensures.err in
    let e = err_from_is_err_and c.from_residual-in_err-missing.result c.from_residual-in_err-missing.ensures.1 in
    rw (e.1, e.2) (inr (inr (inr (found.ends, found.purpose, first, p, starts, goes, inl fails))))

pub returns-in_err-write : goal.returns-in_err-write
returns-in_err-write c =
    let found = c.in_ok-scan.scan in
    let w = c.begin.new.writer in
    let m = c.begin.new.message in
    let first = progress_at c.args.items.now (record w { reserved = c.held.result }) m in
    let starts : Starts c.args.items.now c.args.max_size c.args.id c.args.flags c.args.code c.args.message.now found.ends found.purpose first =
    started c.args.id c.args.message.now found.ends found.purpose w m c.is_some.result c.most_code.result c.with_code.result c.held.result c.in_ok-scan.ensures.ok
    c.is_some.ensures c.most_code.ensures c.if-code-most_code.false c.with_code.ensures c.in_ok-begin.ensures.ok c.held.ensures in
    let (d, left, goes, missing, over) = rw c.is_bare-bare.ensures at c.in_ok-missing.ensures.ok in
    let p = progress d c.write_items.new.writer c.write_items.new.message left in
    let e = err_from_is_err_and c.from_residual-in_err-write.result c.from_residual-in_err-write.ensures.1 in
    rw (e.1, e.2) (inr (inr (inr (found.ends, found.purpose, first, p, starts, goes, inr (over, c.in_err-write.ensures.err)))))
