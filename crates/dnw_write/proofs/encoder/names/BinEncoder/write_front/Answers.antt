-- The buffer ends after the pointer.
use Rattle.std.proofs.Common.{◌≡◌, ◌+◌, ◌≤◌, length, refl, arith}
use Rattle.dnw_write.specs.EncoderValue.{value}
use Rattle.dnw_write.specs.EmittedName.{pointer_to}
use Rattle.dnw_write.proofs.Suffixes.{both_written}
use Rattle.dnw_write.proofs.encoder.names.BinEncoder.write_front.Goals as goal

pub returns-clause-ok : goal.returns-clause-ok
returns-clause-ok c =
    let v = value c.args.self.now in
    let within : v.offset ≤ length v.bytes = omega arith in
    let e = v.offset + length c.args.front.now + 2 in
    let end : e ≡ v.offset + length c.args.front.now + length (pointer_to c.args.target) = refl in
    let size : length c.resize.new.self.items ≡ e = omega (arith, c.in_ok-resize.ensures.len) in
    let second = rw c.pointer_octets-2.ensures at c.put-2.ensures.value in
    both_written v (value c.put.new.self) (value c.put-2.new.self) e c.resize.new.self.items _ c.args.front.now (pointer_to c.args.target)
    within end c.in_ok-resize.ensures.items size c.put.ensures.value second
