use Rattle.std.proofs.Common.{◌≡◌, ◌+◌, ◌≤◌, length, ap, arith}
use Rattle.dnw_base.proofs.Wires.{AreLabels_few}
use Rattle.dnw_name.proofs.name.Name.num_labels.Goals as goal
use Rattle.dnw_name.proofs.name.Name.num_labels.Goals.{After-len-others}

-- there are few labels after the first
few : (c : After-len-others) → c.len-others.result + 1 ≤ 127
few c =
    let all : length c.wire_labels-labels.result ≡ length c.args.self.now.labels = ap length c.wire_labels-labels.ensures.labels in
    let split : length c.wire_labels-labels.result ≡ length c.next.new.self + 1 = rw c.in-Some.ensures.steps (omega arith) in
    omega (arith, AreLabels_few _ c.wire_labels-labels.ensures.names)

pub overflow_cast-others : goal.overflow_cast-others
overflow_cast-others c = omega (arith, few c)

pub overflow_add-result : goal.overflow_add-result
overflow_add-result c = omega (arith, few (goal.at.overflow_add-result c).After-len-others)
