use Rattle.std.proofs.Common.{◌≡◌, List, ℕ, ◌∙◌}
use Rattle.ans_response.proofs.Readings.{front_taken, ok_holds, ok_if}
use Rattle.ans_response.proofs.aliases.first_name.Goals as goal

pub unwrap-name-requires : goal.unwrap-name-requires
unwrap-name-requires c =
    let (labels, e, k, at) = c.requires in
    ok_if _ _ (c.read.ensures.accepts _ _ _ (front_taken c.new-reader.result c.args.octets.now labels e k c.new-reader.ensures at)).0

pub returns : goal.returns
returns c labels e k at =
    c.copy_of.ensures
    ∙ ok_holds (λ (name : List (List ℕ)). name ≡ labels) c.read.result c.unwrap-name.result c.unwrap-name.ensures
    (c.read.ensures.accepts _ _ _ (front_taken c.new-reader.result c.args.octets.now labels e k c.new-reader.ensures at)).0
