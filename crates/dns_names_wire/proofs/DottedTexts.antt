-- The wire form of a name and its text are those of the same labels.
use Rattle.std.proofs.Common.{◌≡◌, Bool, true, false, List, [], ℕ, length, refl, sym, arith}
use Rattle.std.proofs.lemmas.List.{append-nil}
use Rattle.dnw_base.specs.Names.{wire}
use Rattle.dnw_base.proofs.Wires.{length_wire}
use Rattle.dnw_name_read.proofs.Back.{Reads_wire}
use Rattle.dnw_name_text.specs.AsciiText.{name_text}
use Rattle.dns_names_wire.specs.TextLaws.{BytesAndTextsAgree, dotted_text}

text_of : (is_fqdn : Bool) (ls : List (List ℕ)) → name_text (record { is_fqdn = true; labels = ls }) ≡ dotted_text (record { is_fqdn = is_fqdn; labels = ls })
text_of true ls = refl
text_of false ls = simp append-nil

pub bytes_and_texts : BytesAndTextsAgree
bytes_and_texts n are =
    let form = wire n.labels in
    let read = Reads_wire form [] [] n.labels 0 0 (length form) refl (omega (arith, length_wire n.labels)) (sym (append-nil form)) are.each in
    (record { reads = read; fits = are.fit }, text_of n.is_fqdn n.labels)
