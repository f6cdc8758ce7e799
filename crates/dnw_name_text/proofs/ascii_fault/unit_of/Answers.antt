use Rattle.std.proofs.Common.{refl}
use Rattle.dnw_base.specs.Fault.{UnrecognizedChar, IllegalChar}
use Rattle.dnw_name_text.specs.AsciiText.{Char, Dot}
use Rattle.dnw_name_text.specs.declared.ascii_fault.TextRule.TheVariants.{Character, Digit}
use Rattle.dnw_name_text.proofs.Wrong.{element_read, stop_read, enters, nothing_read, text_ends}
use Rattle.dnw_name_text.proofs.ascii_fault.unit_of.Goals as goal

pub loop-c-init : goal.loop-c-init
loop-c-init c = nothing_read _ c.utf8.text

pub returns-in-Char : goal.returns-in-Char
returns-in-Char c =
    let (first, shorter, utf8) = c.in-Some.ensures in
    element_read _ _ _ _ _ c.loop-c.invariant first (Char c.in-Char.c) c.in-Char.ensures.elements shorter utf8

pub returns-in-Dot : goal.returns-in-Dot
returns-in-Dot c =
    let (first, shorter, utf8) = c.in-Some.ensures in
    element_read _ _ _ _ _ c.loop-c.invariant first Dot c.in-Dot.ensures.elements shorter utf8

pub returns-in-Unrecognized : goal.returns-in-Unrecognized
returns-in-Unrecognized c = stop_read _ _ _ _ _ c.loop-c.invariant c.in-Some.ensures.0 Character (UnrecognizedChar c.in-Some.c) refl (λ e. cc) c.in-Unrecognized.ensures.elements

pub returns-in-Illegal : goal.returns-in-Illegal
returns-in-Illegal c = stop_read _ _ _ _ _ c.loop-c.invariant c.in-Some.ensures.0 Digit (IllegalChar c.in-Some.c) refl (λ e. cc) c.in-Illegal.ensures.elements

pub loop-c-preserved : goal.loop-c-preserved
loop-c-preserved c =
    let (first, shorter, utf8) = c.in-Some.ensures in
    enters _ _ _ _ _ c.loop-c.invariant first c.in-Enter.next c.in-Enter.ensures.inside c.in-Enter.ensures.elements shorter utf8

pub returns : goal.returns
returns c = text_ends _ _ _ c.loop-c.invariant c.utf8.text c.in_default.ensures c.requires
