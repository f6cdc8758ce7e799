-- What a copy of an error is: the same error; if it has an allocated text, one with the same bytes.
use Rattle.std.specs.Prelude.{◌≡◌, String, string_bytes}
use Rattle.std.specs.declared.alloc.Global.{Global}
use Rattle.dnw_base.specs.declared.error.ProtoError.{ProtoError}
use Rattle.dnw_base.specs.declared.error.ProtoError.TheVariants.{Decode, Msg}
use Rattle.dnw_base.specs.declared.error.DecodeError.{DecodeError}
use Rattle.dnw_base.specs.declared.error.DecodeError.TheVariants.{UnknownDnsClassStr, UnknownRecordTypeStr}

-- the copy is this variant, of a text with the same bytes
abbrev pub CopiesText : {E : Type 0} → (String Global → E) → String Global → E → Type 0
CopiesText variant text copy = (other : String Global) × (copy ≡ variant other) × (string_bytes other ≡ string_bytes text)

abbrev pub IsDecodeCopyOf : DecodeError → DecodeError → Type 0
IsDecodeCopyOf (UnknownDnsClassStr text) copy = CopiesText UnknownDnsClassStr text copy
IsDecodeCopyOf (UnknownRecordTypeStr text) copy = CopiesText UnknownRecordTypeStr text copy
IsDecodeCopyOf error copy = copy ≡ error

abbrev pub OwnsDecodeText : DecodeError → Type 0
OwnsDecodeText (UnknownDnsClassStr text) = Unit {0}
OwnsDecodeText (UnknownRecordTypeStr text) = Unit {0}
OwnsDecodeText error = ⊥

abbrev pub IsErrorCopyOf : ProtoError → ProtoError → Type 0
IsErrorCopyOf (Msg text) copy = CopiesText Msg text copy
IsErrorCopyOf (Decode cause) copy = (other : DecodeError) × (copy ≡ Decode other) × IsDecodeCopyOf cause other
IsErrorCopyOf error copy = copy ≡ error

-- the error has an allocated text, and so a copy allocates
abbrev pub OwnsText : ProtoError → Type 0
OwnsText (Msg text) = Unit {0}
OwnsText (Decode cause) = OwnsDecodeText cause
OwnsText error = ⊥
