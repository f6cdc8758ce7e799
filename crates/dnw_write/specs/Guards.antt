-- What a contract sees of a guard: the encoder that it lends, and the mode that its drop puts back.
use Rattle.std.specs.Prelude.{◌≡◌, List}
use Rattle.std.specs.Borrow.{MutBor, GName}
use Rattle.dnw_write.specs.declared.encoder.BinEncoder.{BinEncoder}
use Rattle.dnw_write.specs.declared.encoder.modal.ModalEncoder.{ModalEncoder}
use Rattle.dnw_write.specs.declared.encoder.modes.NameEncoding.{NameEncoding}
use Rattle.dnw_write_suffixes.specs.Candidates.{Candidate}
use Rattle.dnw_write.specs.EncoderValue.{value, lender}

-- the encoder that is lent
abbrev pub guarded : ModalEncoder → BinEncoder (List Candidate)
guarded guard = guard.inner.now

-- the loan of that encoder
abbrev pub guard_lender : ModalEncoder → GName
guard_lender guard = guard.inner.ghost_name

-- the mode from before the guard
abbrev pub former : ModalEncoder → NameEncoding
former guard = guard.previous

-- A guard was made of an encoder: it lends that encoder, and will put this mode
-- back.
pub record Guards (e : MutBor (BinEncoder (List Candidate))) (mode : NameEncoding) (guard : ModalEncoder) : Type 0 where
  pub loan : guard_lender guard ≡ e.ghost_name
  pub buffer : lender (guarded guard) ≡ lender e.now
  pub mode_set : value (guarded guard) ≡ record (value e.now) { encoding = mode }
  pub mode_kept : former guard ≡ (value e.now).encoding
