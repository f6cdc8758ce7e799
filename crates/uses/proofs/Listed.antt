-- Types are listed as their codes are.
use Rattle.std.proofs.Common.{◌≡◌, ◌↔◌, ◌∷◌, Bool, IsTrue, zero, suc, ℕ, List, [], Contains, map, refl, sym, ap, subst, arith}
use Rattle.dns_names_wire.specs.Words.{BitmapsAreWindows, IsSetOf, RecordType, WindowsListBits, bitmap_types, type_of_code, windows_codes, windows_of}
use Rattle.uses.specs.Bitmaps.{IsListed}

mapped_from : {A B : Type 0} (f : A → B) (xs : List A) (y : B) → Contains (map f xs) y → (x : A) × Contains xs x × (f x ≡ y)
mapped_from f [] y (k, less, is) = absurd (omega arith)
mapped_from f (x ∷ xs) y (zero, less, is) = (x, (0, omega arith, refl), is)
mapped_from f (x ∷ xs) y (suc k, less, is) =
    let (z, (i, within, has), same) = mapped_from f xs y (k, omega arith, is) in (z, (suc i, omega arith, has), same)

mapped_at : {A B : Type 0} (f : A → B) (xs : List A) (x : A) → Contains xs x → Contains (map f xs) (f x)
mapped_at f [] x (k, less, is) = absurd (omega arith)
mapped_at f (y ∷ ys) x (zero, less, is) = (0, omega arith, ap f is)
mapped_at f (y ∷ ys) x (suc k, less, is) = let (i, within, has) = mapped_at f ys x (k, omega arith, is) in (suc i, omega arith, has)

lists_bits : BitmapsAreWindows → WindowsListBits → (bytes : List ℕ) (types : List RecordType) (record_type : RecordType)
    → IsSetOf (bitmap_types bytes) types → Contains types record_type ↔ IsListed bytes record_type
lists_bits are list bytes types record_type set = (
  λ has. (
      let (code, listed, same) = mapped_from type_of_code (windows_codes (windows_of bytes)) record_type (set.no_others record_type has) in
      (windows_of bytes, code, (are bytes (windows_of bytes)).1 refl, (list (windows_of bytes) code).0 listed, same)
      ),
  λ (windows, code, is, bit, same). (
      let listed : Contains (windows_codes (windows_of bytes)) code =
      subst (λ ws. Contains (windows_codes ws) code) (sym ((are bytes windows).0 is)) ((list windows code).1 bit) in
      set.all record_type (subst (Contains (bitmap_types bytes)) same (mapped_at type_of_code (windows_codes (windows_of bytes)) code listed))
      ),
)

pub finds_bits : BitmapsAreWindows → WindowsListBits → (bytes : List ℕ) (types : List RecordType) (record_type : RecordType)
    → IsSetOf (bitmap_types bytes) types → (found : Bool) → IsTrue found ↔ Contains types record_type → IsTrue found ↔ IsListed bytes record_type
finds_bits are list bytes types record_type set found finds =
    let listed = lists_bits are list bytes types record_type set in
    (λ yes. listed.0 (finds.0 yes), λ has. finds.1 (listed.1 has))
