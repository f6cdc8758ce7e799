-- A key has zeros after it, up to a block.
use Rattle.std.proofs.Common.{◌≡◌, ◌≤◌, ◌-◌, ◌++◌, ℕ, List, length, take, replicate, lit≤, ap, ◌∙◌, arith}
use Rattle.std.proofs.lemmas.List.{take-replicate}
use Rattle.ans_tsig.specs.Hmac.{block_octets}
use Rattle.ans_tsig.specs.declared.hash.Hash.{Hash}
use Rattle.ans_tsig.specs.declared.hash.Hash.TheVariants.{Md5, Sha1, Sha224, Sha256, Sha384, Sha512}

pub blocks_fit : (h : Hash) → block_octets h ≤ 128
blocks_fit Md5 = lit≤ tt
blocks_fit Sha1 = lit≤ tt
blocks_fit Sha224 = lit≤ tt
blocks_fit Sha256 = lit≤ tt
blocks_fit Sha384 = lit≤ tt
blocks_fit Sha512 = lit≤ tt

pub padded : (new items key zeros : List ℕ) (block size long : ℕ) → new ≡ items ++ zeros → zeros ≡ take (size - long) (replicate 128 0)
    → items ≡ key → size ≡ block → long ≡ length items → block ≤ 128 → new ≡ key ++ replicate (block - length key) 0
padded new items key zeros block size long grown are is sized len fits =
    let count : size - long ≡ block - length key = let l = ap length is in omega arith in
    let most : block - length key ≤ 128 = omega arith in
    grown ∙ ap (λ (xs : List ℕ). xs ++ zeros) is
    ∙ ap (λ (xs : List ℕ). key ++ xs) (are ∙ ap (λ n. take n (replicate 128 0)) count ∙ take-replicate (block - length key) 128 0 most)
