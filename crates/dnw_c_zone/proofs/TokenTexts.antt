-- The bytes of a list's words, word by word, and tokens that are put.
use Rattle.std.proofs.Common.{◌≡◌, ℕ, suc, ◌+◌, ◌<◌, List, [], ◌∷◌, ◌++◌, length, map, drop, get_or, Ok, inl, inr, refl, sym, ◌∙◌, ap, append_assoc, add-one, drop-cons, String, string_bytes}
use Rattle.std.specs.declared.alloc.Global.{Global}
use Rattle.std.specs.Str.{IsUtf8}
use Rattle.std.proofs.lemmas.Str.{IsUtf8-string_bytes, encodes-chars}
use Rattle.std.specs.Str.{encode_utf8_all}
use Rattle.dnw_zone_lexer.specs.Lexing.{characters}
use Rattle.dnw_zone_lexer.specs.Tokens.{TokenValue}
use Rattle.dnw_c_zone.specs.TokenCalls.{PutsToken, list_bytes, read_token}
use Rattle.dnw_c_zone.specs.declared.tokens.LexerState.{LexerState}
use Rattle.dnw_c_zone.specs.declared.tokens.ReadToken.{ReadToken}

-- one more word
pub words_more : (bytes all : List ℕ) (word : String Global) (rest : List (String Global))
    → IsUtf8 (string_bytes word) → bytes ++ list_bytes (map characters (word ∷ rest)) ≡ all
    → ((bytes ++ string_bytes word) ++ 0 ∷ []) ++ list_bytes (map characters rest) ≡ all
words_more bytes all word rest utf8 h =
    let spelled = encodes-chars (string_bytes word) utf8 in
    let whole = rw spelled at h in
    simp append_assoc (simp append_assoc at whole)

-- the next word of a list
pub words_step : (items words : List (String Global)) (i : ℕ) (word : String Global) (bytes longer own after : List ℕ)
    → items ≡ words → i < length items → word ≡ get_or items i word → IsUtf8 (string_bytes word)
    → own ≡ string_bytes word → longer ≡ bytes ++ own → after ≡ longer ++ 0 ∷ []
    → bytes ++ list_bytes (map characters (drop i words)) ≡ list_bytes (map characters words)
    → after ++ list_bytes (map characters (drop (i + 1) words)) ≡ list_bytes (map characters words)
words_step items words i word bytes longer own after same within is utf8 text more zero h =
    let inside : i < length words = rw (← same) within in
    let here : word ≡ get_or words i word = is ∙ ap (λ (l : List (String Global)). get_or l i word) same in
    let cut : drop i words ≡ word ∷ drop (i + 1) words =
    rw add-one (drop-cons words i word inside ∙ ap (λ (w : String Global). w ∷ drop (suc i) words) (sym here)) in
    let whole = words_more bytes (list_bytes (map characters words)) word (drop (i + 1) words) utf8 (rw cut at h) in
    rw (zero, more, text) whole

-- the characters of a text are encoded as its bytes
pub text_bytes : (text : String Global) → encode_utf8_all (characters text) ≡ string_bytes text
text_bytes text = encodes-chars (string_bytes text) (IsUtf8-string_bytes text)

-- the texts of a token are put, whatever is returned beside it
pub put_before : (value : TokenValue) (read : ReadToken) (after : LexerState) (old new : List ℕ)
    → PutsToken value (read_token value) old new (Ok read) → PutsToken {T = ReadToken × LexerState} value (read_token value, after) old new (Ok (read, after))
put_before value read after old new (inl (is, fits, now)) = inl (rw is refl, fits, now)
put_before value read after old new (inr h) = absurd h
